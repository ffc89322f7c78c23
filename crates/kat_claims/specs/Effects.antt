-- What an operation gives to the leaves of a component, joined with what is there.
use Rattle.std.specs.Prelude.{ℕ, zero, suc, ◌+◌, pos, nat_lt, Bool, true, false, if◌then◌else◌, List, [], ◌∷◌, Option, None, Some, slice_get}
use Rattle.std.specs.Option.{option_flatten}
use Rattle.kat_linear.specs.Rows.{Form}
use Rattle.kat_form.specs.Facts.{Fact}
use Rattle.kat_form.specs.Facts.Fact.{known}
use Rattle.kat_design.specs.Designs.{ComponentForm}
use Rattle.kat_design.specs.Designs.ComponentForm.{a_cell, a_table, a_set, a_tally, tallies}
use Rattle.kat_design.specs.declared.designs.Leaf.{Leaf as Given}
use Rattle.kat_design.specs.declared.designs.Leaf.TheVariants as gives
use Rattle.kat_shape.specs.Forms.{CellForm, numbers, names, truths, lex, pair, width_of}
use Rattle.kat_type.specs.declared.types.Param.{Param}
use Rattle.kat_symbols.specs.Connectives.{or_of, fact_lt, fact_same}
use Rattle.kat_symbols.specs.Readers.{Reader, Symbol, choose, read_name, read_once}
use Rattle.kat_symbols.specs.Readers.Symbol.{number, truth}
use Rattle.kat_symbols.specs.Sides.{Side}
use Rattle.kat_claims.specs.States.{is_truth_sort}
use Rattle.kat_symbols.specs.Sums.{numeral, plus, minus}
use Rattle.kat_symbols.specs.Symbols.{number_in, read_variable, symbol_if, symbols_lt, truth_in, turned}
use Rattle.kat_symbols.specs.declared.names.Instance.{Instance}
use Rattle.kat_symbols.specs.declared.names.Instance.TheVariants.{Argument}
use Rattle.kat_symbols.specs.declared.names.Name.TheVariants.{Effect, Key, Replica, Time}
use Rattle.kat_symbols.specs.declared.names.Place.TheVariants.{Leaf}

-- how a leaf is read, by its number
abbrev pub Leaves : Type 0
Leaves = ℕ → Reader → Symbol × Reader

abbrev pub is_truth_parameter : Option Param → Bool
is_truth_parameter None = false
is_truth_parameter (Some p) = is_truth_sort p.sort

-- a number, or 0 if it is less
abbrev pub above_zero : Form → Reader → Symbol × Reader
above_zero a r = let x = choose (fact_lt a (numeral (pos 0))) (numeral (pos 0)) a r in (number x.0, x.1)

-- what an operation gives to a leaf
abbrev pub gift_read : List Param → Given → Reader → Symbol × Reader
gift_read params (gives.Arg j) r = read_variable (is_truth_parameter (slice_get params j)) (Key (Argument j)) r
gift_read params gives.Time r = let x = read_name Time r in (number x.0, x.1)
gift_read params gives.Replica r = let x = read_name Replica r in (number x.0, x.1)
gift_read params gives.Zero r = (number (numeral (pos 0)), r)
gift_read params gives.One r = (number (numeral (pos 1)), r)
gift_read params (gives.Pos j) r = let x = read_name (Key (Argument j)) r in above_zero x.0 x.1
gift_read params (gives.Neg j) r = let x = read_name (Key (Argument j)) r in above_zero (minus (numeral (pos 0)) x.0) x.1
gift_read params gives.False r = (truth (known false), r)
gift_read params gives.True r = (truth (known true), r)

-- it is read once
abbrev pub effect_by : List Param → ℕ → ℕ → Option Given → Reader → Symbol × Reader
effect_by params c l None r = (truth (known false), r)
effect_by params c l (Some gift) r = read_once (Effect c l) (gift_read params gift) r

abbrev pub effect_at : List Param → ℕ → List Given → Leaves
effect_at params c gifts l r = effect_by params c l (slice_get gifts l) r

-- the greater of a leaf and its effect, and one or the other
abbrev pub greater_read : Leaves → Leaves → Leaves
greater_read old effect l r =
    let a = old l r in let b = effect l a.1 in
    let x = choose (fact_lt (number_in a.0) (number_in b.0)) (number_in b.0) (number_in a.0) b.1 in (number x.0, x.1)

abbrev pub either_read : Leaves → Leaves → Leaves
either_read old effect l r = let a = old l r in let b = effect l a.1 in (truth (or_of (truth_in a.0) (truth_in b.0)), b.1)

-- this many leaves from a number on, each with its effect
abbrev pub pairs_read : Leaves → Leaves → ℕ → ℕ → Reader → List (Symbol × Symbol) × Reader
pairs_read old effect from zero r = ([], r)
pairs_read old effect from (suc n) r =
    let a = old from r in let b = effect from a.1 in let rest = pairs_read old effect (suc from) n b.1 in
    ((a.0, b.0) ∷ rest.0, rest.1)

-- a leaf of a second part by the first parts and their effects: its effect if the first part is less than its effect, the
-- old leaf if it is greater, and otherwise what is joined
abbrev pub ordered_by : List (Symbol × Symbol) → Symbol → Symbol → Symbol → Reader → Symbol × Reader
ordered_by first gift before joined r =
    let rest = symbol_if (symbols_lt (turned first)) before joined r in symbol_if (symbols_lt first) gift rest.0 rest.1

-- A leaf of the join of a shape whose first leaf has the number `from`.
abbrev pub join_read : Leaves → Leaves → CellForm → (from l : ℕ) → Reader → Symbol × Reader
join_read old effect numbers from l r = greater_read old effect l r
join_read old effect names from l r = greater_read old effect l r
join_read old effect truths from l r = either_read old effect l r
join_read old effect (lex a b) from l r =
    if nat_lt l (from + width_of a) then join_read old effect a from l r
    else (let first = pairs_read old effect from (width_of a) r in
    let gift = effect l first.1 in
    let before = old l gift.1 in
    let joined = join_read old effect b (from + width_of a) l before.1 in
    ordered_by first.0 gift.0 before.0 joined.0 joined.1)
join_read old effect (pair a b) from l r =
    if nat_lt l (from + width_of a) then join_read old effect a from l r else join_read old effect b (from + width_of a) l r

-- a key is the one that an argument gives
abbrev pub same_key_read : Option Instance → ℕ → Reader → Fact × Reader
same_key_read None j r = (known false, r)
same_key_read (Some i) j r = let a = read_name (Key i) r in let b = read_name (Key (Argument j)) a.1 in (fact_same a.0 b.0, b.1)

-- if the first, then what is read, else what is there
abbrev pub if_read : Fact × Reader → (Reader → Symbol × Reader) → (Reader → Symbol × Reader) → Symbol × Reader
if_read same new old = let a = new same.1 in let b = old a.1 in symbol_if same.0 a.0 b.0 b.1

-- a sum that grows by a weight
abbrev pub grown_read : Leaves → List Param → ℕ → Given → Leaves
grown_read old params c gift l r =
    let a = old l r in let b = read_once (Effect c 0) (gift_read params gift) a.1 in (number (plus (number_in a.0) (number_in b.0)), b.1)

-- the key is in the set
abbrev pub added_read : Leaves → Leaves
added_read old l r = let a = old l r in (truth (or_of (truth_in a.0) (known true)), a.1)

-- A leaf after an operation has had its effect on a component; without an effect it stays.
abbrev pub cell_after : Leaves → List Param → ℕ → CellForm → Option (List Given) → Leaves
cell_after old params c shape None l r = old l r
cell_after old params c shape (Some gifts) l r = join_read old (effect_at params c gifts) shape 0 l r

abbrev pub table_after : Leaves → List Param → ℕ → Option Instance → CellForm → Option (ℕ × List Given) → Leaves
table_after old params c at shape None l r = old l r
table_after old params c at shape (Some effect) l r =
    if_read (same_key_read at effect.0 r) (join_read old (effect_at params c effect.1) shape 0 l) (old l)

abbrev pub set_after : Leaves → Option Instance → Option ℕ → Leaves
set_after old at None l r = old l r
set_after old at (Some key) l r = if_read (same_key_read at key r) (added_read old l) (old l)

abbrev pub tally_after : Leaves → List Param → ℕ → Option Given → Leaves
tally_after old params c None l r = old l r
tally_after old params c (Some gift) l r = grown_read old params c gift l r

abbrev pub tallies_after : Leaves → List Param → ℕ → Option Instance → Option (ℕ × Given) → Leaves
tallies_after old params c at None l r = old l r
tallies_after old params c at (Some effect) l r = if_read (same_key_read at effect.0 r) (grown_read old params c effect.1 l) (old l)

-- a leaf of a component after the operation with a number
abbrev pub leaf_after : Leaves → List Param → ℕ → ℕ → Option Instance → Option ComponentForm → Leaves
leaf_after old params o c at None l r = old l r
leaf_after old params o c at (Some (a_cell shape starts effects)) l r = cell_after old params c shape (option_flatten (slice_get effects o)) l r
leaf_after old params o c at (Some (a_table key shape starts effects)) l r = table_after old params c at shape (option_flatten (slice_get effects o)) l r
leaf_after old params o c at (Some (a_set key effects)) l r = set_after old at (option_flatten (slice_get effects o)) l r
leaf_after old params o c at (Some (a_tally effects)) l r = tally_after old params c (option_flatten (slice_get effects o)) l r
leaf_after old params o c at (Some (tallies key effects)) l r = tallies_after old params c at (option_flatten (slice_get effects o)) l r

-- the leaves of a component that a side keeps
abbrev pub leaves_of : Side → ℕ → Option Instance → Leaves
leaves_of side c at l r = side.value (Leaf c l) at r
