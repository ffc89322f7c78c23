-- How many leaves of components can still be read.
use Rattle.std.proofs.Common.{◌≡◌, ℕ, ◌+◌, ◌-◌, ◌*◌, ◌≤◌, inl, inr, Bool, true, false, List, [], ◌∷◌, ◌++◌, length, refl, ap, arith, Option, None, Some, if◌then◌else◌}
use Rattle.std.specs.Prelude.{nat_lt, slice_get}
use Rattle.std.proofs.lemmas.Option.{slice_get_within}
use Rattle.kat_num.specs.declared.values.Sort.{Sort}
use Rattle.kat_num.specs.declared.values.Sort.TheVariants as sort
use Rattle.kat_walk.specs.Machines.{Accepts, IsOneOf}
use Rattle.kat_walk.specs.Pruning.{KeepsAll, total}
use Rattle.kat_walk.proofs.Leasts.{le_true}
use Rattle.kat_walk.proofs.Pruned.{kept_one}
use Rattle.kat_walk.proofs.WordLemmas.{one_from}
use Rattle.kat_design.specs.declared.kinds.Kind.{Kind}
use Rattle.kat_design.specs.declared.kinds.Kind.TheVariants as kind
use Rattle.kat_design.specs.declared.kinds.Wanted.{Wanted}
use Rattle.kat_design.specs.declared.kinds.Wanted.TheVariants.{Exactly, Ordered}
use Rattle.kat_type.specs.declared.signatures.QuerySig.{QuerySig}
use Rattle.kat_machine.specs.Choices.{choices_for, member, places_of, set_row, shaped_row, tallies_row, tally_row, token_kind}
use Rattle.kat_rules.specs.Costs.{cost}
use Rattle.kat_machine.specs.Grammar.{start_choices, part_choices, ask_at, asked_kind, at_ask, at_effect, at_parts, at_shape, at_starts, at_wants, grammar, is_nothing, is_of, may_follow, opening_tokens, operands, shape_choices, sorts_of_op, sorts_of_query, tail_of, wants_behind, with_keys}
use Rattle.kat_rules.specs.declared.constants.Setting.{Setting}
use Rattle.kat_machine.specs.declared.modes.Keyed.{Keyed}
use Rattle.kat_machine.specs.declared.modes.Keyed.TheVariants as keyed
use Rattle.kat_machine.specs.declared.modes.Mode.{Mode}
use Rattle.kat_machine.specs.declared.modes.Mode.TheVariants as mode
use Rattle.kat_machine.specs.declared.modes.Row.{Row}
use Rattle.kat_machine.specs.declared.modes.Want.{Want}
use Rattle.kat_machine.specs.declared.modes.Want.TheVariants as want
use Rattle.kat_rules.specs.declared.tokens.Token.{Token}
use Rattle.kat_rules.specs.declared.tokens.Token.TheVariants as token
use Rattle.kat_decoding.specs.Unread.{asks_open, asks_to_come, by_reads, count_unread, noted, open_asks, unread_behind}
use Rattle.kat_decoding.specs.Words.{within_size}
use Rattle.kat_machine.specs.declared.modes.Place.{Place}
use Rattle.kat_decoding.proofs.AllRead.{flags_after, is_read, unread_told}
use Rattle.kat_decoding.proofs.Needs.{any_shape, asked_cost}

-- at most so many tokens of asks can come that no other one makes room for
abbrev pot_in : Setting → Mode → ℕ
pot_in x (mode.Asking wants left) = open_asks wants + (left - 1)
pot_in x mode.Finished = 0
pot_in x mode.Nowhere = 0
pot_in x _ = length x.sig.queries

abbrev pot : Setting → Place → ℕ
pot x p = pot_in x p.mode

open_joined : (a b : List Wanted) → open_asks (a ++ b) ≡ open_asks a + open_asks b
open_joined [] b = omega arith
open_joined (Exactly k ∷ a) b = let h = open_joined a b in omega (arith, h)
open_joined (Ordered ∷ a) b = let h = open_joined a b in omega (arith, h)

-- what is after a place that begins
pot_effect : (x : Setting) (row : Row) (left : ℕ) (rows : List Row) (b : Bool) → nat_lt 0 left ≡ b → pot x (at_effect row left rows) ≡ length x.sig.queries
pot_effect x row left rows true e = rw e refl
pot_effect x row left rows false e = rw e refl

pot_starts : (x : Setting) (row : Row) (kinds : List Kind) (rows : List Row) → pot x (at_starts x row kinds rows) ≡ length x.sig.queries
pot_starts x row [] rows = pot_effect x row (length x.sig.ops) rows (nat_lt 0 (length x.sig.ops)) refl
pot_starts x row (k ∷ kinds) rows = refl

pot_shape : (x : Setting) (key : Option Sort) (chains : List Bool) (kinds : List Kind) (rows : List Row) → pot x (at_shape x key chains kinds rows) ≡ length x.sig.queries
pot_shape x key [] kinds rows = pot_starts x (shaped_row key kinds) kinds rows
pot_shape x key (c ∷ chains) kinds rows = refl

pot_parts : (x : Setting) (row : Row) (left : ℕ) (todo : List Want) (rows : List Row) → pot x (at_parts row left todo rows) ≡ length x.sig.queries
pot_parts x row left [] rows = pot_effect x row (left - 1) rows (nat_lt 0 (left - 1)) refl
pot_parts x row left (w ∷ todo) rows = refl

pot_query : (x : Setting) (left : ℕ) (rows : List Row) (o : Option QuerySig) → slice_get x.sig.queries (length x.sig.queries - left) ≡ o → pot x (ask_at (asked_kind o) left rows) ≤ left
pot_query x left rows None e = omega arith
pot_query x left rows (Some query) e = let h = slice_get_within x.sig.queries (length x.sig.queries - left) query e in omega (arith, h)

pot_ask : (x : Setting) (left : ℕ) (rows : List Row) → pot x (at_ask x left rows) ≤ left
pot_ask x left rows = pot_query x left rows (slice_get x.sig.queries (length x.sig.queries - left)) refl

pot_wants : (x : Setting) (wants : List Wanted) (left : ℕ) (rows : List Row) → pot x (at_wants x wants left rows) ≤ open_asks wants + (left - 1)
pot_wants x [] left rows = let h = pot_ask x (left - 1) rows in omega (arith, h)
pot_wants x (w ∷ wants) left rows = omega arith

pot_keys : (x : Setting) (k : Keyed) (s : Sort) (rows : List Row) → pot x (with_keys x k s rows) ≡ length x.sig.queries
pot_keys x keyed.Table s rows = refl
pot_keys x keyed.Set s rows = pot_effect x (set_row s) (length x.sig.ops) rows (nat_lt 0 (length x.sig.ops)) refl
pot_keys x keyed.Tallies s rows = pot_effect x (tallies_row s) (length x.sig.ops) rows (nat_lt 0 (length x.sig.ops)) refl

-- which tokens read
chosen_read : (sorts : List Sort) (w : Want) (t : Token) → IsOneOf t (choices_for sorts w) → is_read t ≡ 0
chosen_read sorts (want.Key s) t h = ap is_read (one_from token.At t (places_of s sorts) h).1
chosen_read sorts (want.Member s) t h = ap is_read (one_from member t (places_of s sorts) h).1
chosen_read sorts (want.Leaf k) t h = ap is_read (one_from token.Effect t _ h).1
chosen_read sorts want.Weight t h = ap is_read (one_from token.Effect t _ h).1

parts_read : (sorts : List Sort) (wants : List Want) (t : Token) → IsOneOf t (part_choices sorts wants) → is_read t ≡ 0
parts_read sorts [] t h = absurd h
parts_read sorts (w ∷ wants) t h = chosen_read sorts w t h

starts_read : (x : Setting) (kinds : List Kind) (t : Token) → IsOneOf t (start_choices x kinds) → is_read t ≡ 0
starts_read x [] t h = absurd h
starts_read x (k ∷ kinds) t h = ap is_read (one_from token.Start t _ h).1

read_or_open : (t : Token) → 2 * is_read t + open_asks (operands t) ≤ 2
read_or_open token.End = omega arith
read_or_open token.Cell = omega arith
read_or_open token.Table = omega arith
read_or_open token.Set = omega arith
read_or_open token.Tally = omega arith
read_or_open token.Tallies = omega arith
read_or_open (token.Keys s) = omega arith
read_or_open token.Max = omega arith
read_or_open token.Name = omega arith
read_or_open token.Or = omega arith
read_or_open token.Lex = omega arith
read_or_open token.Pair = omega arith
read_or_open (token.Start place) = omega arith
read_or_open token.Nothing = omega arith
read_or_open (token.At place) = omega arith
read_or_open (token.Effect l) = omega arith
read_or_open (token.Read component place key) = omega arith
read_or_open (token.Arg place) = omega arith
read_or_open (token.NumberConstant place) = omega arith
read_or_open (token.NameConstant place) = omega arith
read_or_open (token.Truth b) = omega arith
read_or_open token.Not = omega arith
read_or_open token.And = omega arith
read_or_open token.Either = omega arith
read_or_open token.Less = omega arith
read_or_open token.Plus = omega arith
read_or_open token.Minus = omega arith

open_behind : (sorts : List Sort) (rows : List Row) (t : Token) (w : Wanted) (wants : List Wanted) → open_asks (wants_behind sorts rows t (w ∷ wants)) + 1 ≡ open_asks (operands t) + open_asks (w ∷ wants)
open_behind sorts rows t (Exactly k) wants = let e = open_joined (operands t) wants in omega (arith, e)
open_behind sorts rows t Ordered wants = let e = open_joined (operands t) (Exactly (token_kind sorts rows t) ∷ wants) in omega (arith, e)

some_open : (w : Wanted) (wants : List Wanted) → 1 ≤ open_asks (w ∷ wants)
some_open (Exactly k) wants = omega arith
some_open Ordered wants = omega arith

-- both facts of a token: what it takes, and what is told after it
abbrev Spends : Setting → Mode → List Row → Token → Type 0
Spends x m rows t =
    (2 * is_read t + pot x ((grammar x).step (record { mode = m; rows = rows }) t) ≤ cost t + pot_in x m)
    × (pot x ((grammar x).step (record { mode = m; rows = rows }) t) ≤ asks_open m t + asks_to_come (length x.sig.queries) m)

opening_spends : (x : Setting) (rows : List Row) (t : Token) → IsOneOf t opening_tokens → Spends x mode.Opening rows t
opening_spends x rows t (inl e) = rw e (let h = pot_ask x (length x.sig.queries) rows in (omega (arith, h), omega (arith, h)))
opening_spends x rows t (inr (inl e)) = rw e (omega arith, omega arith)
opening_spends x rows t (inr (inr (inl e))) = rw e (omega arith, omega arith)
opening_spends x rows t (inr (inr (inr (inl e)))) = rw e (omega arith, omega arith)
opening_spends x rows t (inr (inr (inr (inr (inl e))))) =
    rw e (let h = pot_effect x tally_row (length x.sig.ops) rows (nat_lt 0 (length x.sig.ops)) refl in (omega (arith, h), omega (arith, h)))
opening_spends x rows t (inr (inr (inr (inr (inr (inl e)))))) = rw e (omega arith, omega arith)
opening_spends x rows t (inr (inr (inr (inr (inr (inr h)))))) = absurd h

keying_spends : (x : Setting) (k : Keyed) (rows : List Row) (t : Token) → IsOneOf t (token.Keys sort.Int ∷ token.Keys sort.Nat ∷ token.Keys sort.Name ∷ []) → Spends x (mode.Keying k) rows t
keying_spends x k rows t (inl e) = rw e (let h = pot_keys x k sort.Int rows in (omega (arith, h), omega (arith, h)))
keying_spends x k rows t (inr (inl e)) = rw e (let h = pot_keys x k sort.Nat rows in (omega (arith, h), omega (arith, h)))
keying_spends x k rows t (inr (inr (inl e))) = rw e (let h = pot_keys x k sort.Name rows in (omega (arith, h), omega (arith, h)))
keying_spends x k rows t (inr (inr (inr h))) = absurd h

nodes_spend : (x : Setting) (key : Option Sort) (c : Bool) (chains : List Bool) (kinds : List Kind) (rows : List Row) (t : Token) → IsOneOf t (shape_choices (false ∷ chains)) → Spends x (mode.Shaping key (c ∷ chains) kinds) rows t
nodes_spend x key c chains kinds rows t (inl e) = rw e (let h = pot_shape x key chains (kinds ++ kind.Number ∷ []) rows in (omega (arith, h), omega (arith, h)))
nodes_spend x key c chains kinds rows t (inr (inl e)) = rw e (let h = pot_shape x key chains (kinds ++ kind.Name ∷ []) rows in (omega (arith, h), omega (arith, h)))
nodes_spend x key c chains kinds rows t (inr (inr (inl e))) = rw e (let h = pot_shape x key chains (kinds ++ kind.Truth ∷ []) rows in (omega (arith, h), omega (arith, h)))
nodes_spend x key c chains kinds rows t (inr (inr (inr (inl e)))) = rw e (omega arith, omega arith)
nodes_spend x key c chains kinds rows t (inr (inr (inr (inr (inl e))))) = rw e (omega arith, omega arith)
nodes_spend x key c chains kinds rows t (inr (inr (inr (inr (inr h))))) = absurd h

effecting_pot : (x : Setting) (row : Row) (left : ℕ) (rows : List Row) (b : Bool) → pot x (if b then at_effect row (left - 1) rows else at_parts row left (tail_of row.wants) rows) ≡ length x.sig.queries
effecting_pot x row left rows true = pot_effect x row (left - 1) rows (nat_lt 0 (left - 1)) refl
effecting_pot x row left rows false = pot_parts x row left (tail_of row.wants) rows

first_read : (sorts : List Sort) (wants : List Want) (t : Token) → IsOneOf t (token.Nothing ∷ part_choices sorts wants) → is_read t ≡ 0
first_read sorts wants t (inl e) = ap is_read e
first_read sorts wants t (inr h) = parts_read sorts wants t h

spends : (x : Setting) (m : Mode) (rows : List Row) (t : Token) → IsOneOf t (may_follow x m rows) → Spends x m rows t
spends x mode.Opening rows t h = opening_spends x rows t (kept_one (is_of x.kinds) t opening_tokens h)
spends x (mode.Keying k) rows t h = keying_spends x k rows t h
spends x (mode.Shaping key [] kinds) rows t h = absurd h
spends x (mode.Shaping key (c ∷ chains) kinds) rows t h = nodes_spend x key c chains kinds rows t (any_shape c chains t h)
spends x (mode.Starting row todo) rows t h =
    let p = pot_starts x row (tail_of todo) rows in
    let r = starts_read x todo t h in
    (omega (arith, p, r), omega (arith, p))
spends x (mode.Effecting row left) rows t h =
    let p = effecting_pot x row left rows (is_nothing t) in
    let r = first_read (sorts_of_op x left) row.wants t h in
    (omega (arith, p, r), omega (arith, p))
spends x (mode.Filling row left todo) rows t h =
    let p = pot_parts x row left (tail_of todo) rows in
    let r = parts_read (sorts_of_op x left) todo t h in
    (omega (arith, p, r), omega (arith, p))
spends x (mode.Asking [] left) rows t h = absurd h
spends x (mode.Asking (w ∷ wants) left) rows t h =
    let c = asked_cost x.constants (sorts_of_query x left) rows w t h in
    let p = pot_wants x (wants_behind (sorts_of_query x left) rows t (w ∷ wants)) left rows in
    let b = open_behind (sorts_of_query x left) rows t w wants in
    let r = read_or_open t in
    let s = some_open w wants in
    (omega (arith, c, p, b, r, s), omega (arith, p, b, s))
spends x mode.Finished rows t h = absurd h
spends x mode.Nowhere rows t h = absurd h

reads_total : (x : Setting) (p : Place) (w : List Token) → Accepts (grammar x) p w → 2 * total is_read w ≤ total cost w + pot x p
reads_total x p [] a = omega arith
reads_total x p (t ∷ w) a =
    let s = (spends x p.mode p.rows t a.1).0 in
    let h = reads_total x ((grammar x).step p t) w a.2 in
    omega (arith, s, h)

pub reads_keep : (x : Setting) (p : Place) (left : ℕ) (flags : List Bool) (w : List Token) → Accepts (grammar x) p w → total cost w ≤ left → count_unread (flags_after flags w) ≡ 0
    → KeepsAll (within_size x) (by_reads x) (p, left) flags w
reads_keep x p left flags [] a l e = tt
reads_keep x p left flags (t ∷ w) a l e =
    let told = (spends x p.mode p.rows t a.1).1 in
    let h = reads_total x ((grammar x).step p t) w a.2 in
    let u = unread_told flags t w e in (
      le_true (2 * unread_behind flags t) ((left - cost t) + (asks_open p.mode t + asks_to_come (length x.sig.queries) p.mode)) (omega (arith, told, h, u, l)),
      reads_keep x ((grammar x).step p t) (left - cost t) (noted flags t) w a.2 (omega (arith, l)) e,
    )
