-- A well-sorted design has no fault.
use Rattle.std.proofs.Common.{◌≡◌, ℕ, ◌+◌, ◌^◌, ◌-◌, ◌≤◌, Bool, true, false, ◌&&◌, ◌||◌, List, [], ◌∷◌, ◌++◌, length, refl, sym, ◌∙◌, ap, Option, None, Some, arith, ℤ}
use Rattle.std.specs.Prelude.{◌≢◌, not, ◌==◌, is_some, slice_get, nat_lt, nat_le, pos, neg_ℤ, int_lt, ◌≤ℤ◌}
use Rattle.std.specs.List.{list_all}
use Rattle.std.proofs.lemmas.Bool.{eq-eqb}
use Rattle.kat_num.proofs.NameCodes.{name_of_code-code_of}
use Rattle.kat_design.proofs.Accepted.{get_there}
use Rattle.std.proofs.lemmas.Bool.Decides.{nat_tests}
use Rattle.std.proofs.lemmas.Int.{ints}
use Rattle.kat_num.specs.Bytes.{is_name_byte}
use Rattle.kat_num.specs.Names.{code_of, name_of_code}
use Rattle.kat_num.specs.declared.values.Sort.{Sort}
use Rattle.kat_num.specs.declared.values.Sort.TheVariants as sort
use Rattle.kat_num.specs.declared.values.Value.{Value}
use Rattle.kat_num.specs.declared.values.Value.TheVariants as value
use Rattle.kat_shape.specs.Forms.{CellForm, IsChainForm, IsGoodForm, numbers, names, truths, lex, pair}
use Rattle.kat_type.specs.declared.signatures.OpSig.{OpSig}
use Rattle.kat_type.specs.declared.signatures.QuerySig.{QuerySig}
use Rattle.kat_design.specs.Designs.{ComponentForm, AskForm, DesignForm}
use Rattle.kat_design.specs.Designs.ComponentForm.{a_cell, a_table, a_set, a_tally, tallies}
use Rattle.kat_design.specs.Designs.AskForm.{negation, both, either, less, sum, difference}
use Rattle.kat_design.specs.Faults.{Path, here_if, within, each_faults, matched_faults, list_faults, is_written, shape_faults, start_faults, is_sort, has_sort, has_kind, gives_kind, is_weight, leaf_faults, key_faults, weight_faults, cell_effect_faults, table_effect_faults, set_effect_faults, tally_effect_faults, tallies_effect_faults, key_sort_faults, component_faults, kind_faults, gives_key, read_key_faults, read_faults, ask_faults, query_faults, is_too_large, faults_of}
use Rattle.kat_design.specs.Kinds.{ask_kind, component_kinds, is_chain, is_kind, is_wanted, key_sort, kinds_of, leaf_kind, like, parameter_kind, sort_kind, value_kind}
use Rattle.kat_design.specs.Sizes.{size_of}
use Rattle.kat_design.specs.Sorted.{AreMatched, EachHas, IsWritten, IsStart, GivesKind, IsWeight, FitsCell, FitsTable, FitsSet, FitsTally, FitsTallies, IsComponent, FitsKey, HasKind, Answers, IsWellSorted}
use Rattle.kat_design.specs.Sorted.GivesKind.{argument, time, replica, zero_leaf, one, above, below, false_leaf, true_leaf}
use Rattle.kat_design.specs.Sorted.IsWeight.{natural, time as weigh_time, replica as weigh_replica, zero_leaf as weigh_zero, one as weigh_one, above as weigh_above, below as weigh_below}
use Rattle.kat_design.specs.Sorted.HasKind.{read, given, written, denied, and_of, or_of, numbers_less, names_less, sum_of, difference_of}
use Rattle.kat_design.specs.declared.sizes.TheConstants.{COMPONENT_LIMIT, SIZE_LIMIT}
use Rattle.kat_design.specs.declared.designs.Leaf.{Leaf}
use Rattle.kat_design.specs.declared.kinds.Kind.{Kind}
use Rattle.kat_design.specs.declared.kinds.Kind.TheVariants as kind
use Rattle.kat_design.specs.declared.kinds.Wanted.{Wanted}
use Rattle.kat_design.specs.declared.kinds.Wanted.TheVariants.{Exactly, Ordered}

-- lists of faults that are empty
no_both : (xs ys : List Path) → xs ≡ [] → ys ≡ [] → xs ++ ys ≡ []
no_both xs ys e k = ap (λ zs. zs ++ ys) e ∙ k

no_within : (i : ℕ) (xs : List Path) → xs ≡ [] → within i xs ≡ []
no_within i xs e = ap (λ ys. within i ys) e

no_here : (b : Bool) → b ≡ true → here_if (not b) ≡ []
no_here b e = ap (λ c. here_if (not c)) e

and_both : (a b : Bool) → a ≡ true → b ≡ true → a && b ≡ true
and_both a b e k = ap (λ c. c && b) e ∙ k

-- tests of kinds and sorts
pub kind_itself : (k : Kind) → is_kind k k ≡ true
kind_itself kind.Number = refl
kind_itself kind.Name = refl
kind_itself kind.Truth = refl

kind_is : (j k : Kind) → j ≡ k → is_kind j k ≡ true
kind_is j k e = ap (λ w. is_kind j w) (sym e) ∙ kind_itself j

pub sort_itself : (s : Sort) → is_sort s s ≡ true
sort_itself sort.Bool = refl
sort_itself sort.Int = refl
sort_itself sort.Nat = refl
sort_itself sort.Name = refl

pub parameter_has : (sorts : List Sort) (place : ℕ) (s : Sort) → slice_get sorts place ≡ Some s → has_sort s (slice_get sorts place) ≡ true
parameter_has sorts place s e = ap (λ (o : Option Sort). has_sort s o) e ∙ sort_itself s

no_truth : (s : Sort) → s ≢ sort.Bool → is_sort s sort.Bool ≡ false
no_truth sort.Bool e = absurd (e refl)
no_truth sort.Int e = refl
no_truth sort.Nat e = refl
no_truth sort.Name e = refl

-- values
form_chain : (f : CellForm) → IsChainForm f → is_chain f ≡ true
form_chain numbers h = refl
form_chain names h = refl
form_chain truths h = refl
form_chain (lex a b) h = and_both (is_chain a) (is_chain b) (form_chain a h.0) (form_chain b h.1)
form_chain (pair a b) h = absurd h

chain_good : (f : CellForm) → IsChainForm f → IsGoodForm f
chain_good numbers h = tt
chain_good names h = tt
chain_good truths h = tt
chain_good (lex a b) h = (h.0, chain_good b h.1)
chain_good (pair a b) h = absurd h

form_good : (f : CellForm) → IsGoodForm f → shape_faults f ≡ []
form_good numbers h = refl
form_good names h = refl
form_good truths h = refl
form_good (lex a b) h =
    no_both (within 1 (here_if (not (is_chain a)) ++ shape_faults a)) (within 2 (shape_faults b))
    (no_within 1 (here_if (not (is_chain a)) ++ shape_faults a) (no_both (here_if (not (is_chain a))) (shape_faults a) (no_here (is_chain a) (form_chain a h.0)) (form_good a (chain_good a h.0))))
    (no_within 2 (shape_faults b) (form_good b h.1))
form_good (pair a b) h =
    no_both (within 1 (shape_faults a)) (within 2 (shape_faults b)) (no_within 1 (shape_faults a) (form_good a h.0)) (no_within 2 (shape_faults b) (form_good b h.1))

not_less : (z : ℤ) (b : Bool) → int_lt z (neg_ℤ (pos (2 ^ 63))) ≡ b → neg_ℤ (pos (2 ^ 63)) ≤ℤ z → not b ≡ true
not_less z true e h = absurd (grind (arith, ints))
not_less z false e h = refl

is_less : (z : ℤ) → z ≤ℤ pos (2 ^ 64 - 1) → int_lt z (pos (2 ^ 64)) ≡ true
is_less z h = grind (arith, ints)

value_written : (v : Value) → IsWritten v → is_written v ≡ true
value_written (value.Bool b) h = refl
value_written (value.Num z) h =
    and_both (not (int_lt z (neg_ℤ (pos (2 ^ 63))))) (int_lt z (pos (2 ^ 64))) (not_less z (int_lt z (neg_ℤ (pos (2 ^ 63)))) refl h.0) (is_less z h.1)
value_written (value.Name code) h =
    let same : name_of_code code ≡ h.name = ap name_of_code (sym h.coded) ∙ name_of_code-code_of h.name h.is_name in
    and_both (list_all is_name_byte (name_of_code code)) (code_of (name_of_code code) == code)
    (ap (λ name. list_all is_name_byte name) same ∙ h.is_name.each)
    (eq-eqb (code_of (name_of_code code)) code (ap code_of same ∙ h.coded))

start_right : (v : Value) (k : Kind) → IsStart v k → start_faults v k ≡ []
start_right v k h =
    no_here (is_kind k (value_kind v) && is_written v) (and_both (is_kind k (value_kind v)) (is_written v) (kind_is k (value_kind v) (sym h.kind_is)) (value_written v h.written))

-- what operations give
pub leaf_given : (sorts : List Sort) (l : Leaf) (k : Kind) → GivesKind sorts l k → gives_kind sorts l k ≡ true
leaf_given sorts l k (argument place s p) = ap (λ (o : Option Sort). has_kind (sort_kind s) o) p ∙ kind_itself (sort_kind s)
leaf_given sorts l k time = refl
leaf_given sorts l k replica = refl
leaf_given sorts l k zero_leaf = refl
leaf_given sorts l k one = refl
leaf_given sorts l k (above place p) = parameter_has sorts place sort.Int p
leaf_given sorts l k (below place p) = parameter_has sorts place sort.Int p
leaf_given sorts l k false_leaf = refl
leaf_given sorts l k true_leaf = refl

pub weight_given : (sorts : List Sort) (l : Leaf) → IsWeight sorts l → is_weight sorts l ≡ true
weight_given sorts l (natural place p) = parameter_has sorts place sort.Nat p
weight_given sorts l weigh_time = refl
weight_given sorts l weigh_replica = refl
weight_given sorts l weigh_zero = refl
weight_given sorts l weigh_one = refl
weight_given sorts l (weigh_above place p) = parameter_has sorts place sort.Int p
weight_given sorts l (weigh_below place p) = parameter_has sorts place sort.Int p

-- lists
matched_right : {A B : Type 0} (f : A → B → List Path) (Match : A → B → Type 0) → ((x : A) (y : B) → Match x y → f x y ≡ []) → (i : ℕ) (xs : List A) (ys : List B)
    → AreMatched Match xs ys → (length xs ≡ length ys) × (matched_faults f i xs ys ≡ [])
matched_right f Match right i [] [] h = (refl, refl)
matched_right f Match right i [] (y ∷ ys) h = absurd h
matched_right f Match right i (x ∷ xs) [] h = absurd h
matched_right f Match right i (x ∷ xs) (y ∷ ys) h =
    let rest = matched_right f Match right (i + 1) xs ys h.1 in
    (omega (arith, rest.0), no_both (within i (f x y)) (matched_faults f (i + 1) xs ys) (no_within i (f x y) (right x y h.0)) rest.1)

list_right : {A B : Type 0} (f : A → B → List Path) (Match : A → B → Type 0) → ((x : A) (y : B) → Match x y → f x y ≡ []) → (xs : List A) (ys : List B)
    → AreMatched Match xs ys → list_faults f xs ys ≡ []
list_right f Match right xs ys h =
    let whole = matched_right f Match right 0 xs ys h in
    no_both (here_if (not (length xs == length ys))) (matched_faults f 0 xs ys) (no_here (length xs == length ys) (eq-eqb (length xs) (length ys) whole.0)) whole.1

each_right : {A : Type 0} (f : A → List Path) (Has : A → Type 0) → ((x : A) → Has x → f x ≡ []) → (i : ℕ) (xs : List A) → EachHas Has xs → each_faults f i xs ≡ []
each_right f Has right i [] h = refl
each_right f Has right i (x ∷ xs) h = no_both (within i (f x)) (each_faults f (i + 1) xs) (no_within i (f x) (right x h.0)) (each_right f Has right (i + 1) xs h.1)

leaves_right : (sorts : List Sort) (leaves : List Leaf) (kinds : List Kind) → AreMatched (GivesKind sorts) leaves kinds → list_faults (leaf_faults sorts) leaves kinds ≡ []
leaves_right sorts leaves kinds h = list_right (leaf_faults sorts) (GivesKind sorts) (λ l k g. no_here (gives_kind sorts l k) (leaf_given sorts l k g)) leaves kinds h

key_right : (key : Sort) (sorts : List Sort) (place : ℕ) → slice_get sorts place ≡ Some key → key_faults key sorts place ≡ []
key_right key sorts place p = no_here (has_sort key (slice_get sorts place)) (parameter_has sorts place key p)

weight_right : (sorts : List Sort) (l : Leaf) → IsWeight sorts l → weight_faults sorts l ≡ []
weight_right sorts l w = no_here (is_weight sorts l) (weight_given sorts l w)

-- effects
cell_right : (kinds : List Kind) (effect : Option (List Leaf)) (op : OpSig) → FitsCell kinds effect op → cell_effect_faults kinds effect op ≡ []
cell_right kinds None op h = refl
cell_right kinds (Some leaves) op h = leaves_right op.sorts leaves kinds h

table_right : (key : Sort) (kinds : List Kind) (effect : Option (ℕ × List Leaf)) (op : OpSig) → FitsTable key kinds effect op → table_effect_faults key kinds effect op ≡ []
table_right key kinds None op h = refl
table_right key kinds (Some effect) op h =
    no_both (within 0 (key_faults key op.sorts effect.0)) (within 1 (list_faults (leaf_faults op.sorts) effect.1 kinds))
    (no_within 0 (key_faults key op.sorts effect.0) (key_right key op.sorts effect.0 h.0))
    (no_within 1 (list_faults (leaf_faults op.sorts) effect.1 kinds) (leaves_right op.sorts effect.1 kinds h.1))

set_right : (key : Sort) (effect : Option ℕ) (op : OpSig) → FitsSet key effect op → set_effect_faults key effect op ≡ []
set_right key None op h = refl
set_right key (Some place) op h = key_right key op.sorts place h

tally_right : (effect : Option Leaf) (op : OpSig) → FitsTally effect op → tally_effect_faults effect op ≡ []
tally_right None op h = refl
tally_right (Some l) op h = weight_right op.sorts l h

tallies_right : (key : Sort) (effect : Option (ℕ × Leaf)) (op : OpSig) → FitsTallies key effect op → tallies_effect_faults key effect op ≡ []
tallies_right key None op h = refl
tallies_right key (Some effect) op h =
    no_both (within 0 (key_faults key op.sorts effect.0)) (within 1 (weight_faults op.sorts effect.1))
    (no_within 0 (key_faults key op.sorts effect.0) (key_right key op.sorts effect.0 h.0)) (no_within 1 (weight_faults op.sorts effect.1) (weight_right op.sorts effect.1 h.1))

-- components
key_sort_right : (key : Sort) → key ≢ sort.Bool → within 1 (key_sort_faults key) ≡ []
key_sort_right key h = no_within 1 (key_sort_faults key) (ap here_if (no_truth key h))

starts_right : (f : CellForm) (i : ℕ) (starts : List Value) → AreMatched IsStart starts (kinds_of f) → within i (list_faults start_faults starts (kinds_of f)) ≡ []
starts_right f i starts h = no_within i (list_faults start_faults starts (kinds_of f)) (list_right start_faults IsStart start_right starts (kinds_of f) h)

component_right : (ops : List OpSig) (component : ComponentForm) → IsComponent ops component → component_faults ops component ≡ []
component_right ops (a_cell shape starts effects) h =
    let first = within 1 (shape_faults shape) in
    let second = within 2 (list_faults start_faults starts (kinds_of shape)) in
    let third = within 3 (list_faults (cell_effect_faults (kinds_of shape)) effects ops) in
    no_both (first ++ second) third (no_both first second (no_within 1 (shape_faults shape) (form_good shape h.0)) (starts_right shape 2 starts h.1))
    (no_within 3 (list_faults (cell_effect_faults (kinds_of shape)) effects ops) (list_right (cell_effect_faults (kinds_of shape)) (FitsCell (kinds_of shape)) (cell_right (kinds_of shape)) effects ops h.2))
component_right ops (a_table key shape starts effects) h =
    let first = within 1 (key_sort_faults key) in
    let second = within 2 (shape_faults shape) in
    let third = within 3 (list_faults start_faults starts (kinds_of shape)) in
    let fourth = within 4 (list_faults (table_effect_faults key (kinds_of shape)) effects ops) in
    no_both (first ++ second ++ third) fourth
    (no_both (first ++ second) third (no_both first second (key_sort_right key h.0) (no_within 2 (shape_faults shape) (form_good shape h.1))) (starts_right shape 3 starts h.2))
    (no_within 4 (list_faults (table_effect_faults key (kinds_of shape)) effects ops) (list_right (table_effect_faults key (kinds_of shape)) (FitsTable key (kinds_of shape)) (table_right key (kinds_of shape)) effects ops h.3))
component_right ops (a_set key effects) h =
    no_both (within 1 (key_sort_faults key)) (within 2 (list_faults (set_effect_faults key) effects ops)) (key_sort_right key h.0)
    (no_within 2 (list_faults (set_effect_faults key) effects ops) (list_right (set_effect_faults key) (FitsSet key) (set_right key) effects ops h.1))
component_right ops (a_tally effects) h = no_within 1 (list_faults tally_effect_faults effects ops) (list_right tally_effect_faults FitsTally tally_right effects ops h)
component_right ops (tallies key effects) h =
    no_both (within 1 (key_sort_faults key)) (within 2 (list_faults (tallies_effect_faults key) effects ops)) (key_sort_right key h.0)
    (no_within 2 (list_faults (tallies_effect_faults key) effects ops) (list_right (tallies_effect_faults key) (FitsTallies key) (tallies_right key) effects ops h.1))

-- asks: the kind is known by the form of the ask, and there is no fault where one is sought
kind_known : (components : List ComponentForm) (sorts : List Sort) (a : AskForm) (k : Kind) → HasKind components sorts a k → ask_kind components sorts a ≡ Some k
kind_known components sorts a k (read place n key component j is there fits) = ap (λ (o : Option ComponentForm). leaf_kind o n) is ∙ there
kind_known components sorts a k (given place s is) = ap (λ (o : Option Sort). parameter_kind o) is
kind_known components sorts a k (written v w) = refl
kind_known components sorts a k (denied x) = refl
kind_known components sorts a k (and_of x y) = refl
kind_known components sorts a k (or_of x y) = refl
kind_known components sorts a k (numbers_less x y) = refl
kind_known components sorts a k (names_less x y) = refl
kind_known components sorts a k (sum_of x y) = refl
kind_known components sorts a k (difference_of x y) = refl

inside_list : {A : Type 0} (xs : List A) (i : ℕ) (x : A) → slice_get xs i ≡ Some x → nat_lt i (length xs) ≡ true
inside_list {A} xs i x e = get_there xs i ∙ ap (λ (o : Option A). is_some o) e

key_read : (sorts : List Sort) (keys : Option Sort) (key : Option ℕ) → FitsKey sorts keys key → (gives_key keys key ≡ true) × (read_key_faults keys key sorts ≡ [])
key_read sorts None None h = (refl, refl)
key_read sorts (Some s) (Some place) h = (refl, key_right s sorts place h)
key_read sorts None (Some place) h = absurd h
key_read sorts (Some s) None h = absurd h

component_read : (sorts : List Sort) (component : ComponentForm) (n : ℕ) (key : Option ℕ) (k : Kind) → slice_get (component_kinds component) n ≡ Some k → FitsKey sorts (key_sort component) key
    → read_faults (Some component) n key sorts ≡ []
component_read sorts component n key k there fits =
    let inside = nat_lt n (length (component_kinds component)) in
    let own = here_if (not (gives_key (key_sort component) key)) in
    let r = key_read sorts (key_sort component) key fits in
    no_both (own ++ within 2 (here_if (not inside))) (within 3 (read_key_faults (key_sort component) key sorts))
    (no_both own (within 2 (here_if (not inside))) (no_here (gives_key (key_sort component) key) r.0)
    (no_within 2 (here_if (not inside)) (no_here inside (inside_list (component_kinds component) n k there))))
    (no_within 3 (read_key_faults (key_sort component) key sorts) r.1)

wanted_known : (wanted : Wanted) (o : Option Kind) (k : Kind) → o ≡ Some k → is_wanted wanted k ≡ true → kind_faults wanted o ≡ []
wanted_known wanted o k is w = ap (λ (p : Option Kind). kind_faults wanted p) is ∙ no_here (is_wanted wanted k) w

two_right : (b : Bool) (xs ys : List Path) → b ≡ true → xs ≡ [] → ys ≡ [] → here_if (not b) ++ within 1 xs ++ within 2 ys ≡ []
two_right b xs ys e k l = no_both (here_if (not b) ++ within 1 xs) (within 2 ys) (no_both (here_if (not b)) (within 1 xs) (no_here b e) (no_within 1 xs k)) (no_within 2 ys l)

ask_right : (components : List ComponentForm) (sorts : List Sort) (a : AskForm) (k : Kind) → HasKind components sorts a k → (wanted : Wanted) → is_wanted wanted k ≡ true
    → ask_faults components sorts wanted a ≡ []
ask_right components sorts a k (read place n key component j is there fits) wanted w =
    let own = kind_faults wanted (leaf_kind (slice_get components place) n) in
    no_both own (read_faults (slice_get components place) n key sorts)
    (wanted_known wanted (leaf_kind (slice_get components place) n) j (ap (λ (o : Option ComponentForm). leaf_kind o n) is ∙ there) w)
    (ap (λ (o : Option ComponentForm). read_faults o n key sorts) is ∙ component_read sorts component n key j there fits)
ask_right components sorts a k (given place s is) wanted w =
    let inside = nat_lt place (length sorts) in
    no_both (kind_faults wanted (parameter_kind (slice_get sorts place))) (within 1 (here_if (not inside)))
    (wanted_known wanted (parameter_kind (slice_get sorts place)) (sort_kind s) (ap (λ (o : Option Sort). parameter_kind o) is) w)
    (no_within 1 (here_if (not inside)) (no_here inside (inside_list sorts place s is)))
ask_right components sorts a k (written v h) wanted w =
    no_here (is_wanted wanted (value_kind v) && is_written v) (and_both (is_wanted wanted (value_kind v)) (is_written v) w (value_written v h))
ask_right components sorts (negation a) k (denied x) wanted w =
    no_both (here_if (not (is_wanted wanted kind.Truth))) (within 1 (ask_faults components sorts (Exactly kind.Truth) a)) (no_here (is_wanted wanted kind.Truth) w)
    (no_within 1 (ask_faults components sorts (Exactly kind.Truth) a) (ask_right components sorts a kind.Truth x (Exactly kind.Truth) refl))
ask_right components sorts (both a b) k (and_of x y) wanted w =
    two_right (is_wanted wanted kind.Truth) (ask_faults components sorts (Exactly kind.Truth) a) (ask_faults components sorts (Exactly kind.Truth) b) w
    (ask_right components sorts a kind.Truth x (Exactly kind.Truth) refl) (ask_right components sorts b kind.Truth y (Exactly kind.Truth) refl)
ask_right components sorts (either a b) k (or_of x y) wanted w =
    two_right (is_wanted wanted kind.Truth) (ask_faults components sorts (Exactly kind.Truth) a) (ask_faults components sorts (Exactly kind.Truth) b) w
    (ask_right components sorts a kind.Truth x (Exactly kind.Truth) refl) (ask_right components sorts b kind.Truth y (Exactly kind.Truth) refl)
ask_right components sorts (less a b) k (numbers_less x y) wanted w =
    let same : like (ask_kind components sorts a) ≡ Exactly kind.Number = ap (λ (o : Option Kind). like o) (kind_known components sorts a kind.Number x) in
    two_right (is_wanted wanted kind.Truth) (ask_faults components sorts Ordered a) (ask_faults components sorts (like (ask_kind components sorts a)) b) w
    (ask_right components sorts a kind.Number x Ordered refl)
    (ask_right components sorts b kind.Number y (like (ask_kind components sorts a)) (ap (λ (v : Wanted). is_wanted v kind.Number) same))
ask_right components sorts (less a b) k (names_less x y) wanted w =
    let same : like (ask_kind components sorts a) ≡ Exactly kind.Name = ap (λ (o : Option Kind). like o) (kind_known components sorts a kind.Name x) in
    two_right (is_wanted wanted kind.Truth) (ask_faults components sorts Ordered a) (ask_faults components sorts (like (ask_kind components sorts a)) b) w
    (ask_right components sorts a kind.Name x Ordered refl)
    (ask_right components sorts b kind.Name y (like (ask_kind components sorts a)) (ap (λ (v : Wanted). is_wanted v kind.Name) same))
ask_right components sorts (sum a b) k (sum_of x y) wanted w =
    two_right (is_wanted wanted kind.Number) (ask_faults components sorts (Exactly kind.Number) a) (ask_faults components sorts (Exactly kind.Number) b) w
    (ask_right components sorts a kind.Number x (Exactly kind.Number) refl) (ask_right components sorts b kind.Number y (Exactly kind.Number) refl)
ask_right components sorts (difference a b) k (difference_of x y) wanted w =
    two_right (is_wanted wanted kind.Number) (ask_faults components sorts (Exactly kind.Number) a) (ask_faults components sorts (Exactly kind.Number) b) w
    (ask_right components sorts a kind.Number x (Exactly kind.Number) refl) (ask_right components sorts b kind.Number y (Exactly kind.Number) refl)

query_right : (components : List ComponentForm) (a : AskForm) (query : QuerySig) → Answers components a query → query_faults components a query ≡ []
query_right components a query h = ask_right components query.sorts a (sort_kind query.sort) h (Exactly (sort_kind query.sort)) (kind_itself (sort_kind query.sort))

-- the limits
within_limit : (n limit : ℕ) → n ≤ limit → nat_le n limit ≡ true
within_limit n limit h = grind (arith, nat_tests)

not_large : (a b : Bool) → a ≡ true → b ≡ true → not a || not b ≡ false
not_large true true e k = refl
not_large true false e k = absurd (cc)
not_large false b e k = absurd (cc)

pub no_faults : (d : DesignForm) → IsWellSorted d → faults_of d ≡ []
no_faults d h =
    let large = here_if (is_too_large d) in
    let first = within 0 (each_faults (component_faults d.sig.ops) 0 d.components) in
    let second = within 1 (list_faults (query_faults d.components) d.asks d.sig.queries) in
    no_within 3 (large ++ first ++ second) (no_both (large ++ first) second
    (no_both large first
    (ap here_if (not_large (nat_le (length d.components) COMPONENT_LIMIT) (nat_le (size_of d) SIZE_LIMIT) (within_limit (length d.components) COMPONENT_LIMIT h.few) (within_limit (size_of d) SIZE_LIMIT h.small)))
    (no_within 0 (each_faults (component_faults d.sig.ops) 0 d.components) (each_right (component_faults d.sig.ops) (IsComponent d.sig.ops) (component_right d.sig.ops) 0 d.components h.components)))
    (no_within 1 (list_faults (query_faults d.components) d.asks d.sig.queries) (list_right (query_faults d.components) (Answers d.components) (query_right d.components) d.asks d.sig.queries h.asks)))
