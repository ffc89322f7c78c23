-- A design without a fault is well-sorted.
use Rattle.std.proofs.Common.{◌≡◌, ℕ, zero, suc, ◌+◌, ◌^◌, ◌-◌, ◌≤◌, Bool, true, false, ◌&&◌, ◌||◌, List, [], ◌∷◌, ◌++◌, length, refl, sym, ◌∙◌, ap, subst, Option, None, Some, arith, ℤ}
use Rattle.std.specs.Prelude.{◌≢◌, not, ◌==◌, is_some, slice_get, nat_lt, nat_le, pos, neg_ℤ, int_lt, ◌≤ℤ◌}
use Rattle.std.specs.List.{list_all}
use Rattle.std.proofs.lemmas.Bool.{eqb-true}
use Rattle.std.proofs.lemmas.Bool.Decides.{nat_tests}
use Rattle.std.proofs.lemmas.Int.{ints}
use Rattle.kat_num.specs.Bytes.{is_name_byte}
use Rattle.kat_num.specs.Names.{code_of, name_of_code}
use Rattle.kat_num.specs.declared.values.Sort.{Sort}
use Rattle.kat_num.specs.declared.values.Sort.TheVariants as sort
use Rattle.kat_num.specs.declared.values.Value.{Value}
use Rattle.kat_num.specs.declared.values.Value.TheVariants as value
use Rattle.kat_shape.specs.Forms.{CellForm, IsChainForm, IsGoodForm, numbers, names, truths, lex, pair}
use Rattle.kat_type.specs.declared.signatures.OpSig.{OpSig}
use Rattle.kat_type.specs.declared.signatures.QuerySig.{QuerySig}
use Rattle.kat_design.specs.Designs.{ComponentForm, AskForm, DesignForm}
use Rattle.kat_design.specs.Designs.ComponentForm.{a_cell, a_table, a_set, a_tally, tallies}
use Rattle.kat_design.specs.Designs.AskForm.{leaf as a_leaf, parameter, constant, negation, both, either, less, sum, difference}
use Rattle.kat_design.specs.Faults.{Path, here_if, within, each_faults, matched_faults, list_faults, is_written, shape_faults, start_faults, is_sort, has_sort, has_kind, gives_kind, is_weight, leaf_faults, key_faults, weight_faults, cell_effect_faults, table_effect_faults, set_effect_faults, tally_effect_faults, tallies_effect_faults, key_sort_faults, component_faults, kind_faults, gives_key, read_key_faults, read_faults, ask_faults, query_faults, is_too_large, faults_of}
use Rattle.kat_design.specs.Kinds.{ask_kind, component_kinds, is_chain, is_kind, is_wanted, key_sort, kinds_of, leaf_kind, like, parameter_kind, sort_kind, value_kind}
use Rattle.kat_design.specs.Sizes.{size_of}
use Rattle.kat_design.specs.Sorted.{AreMatched, EachHas, IsWritten, IsStart, GivesKind, IsWeight, FitsCell, FitsTable, FitsSet, FitsTally, FitsTallies, IsComponent, FitsKey, HasKind, Answers, IsWellSorted}
use Rattle.kat_design.specs.Sorted.GivesKind.{argument, time, replica, zero_leaf, one, above, below, false_leaf, true_leaf}
use Rattle.kat_design.specs.Sorted.IsWeight.{natural, time as weigh_time, replica as weigh_replica, zero_leaf as weigh_zero, one as weigh_one, above as weigh_above, below as weigh_below}
use Rattle.kat_design.specs.Sorted.HasKind.{read, given, written, denied, and_of, or_of, numbers_less, names_less, sum_of, difference_of}
use Rattle.kat_design.specs.declared.sizes.TheConstants.{COMPONENT_LIMIT, SIZE_LIMIT}
use Rattle.kat_design.specs.declared.designs.Leaf.{Leaf}
use Rattle.kat_design.specs.declared.designs.Leaf.TheVariants as leaf
use Rattle.kat_design.specs.declared.kinds.Kind.{Kind}
use Rattle.kat_design.specs.declared.kinds.Kind.TheVariants as kind
use Rattle.kat_design.specs.declared.kinds.Wanted.{Wanted}
use Rattle.kat_design.specs.declared.kinds.Wanted.TheVariants.{Exactly, Ordered}
use Rattle.kat_design.proofs.ShortNames.{name_short}

-- lists of faults that are empty
pub none_left : (xs ys : List Path) → xs ++ ys ≡ [] → xs ≡ []
none_left [] ys e = refl
none_left (x ∷ xs) ys e = absurd (cc)

pub none_right : (xs ys : List Path) → xs ++ ys ≡ [] → ys ≡ []
none_right [] ys e = e
none_right (x ∷ xs) ys e = absurd (cc)

none_within : (i : ℕ) (xs : List Path) → within i xs ≡ [] → xs ≡ []
none_within i [] e = refl
none_within i (x ∷ xs) e = absurd (cc)

none_here : (b : Bool) → here_if b ≡ [] → b ≡ false
none_here true e = absurd (cc)
none_here false e = refl

holds : (b : Bool) → here_if (not b) ≡ [] → b ≡ true
holds true e = refl
holds false e = absurd (cc)

pub and_left : (a b : Bool) → a && b ≡ true → a ≡ true
and_left true b e = refl
and_left false b e = absurd (cc)

pub and_right : (a b : Bool) → a && b ≡ true → b ≡ true
and_right true b e = e
and_right false b e = absurd (cc)

-- tests of kinds and sorts
kinds_same : (a b : Kind) → is_kind a b ≡ true → a ≡ b
kinds_same kind.Number kind.Number e = refl
kinds_same kind.Name kind.Name e = refl
kinds_same kind.Truth kind.Truth e = refl
kinds_same a b e = absurd (cc)

sorts_same : (a b : Sort) → is_sort a b ≡ true → a ≡ b
sorts_same sort.Bool sort.Bool e = refl
sorts_same sort.Int sort.Int e = refl
sorts_same sort.Nat sort.Nat e = refl
sorts_same sort.Name sort.Name e = refl
sorts_same a b e = absurd (cc)

not_truth : (s : Sort) → is_sort s sort.Bool ≡ false → s ≢ sort.Bool
not_truth sort.Bool e = absurd (cc)
not_truth sort.Int e = λ k. (cc)
not_truth sort.Nat e = λ k. (cc)
not_truth sort.Name e = λ k. (cc)

sort_there : (asked : Sort) (o : Option Sort) → has_sort asked o ≡ true → o ≡ Some asked
sort_there asked None e = absurd (cc)
sort_there asked (Some s) e = ap Some (sym (sorts_same asked s e))

record Given (k : Kind) (o : Option Sort) : Type 0 where
  pub found : Sort
  pub there : o ≡ Some found
  pub same : sort_kind found ≡ k

kind_there : (k : Kind) (o : Option Sort) → has_kind k o ≡ true → Given k o
kind_there k None e = absurd (cc)
kind_there k (Some s) e = record { found = s; there = refl; same = sym (kinds_same k (sort_kind s) e) }

-- values
chain_form : (f : CellForm) → is_chain f ≡ true → IsChainForm f
chain_form numbers e = tt
chain_form names e = tt
chain_form truths e = tt
chain_form (lex a b) e = (chain_form a (and_left (is_chain a) (is_chain b) e), chain_form b (and_right (is_chain a) (is_chain b) e))
chain_form (pair a b) e = absurd (cc)

good_form : (f : CellForm) → shape_faults f ≡ [] → IsGoodForm f
good_form numbers e = tt
good_form names e = tt
good_form truths e = tt
good_form (lex a b) e =
    let first : here_if (not (is_chain a)) ++ shape_faults a ≡ [] = none_within 1 (here_if (not (is_chain a)) ++ shape_faults a) (none_left (within 1 (here_if (not (is_chain a)) ++ shape_faults a)) (within 2 (shape_faults b)) e) in (
      chain_form a (holds (is_chain a) (none_left (here_if (not (is_chain a))) (shape_faults a) first)),
      good_form b (none_within 2 (shape_faults b) (none_right (within 1 (here_if (not (is_chain a)) ++ shape_faults a)) (within 2 (shape_faults b)) e)),
    )
good_form (pair a b) e = (
  good_form a (none_within 1 (shape_faults a) (none_left (within 1 (shape_faults a)) (within 2 (shape_faults b)) e)),
  good_form b (none_within 2 (shape_faults b) (none_right (within 1 (shape_faults a)) (within 2 (shape_faults b)) e)),
)

least : (z : ℤ) (b : Bool) → int_lt z (neg_ℤ (pos (2 ^ 63))) ≡ b → not b ≡ true → neg_ℤ (pos (2 ^ 63)) ≤ℤ z
least z true e h = absurd (cc)
least z false e h = grind (arith, ints)

most : (z : ℤ) → int_lt z (pos (2 ^ 64)) ≡ true → z ≤ℤ pos (2 ^ 64 - 1)
most z e = grind (arith, ints)

written_value : (v : Value) → is_written v ≡ true → IsWritten v
written_value (value.Bool b) e = tt
written_value (value.Num z) e = (
  least z (int_lt z (neg_ℤ (pos (2 ^ 63)))) refl (and_left (not (int_lt z (neg_ℤ (pos (2 ^ 63))))) (int_lt z (pos (2 ^ 64))) e),
  most z (and_right (not (int_lt z (neg_ℤ (pos (2 ^ 63))))) (int_lt z (pos (2 ^ 64))) e),
)
written_value (value.Name code) e = record {
  name = name_of_code code;
  is_name = record { short = name_short code; each = and_left (list_all is_name_byte (name_of_code code)) (code_of (name_of_code code) == code) e };
  coded = eqb-true (code_of (name_of_code code)) code (and_right (list_all is_name_byte (name_of_code code)) (code_of (name_of_code code) == code) e);
}

start_fits : (v : Value) (k : Kind) → start_faults v k ≡ [] → IsStart v k
start_fits v k e =
    let t : is_kind k (value_kind v) && is_written v ≡ true = holds (is_kind k (value_kind v) && is_written v) e in
    record { kind_is = sym (kinds_same k (value_kind v) (and_left (is_kind k (value_kind v)) (is_written v) t)); written = written_value v (and_right (is_kind k (value_kind v)) (is_written v) t) }

-- what operations give
given_leaf : (sorts : List Sort) (l : Leaf) (k : Kind) → gives_kind sorts l k ≡ true → GivesKind sorts l k
given_leaf sorts (leaf.Arg place) k e =
    let g = kind_there k (slice_get sorts place) e in subst (λ (w : Kind). GivesKind sorts (leaf.Arg place) w) g.same (argument place g.found g.there)
given_leaf sorts leaf.Time k e = subst (λ (w : Kind). GivesKind sorts leaf.Time w) (sym (kinds_same k kind.Number e)) time
given_leaf sorts leaf.Replica k e = subst (λ (w : Kind). GivesKind sorts leaf.Replica w) (sym (kinds_same k kind.Number e)) replica
given_leaf sorts leaf.Zero k e = subst (λ (w : Kind). GivesKind sorts leaf.Zero w) (sym (kinds_same k kind.Number e)) zero_leaf
given_leaf sorts leaf.One k e = subst (λ (w : Kind). GivesKind sorts leaf.One w) (sym (kinds_same k kind.Number e)) one
given_leaf sorts (leaf.Pos place) k e =
    subst (λ (w : Kind). GivesKind sorts (leaf.Pos place) w) (sym (kinds_same k kind.Number (and_left (is_kind k kind.Number) (has_sort sort.Int (slice_get sorts place)) e)))
    (above place (sort_there sort.Int (slice_get sorts place) (and_right (is_kind k kind.Number) (has_sort sort.Int (slice_get sorts place)) e)))
given_leaf sorts (leaf.Neg place) k e =
    subst (λ (w : Kind). GivesKind sorts (leaf.Neg place) w) (sym (kinds_same k kind.Number (and_left (is_kind k kind.Number) (has_sort sort.Int (slice_get sorts place)) e)))
    (below place (sort_there sort.Int (slice_get sorts place) (and_right (is_kind k kind.Number) (has_sort sort.Int (slice_get sorts place)) e)))
given_leaf sorts leaf.False k e = subst (λ (w : Kind). GivesKind sorts leaf.False w) (sym (kinds_same k kind.Truth e)) false_leaf
given_leaf sorts leaf.True k e = subst (λ (w : Kind). GivesKind sorts leaf.True w) (sym (kinds_same k kind.Truth e)) true_leaf

given_weight : (sorts : List Sort) (l : Leaf) → is_weight sorts l ≡ true → IsWeight sorts l
given_weight sorts (leaf.Arg place) e = natural place (sort_there sort.Nat (slice_get sorts place) e)
given_weight sorts leaf.Time e = weigh_time
given_weight sorts leaf.Replica e = weigh_replica
given_weight sorts leaf.Zero e = weigh_zero
given_weight sorts leaf.One e = weigh_one
given_weight sorts (leaf.Pos place) e = weigh_above place (sort_there sort.Int (slice_get sorts place) e)
given_weight sorts (leaf.Neg place) e = weigh_below place (sort_there sort.Int (slice_get sorts place) e)
given_weight sorts leaf.False e = absurd (cc)
given_weight sorts leaf.True e = absurd (cc)

-- lists
matched_fits : {A B : Type 0} (f : A → B → List Path) (Match : A → B → Type 0) → ((x : A) (y : B) → f x y ≡ [] → Match x y) → (i : ℕ) (xs : List A) (ys : List B)
    → length xs ≡ length ys → matched_faults f i xs ys ≡ [] → AreMatched Match xs ys
matched_fits f Match fits i [] [] even e = tt
matched_fits f Match fits i [] (y ∷ ys) even e = absurd (omega arith)
matched_fits f Match fits i (x ∷ xs) [] even e = absurd (omega arith)
matched_fits f Match fits i (x ∷ xs) (y ∷ ys) even e = (
  fits x y (none_within i (f x y) (none_left (within i (f x y)) (matched_faults f (i + 1) xs ys) e)),
  matched_fits f Match fits (i + 1) xs ys (omega arith) (none_right (within i (f x y)) (matched_faults f (i + 1) xs ys) e),
)

list_fits : {A B : Type 0} (f : A → B → List Path) (Match : A → B → Type 0) → ((x : A) (y : B) → f x y ≡ [] → Match x y) → (xs : List A) (ys : List B)
    → list_faults f xs ys ≡ [] → AreMatched Match xs ys
list_fits f Match fits xs ys e =
    matched_fits f Match fits 0 xs ys
    (eqb-true (length xs) (length ys) (holds (length xs == length ys) (none_left (here_if (not (length xs == length ys))) (matched_faults f 0 xs ys) e)))
    (none_right (here_if (not (length xs == length ys))) (matched_faults f 0 xs ys) e)

each_fits : {A : Type 0} (f : A → List Path) (Has : A → Type 0) → ((x : A) → f x ≡ [] → Has x) → (i : ℕ) (xs : List A) → each_faults f i xs ≡ [] → EachHas Has xs
each_fits f Has fits i [] e = tt
each_fits f Has fits i (x ∷ xs) e = (
  fits x (none_within i (f x) (none_left (within i (f x)) (each_faults f (i + 1) xs) e)),
  each_fits f Has fits (i + 1) xs (none_right (within i (f x)) (each_faults f (i + 1) xs) e),
)

leaves_fit : (sorts : List Sort) (leaves : List Leaf) (kinds : List Kind) → list_faults (leaf_faults sorts) leaves kinds ≡ [] → AreMatched (GivesKind sorts) leaves kinds
leaves_fit sorts leaves kinds e = list_fits (leaf_faults sorts) (GivesKind sorts) (λ l k h. given_leaf sorts l k (holds (gives_kind sorts l k) h)) leaves kinds e

key_fits : (key : Sort) (sorts : List Sort) (place : ℕ) → key_faults key sorts place ≡ [] → slice_get sorts place ≡ Some key
key_fits key sorts place e = sort_there key (slice_get sorts place) (holds (has_sort key (slice_get sorts place)) e)

weight_fits : (sorts : List Sort) (l : Leaf) → weight_faults sorts l ≡ [] → IsWeight sorts l
weight_fits sorts l e = given_weight sorts l (holds (is_weight sorts l) e)

-- effects
cell_fits : (kinds : List Kind) (effect : Option (List Leaf)) (op : OpSig) → cell_effect_faults kinds effect op ≡ [] → FitsCell kinds effect op
cell_fits kinds None op e = tt
cell_fits kinds (Some leaves) op e = leaves_fit op.sorts leaves kinds e

table_fits : (key : Sort) (kinds : List Kind) (effect : Option (ℕ × List Leaf)) (op : OpSig) → table_effect_faults key kinds effect op ≡ [] → FitsTable key kinds effect op
table_fits key kinds None op e = tt
table_fits key kinds (Some effect) op e =
    let first = within 0 (key_faults key op.sorts effect.0) in
    let second = within 1 (list_faults (leaf_faults op.sorts) effect.1 kinds) in (
      key_fits key op.sorts effect.0 (none_within 0 (key_faults key op.sorts effect.0) (none_left first second e)),
      leaves_fit op.sorts effect.1 kinds (none_within 1 (list_faults (leaf_faults op.sorts) effect.1 kinds) (none_right first second e)),
    )

set_fits : (key : Sort) (effect : Option ℕ) (op : OpSig) → set_effect_faults key effect op ≡ [] → FitsSet key effect op
set_fits key None op e = tt
set_fits key (Some place) op e = key_fits key op.sorts place e

tally_fits : (effect : Option Leaf) (op : OpSig) → tally_effect_faults effect op ≡ [] → FitsTally effect op
tally_fits None op e = tt
tally_fits (Some l) op e = weight_fits op.sorts l e

tallies_fit : (key : Sort) (effect : Option (ℕ × Leaf)) (op : OpSig) → tallies_effect_faults key effect op ≡ [] → FitsTallies key effect op
tallies_fit key None op e = tt
tallies_fit key (Some effect) op e =
    let first = within 0 (key_faults key op.sorts effect.0) in
    let second = within 1 (weight_faults op.sorts effect.1) in (
      key_fits key op.sorts effect.0 (none_within 0 (key_faults key op.sorts effect.0) (none_left first second e)),
      weight_fits op.sorts effect.1 (none_within 1 (weight_faults op.sorts effect.1) (none_right first second e)),
    )

-- components
key_sort_fits : (key : Sort) → within 1 (key_sort_faults key) ≡ [] → key ≢ sort.Bool
key_sort_fits key e = not_truth key (none_here (is_sort key sort.Bool) (none_within 1 (key_sort_faults key) e))

starts_fit : (f : CellForm) (i : ℕ) (starts : List Value) → within i (list_faults start_faults starts (kinds_of f)) ≡ [] → AreMatched IsStart starts (kinds_of f)
starts_fit f i starts e = list_fits start_faults IsStart start_fits starts (kinds_of f) (none_within i (list_faults start_faults starts (kinds_of f)) e)

component_fits : (ops : List OpSig) (component : ComponentForm) → component_faults ops component ≡ [] → IsComponent ops component
component_fits ops (a_cell shape starts effects) e =
    let first = within 1 (shape_faults shape) in
    let second = within 2 (list_faults start_faults starts (kinds_of shape)) in
    let third = within 3 (list_faults (cell_effect_faults (kinds_of shape)) effects ops) in
    let two : first ++ second ≡ [] = none_left (first ++ second) third e in (
      good_form shape (none_within 1 (shape_faults shape) (none_left first second two)),
      starts_fit shape 2 starts (none_right first second two),
      list_fits (cell_effect_faults (kinds_of shape)) (FitsCell (kinds_of shape)) (cell_fits (kinds_of shape)) effects ops
          (none_within 3 (list_faults (cell_effect_faults (kinds_of shape)) effects ops) (none_right (first ++ second) third e)),
    )
component_fits ops (a_table key shape starts effects) e =
    let first = within 1 (key_sort_faults key) in
    let second = within 2 (shape_faults shape) in
    let third = within 3 (list_faults start_faults starts (kinds_of shape)) in
    let fourth = within 4 (list_faults (table_effect_faults key (kinds_of shape)) effects ops) in
    let three : first ++ second ++ third ≡ [] = none_left (first ++ second ++ third) fourth e in
    let two : first ++ second ≡ [] = none_left (first ++ second) third three in (
      key_sort_fits key (none_left first second two),
      good_form shape (none_within 2 (shape_faults shape) (none_right first second two)),
      starts_fit shape 3 starts (none_right (first ++ second) third three),
      list_fits (table_effect_faults key (kinds_of shape)) (FitsTable key (kinds_of shape)) (table_fits key (kinds_of shape)) effects ops
          (none_within 4 (list_faults (table_effect_faults key (kinds_of shape)) effects ops) (none_right (first ++ second ++ third) fourth e)),
    )
component_fits ops (a_set key effects) e =
    let first = within 1 (key_sort_faults key) in
    let second = within 2 (list_faults (set_effect_faults key) effects ops) in (
      key_sort_fits key (none_left first second e),
      list_fits (set_effect_faults key) (FitsSet key) (set_fits key) effects ops (none_within 2 (list_faults (set_effect_faults key) effects ops) (none_right first second e)),
    )
component_fits ops (a_tally effects) e =
    list_fits tally_effect_faults FitsTally tally_fits effects ops (none_within 1 (list_faults tally_effect_faults effects ops) e)
component_fits ops (tallies key effects) e =
    let first = within 1 (key_sort_faults key) in
    let second = within 2 (list_faults (tallies_effect_faults key) effects ops) in (
      key_sort_fits key (none_left first second e),
      list_fits (tallies_effect_faults key) (FitsTallies key) (tallies_fit key) effects ops (none_within 2 (list_faults (tallies_effect_faults key) effects ops) (none_right first second e)),
    )

-- asks
record Judged (components : List ComponentForm) (sorts : List Sort) (wanted : Wanted) (a : AskForm) : Type 0 where
  pub kind : Kind
  pub has : HasKind components sorts a kind
  pub accepted : is_wanted wanted kind ≡ true
  pub known : ask_kind components sorts a ≡ Some kind

pub get_there : {A : Type 0} (xs : List A) (i : ℕ) → nat_lt i (length xs) ≡ is_some (slice_get xs i)
get_there [] i = grind (arith, nat_tests)
get_there (x ∷ xs) zero = grind (arith, nat_tests)
get_there (x ∷ xs) (suc i) = shifted i (length xs) ∙ get_there xs i where
  shifted : (i n : ℕ) → nat_lt (suc i) (suc n) ≡ nat_lt i n
  shifted i n = grind (arith, nat_tests)

key_given : (sorts : List Sort) (keys : Option Sort) (key : Option ℕ) → gives_key keys key ≡ true → read_key_faults keys key sorts ≡ [] → FitsKey sorts keys key
key_given sorts None None e k = tt
key_given sorts (Some s) (Some place) e k = key_fits s sorts place k
key_given sorts None (Some place) e k = absurd (cc)
key_given sorts (Some s) None e k = absurd (cc)

leaf_judged : (components : List ComponentForm) (sorts : List Sort) (wanted : Wanted) (place n : ℕ) (key : Option ℕ) (component : ComponentForm) (o : Option Kind)
    → slice_get components place ≡ Some component → slice_get (component_kinds component) n ≡ o → kind_faults wanted o ≡ [] → read_faults (Some component) n key sorts ≡ []
    → Judged components sorts wanted (a_leaf place n key)
leaf_judged components sorts wanted place n key component None is none k e =
    let inside = nat_lt n (length (component_kinds component)) in
    let second = within 2 (here_if (not inside)) in
    let first = here_if (not (gives_key (key_sort component) key)) in
    let t : inside ≡ true = holds inside (none_within 2 (here_if (not inside)) (none_right first second (none_left (first ++ second) (within 3 (read_key_faults (key_sort component) key sorts)) e))) in
    let f : inside ≡ false = get_there (component_kinds component) n ∙ ap (λ (o : Option Kind). is_some o) none in
    absurd (cc)
leaf_judged components sorts wanted place n key component (Some k) is there accepted e =
    let inside = nat_lt n (length (component_kinds component)) in
    let first = here_if (not (gives_key (key_sort component) key)) in
    let second = within 2 (here_if (not inside)) in
    let third = within 3 (read_key_faults (key_sort component) key sorts) in
    record {
      kind = k;
      has = read place n key component k is there (key_given sorts (key_sort component) key
          (holds (gives_key (key_sort component) key) (none_left first second (none_left (first ++ second) third e)))
          (none_within 3 (read_key_faults (key_sort component) key sorts) (none_right (first ++ second) third e)));
      accepted = holds (is_wanted wanted k) accepted;
      known = ap (λ (o : Option ComponentForm). leaf_kind o n) is ∙ there;
    }

leaf_found : (components : List ComponentForm) (sorts : List Sort) (wanted : Wanted) (place n : ℕ) (key : Option ℕ) (o : Option ComponentForm)
    → slice_get components place ≡ o → kind_faults wanted (leaf_kind o n) ++ read_faults o n key sorts ≡ [] → Judged components sorts wanted (a_leaf place n key)
leaf_found components sorts wanted place n key None is e = absurd (cc)
leaf_found components sorts wanted place n key (Some component) is e =
    let kinds = kind_faults wanted (slice_get (component_kinds component) n) in
    leaf_judged components sorts wanted place n key component (slice_get (component_kinds component) n) is refl
    (none_left kinds (read_faults (Some component) n key sorts) e) (none_right kinds (read_faults (Some component) n key sorts) e)

parameter_judged : (components : List ComponentForm) (sorts : List Sort) (wanted : Wanted) (place : ℕ) (o : Option Sort) → slice_get sorts place ≡ o
    → kind_faults wanted (parameter_kind o) ≡ [] → nat_lt place (length sorts) ≡ true → Judged components sorts wanted (parameter place)
parameter_judged components sorts wanted place None none e t =
    let f : nat_lt place (length sorts) ≡ false = get_there sorts place ∙ ap (λ (o : Option Sort). is_some o) none in absurd (cc)
parameter_judged components sorts wanted place (Some s) is e t = record {
  kind = sort_kind s;
  has = given place s is;
  accepted = holds (is_wanted wanted (sort_kind s)) e;
  known = ap (λ (o : Option Sort). parameter_kind o) is;
}

-- an ask of two parts
record NoFault (b : Bool) (xs ys : List Path) : Type 0 where
  pub own : b ≡ true
  pub first : xs ≡ []
  pub second : ys ≡ []

no_fault : (b : Bool) (xs ys : List Path) → here_if (not b) ++ within 1 xs ++ within 2 ys ≡ [] → NoFault b xs ys
no_fault b xs ys e =
    let two : here_if (not b) ++ within 1 xs ≡ [] = none_left (here_if (not b) ++ within 1 xs) (within 2 ys) e in
    record {
      own = holds b (none_left (here_if (not b)) (within 1 xs) two);
      first = none_within 1 xs (none_right (here_if (not b)) (within 1 xs) two);
      second = none_within 2 ys (none_right (here_if (not b) ++ within 1 xs) (within 2 ys) e);
    }

-- the ask has the very kind that is wanted
exactly : (components : List ComponentForm) (sorts : List Sort) (k : Kind) (a : AskForm) → Judged components sorts (Exactly k) a → HasKind components sorts a k
exactly components sorts k a j = subst (λ (w : Kind). HasKind components sorts a w) (sym (kinds_same k j.kind j.accepted)) j.has

compared : (components : List ComponentForm) (sorts : List Sort) (a b : AskForm) (k : Kind) → is_wanted Ordered k ≡ true → HasKind components sorts a k → HasKind components sorts b k
    → HasKind components sorts (less a b) kind.Truth
compared components sorts a b kind.Number e x y = numbers_less x y
compared components sorts a b kind.Name e x y = names_less x y
compared components sorts a b kind.Truth e x y = absurd (cc)

ask_judged : (components : List ComponentForm) (sorts : List Sort) (wanted : Wanted) (a : AskForm) → ask_faults components sorts wanted a ≡ [] → Judged components sorts wanted a
ask_judged components sorts wanted (a_leaf place n key) e = leaf_found components sorts wanted place n key (slice_get components place) refl e
ask_judged components sorts wanted (parameter place) e =
    let inside = nat_lt place (length sorts) in
    let own = kind_faults wanted (parameter_kind (slice_get sorts place)) in
    parameter_judged components sorts wanted place (slice_get sorts place) refl (none_left own (within 1 (here_if (not inside))) e)
    (holds inside (none_within 1 (here_if (not inside)) (none_right own (within 1 (here_if (not inside))) e)))
ask_judged components sorts wanted (constant v) e =
    let t : is_wanted wanted (value_kind v) && is_written v ≡ true = holds (is_wanted wanted (value_kind v) && is_written v) e in
    record { kind = value_kind v; has = written v (written_value v (and_right (is_wanted wanted (value_kind v)) (is_written v) t)); accepted = and_left (is_wanted wanted (value_kind v)) (is_written v) t; known = refl }
ask_judged components sorts wanted (negation a) e =
    let own = here_if (not (is_wanted wanted kind.Truth)) in
    let inner = ask_faults components sorts (Exactly kind.Truth) a in
    record {
      kind = kind.Truth;
      has = denied (exactly components sorts kind.Truth a (ask_judged components sorts (Exactly kind.Truth) a (none_within 1 inner (none_right own (within 1 inner) e))));
      accepted = holds (is_wanted wanted kind.Truth) (none_left own (within 1 inner) e);
      known = refl;
    }
ask_judged components sorts wanted (both a b) e =
    let n = no_fault (is_wanted wanted kind.Truth) (ask_faults components sorts (Exactly kind.Truth) a) (ask_faults components sorts (Exactly kind.Truth) b) e in
    record {
      kind = kind.Truth;
      has = and_of (exactly components sorts kind.Truth a (ask_judged components sorts (Exactly kind.Truth) a n.first)) (exactly components sorts kind.Truth b (ask_judged components sorts (Exactly kind.Truth) b n.second));
      accepted = n.own;
      known = refl;
    }
ask_judged components sorts wanted (either a b) e =
    let n = no_fault (is_wanted wanted kind.Truth) (ask_faults components sorts (Exactly kind.Truth) a) (ask_faults components sorts (Exactly kind.Truth) b) e in
    record {
      kind = kind.Truth;
      has = or_of (exactly components sorts kind.Truth a (ask_judged components sorts (Exactly kind.Truth) a n.first)) (exactly components sorts kind.Truth b (ask_judged components sorts (Exactly kind.Truth) b n.second));
      accepted = n.own;
      known = refl;
    }
ask_judged components sorts wanted (less a b) e =
    let n = no_fault (is_wanted wanted kind.Truth) (ask_faults components sorts Ordered a) (ask_faults components sorts (like (ask_kind components sorts a)) b) e in
    let x = ask_judged components sorts Ordered a n.first in
    let y = ask_judged components sorts (like (ask_kind components sorts a)) b n.second in
    let same : like (ask_kind components sorts a) ≡ Exactly x.kind = ap (λ (o : Option Kind). like o) x.known in
    let same_kind : is_wanted (Exactly x.kind) y.kind ≡ true = ap (λ (w : Wanted). is_wanted w y.kind) (sym same) ∙ y.accepted in
    record {
      kind = kind.Truth;
      has = compared components sorts a b x.kind x.accepted x.has (subst (λ (w : Kind). HasKind components sorts b w) (sym (kinds_same x.kind y.kind same_kind)) y.has);
      accepted = n.own;
      known = refl;
    }
ask_judged components sorts wanted (sum a b) e =
    let n = no_fault (is_wanted wanted kind.Number) (ask_faults components sorts (Exactly kind.Number) a) (ask_faults components sorts (Exactly kind.Number) b) e in
    record {
      kind = kind.Number;
      has = sum_of (exactly components sorts kind.Number a (ask_judged components sorts (Exactly kind.Number) a n.first)) (exactly components sorts kind.Number b (ask_judged components sorts (Exactly kind.Number) b n.second));
      accepted = n.own;
      known = refl;
    }
ask_judged components sorts wanted (difference a b) e =
    let n = no_fault (is_wanted wanted kind.Number) (ask_faults components sorts (Exactly kind.Number) a) (ask_faults components sorts (Exactly kind.Number) b) e in
    record {
      kind = kind.Number;
      has = difference_of (exactly components sorts kind.Number a (ask_judged components sorts (Exactly kind.Number) a n.first)) (exactly components sorts kind.Number b (ask_judged components sorts (Exactly kind.Number) b n.second));
      accepted = n.own;
      known = refl;
    }

query_fits : (components : List ComponentForm) (a : AskForm) (query : QuerySig) → query_faults components a query ≡ [] → Answers components a query
query_fits components a query e = exactly components query.sorts (sort_kind query.sort) a (ask_judged components query.sorts (Exactly (sort_kind query.sort)) a e)

-- the limits
at_most : (n limit : ℕ) (b : Bool) → nat_le n limit ≡ b → b ≡ true → n ≤ limit
at_most n limit true e h = grind (arith, nat_tests)
at_most n limit false e h = absurd (cc)

neither : (a b : Bool) → not a || not b ≡ false → (a ≡ true) × (b ≡ true)
neither true true e = (refl, refl)
neither true false e = absurd (cc)
neither false b e = absurd (cc)

pub well_sorted : (d : DesignForm) → faults_of d ≡ [] → IsWellSorted d
well_sorted d e =
    let large = here_if (is_too_large d) in
    let first = within 0 (each_faults (component_faults d.sig.ops) 0 d.components) in
    let second = within 1 (list_faults (query_faults d.components) d.asks d.sig.queries) in
    let all : large ++ first ++ second ≡ [] = none_within 3 (large ++ first ++ second) e in
    let two : large ++ first ≡ [] = none_left (large ++ first) second all in
    let limits = neither (nat_le (length d.components) COMPONENT_LIMIT) (nat_le (size_of d) SIZE_LIMIT) (none_here (is_too_large d) (none_left large first two)) in
    record {
      few = at_most (length d.components) COMPONENT_LIMIT (nat_le (length d.components) COMPONENT_LIMIT) refl limits.0;
      small = at_most (size_of d) SIZE_LIMIT (nat_le (size_of d) SIZE_LIMIT) refl limits.1;
      components = each_fits (component_faults d.sig.ops) (IsComponent d.sig.ops) (component_fits d.sig.ops) 0 d.components
          (none_within 0 (each_faults (component_faults d.sig.ops) 0 d.components) (none_right large first two));
      asks = list_fits (query_faults d.components) (Answers d.components) (query_fits d.components) d.asks d.sig.queries
          (none_within 1 (list_faults (query_faults d.components) d.asks d.sig.queries) (none_right (large ++ first) second all));
    }
