-- The numbers of an accepted design's asks are small.
use Rattle.std.proofs.Common.{◌≡◌, ◌+◌, ◌≤◌, ◌++◌, length, arith, ℕ, zero, suc, List, [], ◌∷◌, ap, Some, ◌<◌, Option, None}
use Rattle.std.specs.Prelude.{◌-◌, slice_get, sum_by, ◌^◌, All}
use Rattle.std.proofs.lemmas.List.{length-append}
use Rattle.std.proofs.lemmas.List.Sums.{sum_by-cons}
use Rattle.std.proofs.lemmas.Option.{slice_get_within}
use Rattle.std.proofs.lemmas.List.Elements.{All-head, All-tail}
use Rattle.kat_shape.specs.Forms.{CellForm, numbers, names, truths, lex, pair, nodes_of}
use Rattle.kat_design.specs.Kinds.{kinds_of, component_kinds, key_sort}
use Rattle.kat_design.specs.Designs.{ComponentForm, AskForm, DesignForm}
use Rattle.kat_design.specs.Designs.ComponentForm.{a_cell, a_table, a_set, a_tally, tallies}
use Rattle.kat_design.specs.Sizes.{component_size, size_of}
use Rattle.kat_json.proofs.Backwards.{some_same}
use Rattle.kat_num.specs.declared.values.Sort.{Sort}
use Rattle.kat_design.specs.Designs.AskForm.{leaf as a_leaf}
use Rattle.kat_design.specs.Sorted.{FitsKey, HasKind, Answers, AreMatched, EachHas, IsWellSorted}
use Rattle.kat_design_json.proofs.AsksBack.{HasSmallNumbers}
use Rattle.kat_design.specs.Sorted.HasKind.{read, given, written, denied, and_of, or_of, numbers_less, names_less, sum_of, difference_of}
use Rattle.kat_type.specs.Limits.{param_limit}
use Rattle.kat_type.specs.declared.signatures.QuerySig.{QuerySig}
use Rattle.kat_type.specs.Signatures.{IsSmall}

-- a shape has no more leaves than nodes
kinds_few : (shape : CellForm) → length (kinds_of shape) ≤ nodes_of shape
kinds_few numbers = omega arith
kinds_few names = omega arith
kinds_few truths = omega arith
kinds_few (lex a b) = let first = kinds_few a in let second = kinds_few b in let all : length (kinds_of a ++ kinds_of b) ≡ length (kinds_of a) + length (kinds_of b) = length-append (kinds_of a) (kinds_of b) in omega (arith, first, second, all)
kinds_few (pair a b) = let first = kinds_few a in let second = kinds_few b in let all : length (kinds_of a ++ kinds_of b) ≡ length (kinds_of a) + length (kinds_of b) = length-append (kinds_of a) (kinds_of b) in omega (arith, first, second, all)

leaves_few : (component : ComponentForm) → length (component_kinds component) ≤ component_size component
leaves_few (a_cell shape starts effects) = let few = kinds_few shape in omega (arith, few)
leaves_few (a_table key shape starts effects) = let few = kinds_few shape in omega (arith, few)
leaves_few (a_set key effects) = omega arith
leaves_few (a_tally effects) = omega arith
leaves_few (tallies key effects) = omega arith

one_few : (components : List ComponentForm) (i : ℕ) (component : ComponentForm) → slice_get components i ≡ Some component → component_size component ≤ sum_by component_size components
one_few [] i component there = absurd (cc)
one_few (c ∷ components) zero component there = let all : sum_by component_size (c ∷ components) ≡ component_size c + sum_by component_size components = sum_by-cons component_size c components in let same : component_size c ≡ component_size component = ap component_size (some_same c component there) in omega (arith, same, all)
one_few (c ∷ components) (suc i) component there =
    let all : sum_by component_size (c ∷ components) ≡ component_size c + sum_by component_size components = sum_by-cons component_size c components in
    let rest = one_few components i component there in omega (arith, rest, all)

-- few components with few leaves, and few parameters
pub record IsFew (components : List ComponentForm) (sorts : List Sort) : Type 0 where
  pub few_components : length components ≤ 8
  pub few_leaves : sum_by component_size components ≤ 64
  pub few_sorts : length sorts ≤ 4

parameter_small : (sorts : List Sort) (place : ℕ) (s : Sort) → length sorts ≤ 4 → slice_get sorts place ≡ Some s → place < 2 ^ 32 - 1
parameter_small sorts place s few there = let inside = slice_get_within sorts place s there in omega (arith, few, inside)

read_small : (components : List ComponentForm) (sorts : List Sort) (place n : ℕ) (key : Option ℕ) (component : ComponentForm) → IsFew components sorts
    → slice_get components place ≡ Some component → n < length (component_kinds component) → (asked : Option Sort) → FitsKey sorts asked key → HasSmallNumbers (a_leaf place n key)
read_small components sorts place n None component few there within asked fits =
    let inside = slice_get_within components place component there in
    let leaves = leaves_few component in
    let size = one_few components place component there in
    (omega (arith, few.few_components, inside), omega (arith, few.few_leaves, within, leaves, size))
read_small components sorts place n (Some key) component few there within None fits = absurd fits
read_small components sorts place n (Some key) component few there within (Some s) fits =
    let inside = slice_get_within components place component there in
    let leaves = leaves_few component in
    let size = one_few components place component there in
    (omega (arith, few.few_components, inside), omega (arith, few.few_leaves, within, leaves, size), parameter_small sorts key s few.few_sorts fits)

kind_small : (components : List ComponentForm) (sorts : List Sort) (a : AskForm) (k : _) → IsFew components sorts → HasKind components sorts a k → HasSmallNumbers a
kind_small components sorts _ _ few (read place n key component k there leaf fits) = read_small components sorts place n key component few there (slice_get_within (component_kinds component) n k leaf) (key_sort component) fits
kind_small components sorts _ _ few (given place s there) = parameter_small sorts place s few.few_sorts there
kind_small components sorts _ _ few (written v is) = tt
kind_small components sorts _ _ few (denied {a} h) = kind_small components sorts a _ few h
kind_small components sorts _ _ few (and_of {a} {b} h j) = (kind_small components sorts a _ few h, kind_small components sorts b _ few j)
kind_small components sorts _ _ few (or_of {a} {b} h j) = (kind_small components sorts a _ few h, kind_small components sorts b _ few j)
kind_small components sorts _ _ few (numbers_less {a} {b} h j) = (kind_small components sorts a _ few h, kind_small components sorts b _ few j)
kind_small components sorts _ _ few (names_less {a} {b} h j) = (kind_small components sorts a _ few h, kind_small components sorts b _ few j)
kind_small components sorts _ _ few (sum_of {a} {b} h j) = (kind_small components sorts a _ few h, kind_small components sorts b _ few j)
kind_small components sorts _ _ few (difference_of {a} {b} h j) = (kind_small components sorts a _ few h, kind_small components sorts b _ few j)

asks_small : (components : List ComponentForm) (asks : List AskForm) (queries : List QuerySig) → length components ≤ 8 → sum_by component_size components ≤ 64
    → All (λ (query : QuerySig). length query.sorts ≤ param_limit) queries → AreMatched (Answers components) asks queries → EachHas HasSmallNumbers asks
asks_small components [] [] few size small matched = tt
asks_small components [] (q ∷ queries) few size small matched = tt
asks_small components (a ∷ asks) [] few size small matched = absurd matched
asks_small components (a ∷ asks) (q ∷ queries) few size small matched =
    let short : length q.sorts ≤ 4 = All-head (λ (query : QuerySig). length query.sorts ≤ param_limit) q queries small in (
      kind_small components q.sorts a _ (record { few_components = few; few_leaves = size; few_sorts = short }) matched.0,
      asks_small components asks queries few size (All-tail (λ (query : QuerySig). length query.sorts ≤ param_limit) q queries small) matched.1,
    )

pub design_small : (d : DesignForm) → IsWellSorted d → IsSmall d.sig → EachHas HasSmallNumbers d.asks
design_small d sorted small =
    let few : length d.components ≤ 8 = sorted.few in
    let size : size_of d ≤ 64 = sorted.small in
    let leaves : sum_by component_size d.components ≤ 64 = omega (arith, size) in
    asks_small d.components d.asks d.sig.queries few leaves small.queries sorted.asks
