-- What is held and what asks give have the kinds of their leaves and asks.
use Rattle.std.proofs.Common.{◌≡◌, ℕ, zero, suc, ℤ, List, [], ◌∷◌, Some, get_or, map, refl, sym, ap, subst, ◌∙◌, inl, inr}
use Rattle.std.specs.Prelude.{slice_get}
use Rattle.std.proofs.lemmas.List.{map-append}
use Rattle.kat_num.specs.Values.{HasSort}
use Rattle.kat_num.specs.declared.values.Sort.{Sort}
use Rattle.kat_num.specs.declared.values.Sort.TheVariants as sort
use Rattle.kat_num.specs.declared.values.Value.{Value}
use Rattle.kat_num.specs.declared.values.Value.TheVariants as value
use Rattle.kat_expr.specs.Slots.{absent}
use Rattle.kat_shape.specs.Forms.{CellForm}
use Rattle.kat_shape.specs.Values.{Filled, shape_of, leaves_of, a_number, a_name, a_truth, a_lex, a_pair}
use Rattle.kat_design.specs.Designs.{ComponentForm}
use Rattle.kat_design.specs.Designs.ComponentForm.{a_cell, a_table, a_set, a_tally, tallies}
use Rattle.kat_design.specs.Kinds.{component_kinds, kinds_of, sort_kind, value_kind}
use Rattle.kat_design.specs.declared.kinds.Kind.{Kind}
use Rattle.kat_design.specs.declared.kinds.Kind.TheVariants as kind
use Rattle.kat_invariant.specs.Legal.{FitsHeld}
use Rattle.kat_invariant.specs.Situations.{Held, leaf_in}
use Rattle.kat_invariant.specs.Situations.Held.{cell, member, total}
use Rattle.kat_invariant.proofs.Having.{IsNumber, IsTruth}
use Rattle.kat_invariant.proofs.Measures.{Comparable}

-- numbers and names, which have an order
abbrev pub IsOrderedKind : Kind → Type 0
IsOrderedKind kind.Number = Unit {0}
IsOrderedKind kind.Name = Unit {0}
IsOrderedKind kind.Truth = ⊥

kind_of_number : (z : ℤ) (k : Kind) → kind.Number ≡ k → IsOrderedKind k
kind_of_number z k e = subst IsOrderedKind e tt

pub ordered_number : (v : Value) (k : Kind) → value_kind v ≡ k → IsOrderedKind k → IsNumber v
ordered_number (value.Num z) k e h = tt
ordered_number (value.Name n) k e h = tt
ordered_number (value.Bool b) k e h = subst IsOrderedKind (sym e) h

-- a kind by its number, since no two constructors are equal
abbrev pub kind_code : Kind → ℕ
kind_code kind.Number = 0
kind_code kind.Name = 1
kind_code kind.Truth = 2

pub kind_truth : (v : Value) (k : Kind) → value_kind v ≡ k → k ≡ kind.Truth → IsTruth v
kind_truth (value.Bool b) k e h = tt
kind_truth (value.Num z) k e h = let is : ◌≡◌ {A = ℕ} 0 2 = ap kind_code (e ∙ h) in absurd (cc)
kind_truth (value.Name n) k e h = let is : ◌≡◌ {A = ℕ} 1 2 = ap kind_code (e ∙ h) in absurd (cc)

pub kind_integer : (v : Value) (k : Kind) → value_kind v ≡ k → k ≡ kind.Number → HasSort sort.Int v
kind_integer (value.Num z) k e h = tt
kind_integer (value.Bool b) k e h = let is : ◌≡◌ {A = ℕ} 2 0 = ap kind_code (e ∙ h) in absurd (cc)
kind_integer (value.Name n) k e h = let is : ◌≡◌ {A = ℕ} 1 0 = ap kind_code (e ∙ h) in absurd (cc)

pub kind_name : (v : Value) (k : Kind) → value_kind v ≡ k → k ≡ kind.Name → HasSort sort.Name v
kind_name (value.Name n) k e h = tt
kind_name (value.Bool b) k e h = let is : ◌≡◌ {A = ℕ} 2 1 = ap kind_code (e ∙ h) in absurd (cc)
kind_name (value.Num z) k e h = let is : ◌≡◌ {A = ℕ} 0 1 = ap kind_code (e ∙ h) in absurd (cc)

pub two_numbers : (u v : Value) → value_kind u ≡ kind.Number → value_kind v ≡ kind.Number → Comparable u v
two_numbers u v h k = inl (kind_integer u kind.Number h refl, kind_integer v kind.Number k refl)

pub two_names : (u v : Value) → value_kind u ≡ kind.Name → value_kind v ≡ kind.Name → Comparable u v
two_names u v h k = inr (kind_name u kind.Name h refl, kind_name v kind.Name k refl)

-- a value of a sort has the sort's kind
pub sort_has_kind : (s : Sort) (v : Value) → HasSort s v → value_kind v ≡ sort_kind s
sort_has_kind sort.Bool (value.Bool b) h = refl
sort_has_kind sort.Bool (value.Num z) h = absurd h
sort_has_kind sort.Bool (value.Name n) h = absurd h
sort_has_kind sort.Int (value.Bool b) h = absurd h
sort_has_kind sort.Int (value.Num z) h = refl
sort_has_kind sort.Int (value.Name n) h = absurd h
sort_has_kind sort.Nat (value.Bool b) h = absurd h
sort_has_kind sort.Nat (value.Num z) h = refl
sort_has_kind sort.Nat (value.Name n) h = absurd h
sort_has_kind sort.Name (value.Bool b) h = absurd h
sort_has_kind sort.Name (value.Num z) h = absurd h
sort_has_kind sort.Name (value.Name n) h = refl

-- the leaves of a cell have the kinds of its shape
pub cell_kinds : (c : Filled) → map value_kind (leaves_of c) ≡ kinds_of (shape_of c)
cell_kinds (a_number z) = refl
cell_kinds (a_name n) = refl
cell_kinds (a_truth b) = refl
cell_kinds (a_lex a b) = map-append value_kind (leaves_of a) (leaves_of b) ∙ rw (cell_kinds a, cell_kinds b) refl
cell_kinds (a_pair a b) = map-append value_kind (leaves_of a) (leaves_of b) ∙ rw (cell_kinds a, cell_kinds b) refl

kind_at : (vs : List Value) (l : ℕ) (k : Kind) → slice_get (map value_kind vs) l ≡ Some k → value_kind (get_or vs l absent) ≡ k
kind_at [] l k e = absurd (cc)
kind_at (v ∷ vs) zero k e = cc
kind_at (v ∷ vs) (suc l) k e = kind_at vs l k e

cell_leaf : (c : Filled) (shape : CellForm) (l : ℕ) (k : Kind) → shape_of c ≡ shape → slice_get (kinds_of shape) l ≡ Some k → value_kind (leaf_in (cell c) l) ≡ k
cell_leaf c shape l k is e = kind_at (leaves_of c) l k (ap (λ ks. slice_get ks l) (cell_kinds c ∙ ap kinds_of is) ∙ e)

one_kind : (k j : Kind) (l : ℕ) → slice_get (k ∷ []) l ≡ Some j → k ≡ j
one_kind k j zero e = cc
one_kind k j (suc l) e = absurd (cc)

pub leaf_has_kind : (component : ComponentForm) (h : Held) (l : ℕ) (k : Kind) → FitsHeld component h → slice_get (component_kinds component) l ≡ Some k → value_kind (leaf_in h l) ≡ k
leaf_has_kind (a_cell shape starts effects) (cell c) l k fits e = cell_leaf c shape l k fits e
leaf_has_kind (a_table key shape starts effects) (cell c) l k fits e = cell_leaf c shape l k fits e
leaf_has_kind (a_set key effects) (member b) l k fits e = one_kind kind.Truth k l e
leaf_has_kind (a_tally effects) (total z) l k fits e = one_kind kind.Number k l e
leaf_has_kind (tallies key effects) (total z) l k fits e = one_kind kind.Number k l e
leaf_has_kind (a_cell shape starts effects) (member b) l k fits e = absurd fits
leaf_has_kind (a_cell shape starts effects) (total b) l k fits e = absurd fits
leaf_has_kind (a_table key shape starts effects) (member b) l k fits e = absurd fits
leaf_has_kind (a_table key shape starts effects) (total b) l k fits e = absurd fits
leaf_has_kind (a_set key effects) (cell c) l k fits e = absurd fits
leaf_has_kind (a_set key effects) (total c) l k fits e = absurd fits
leaf_has_kind (a_tally effects) (cell c) l k fits e = absurd fits
leaf_has_kind (a_tally effects) (member c) l k fits e = absurd fits
leaf_has_kind (tallies key effects) (cell c) l k fits e = absurd fits
leaf_has_kind (tallies key effects) (member c) l k fits e = absurd fits
