-- Leaves fit a start's shape if each fits where the start's is; and a value is its own join with a start if the
-- start is below it.
use Rattle.std.proofs.Common.{◌≡◌, ℕ, ◌+◌, Bool, true, false, List, [], ◌∷◌, ◌++◌, length, map, refl, sym, ap, ap₂, ◌∙◌, subst, ◌↔◌, IsTrue}
use Rattle.std.specs.Prelude.{◌&&◌, not}
use Rattle.std.proofs.lemmas.Bool.{eq-eqb, ne_eqb}
use Rattle.std.proofs.lemmas.List.{length-map, map-append}
use Rattle.kat_num.specs.declared.values.Value.{Value}
use Rattle.kat_lattice.specs.JoinLaws.{IsBelow}
use Rattle.kat_shape.specs.Laws.{shape_of-joined}
use Rattle.kat_shape.specs.Values.{Filled, OneShape, a_lex, a_name, a_number, a_pair, a_truth, joined, leaves_of, shape_of}
use Rattle.kat_shape.proofs.ByLeaves.{leaves_determine}
use Rattle.kat_type.proofs.Same.{same-values}
use Rattle.kat_type.specs.Unions.{are_same_values}
use Rattle.kat_design.specs.Faults.{Path, here_if, list_faults, matched_faults, start_faults, within}
use Rattle.kat_design.specs.Kinds.{kinds_of, value_kind}
use Rattle.kat_node.specs.Possible.{are_alike, are_none, is_alike, leaves_faults}
use Rattle.kat_node.proofs.TableValues.{values_itself}

both_kinds : (a b : Filled) → map value_kind (leaves_of a) ≡ kinds_of (shape_of a) → map value_kind (leaves_of b) ≡ kinds_of (shape_of b)
    → map value_kind (leaves_of a ++ leaves_of b) ≡ kinds_of (shape_of a) ++ kinds_of (shape_of b)
both_kinds a b first second = map-append value_kind (leaves_of a) (leaves_of b) ∙ ap₂ (λ xs ys. xs ++ ys) first second

kinds_own : (a : Filled) → map value_kind (leaves_of a) ≡ kinds_of (shape_of a)
kinds_own (a_number z) = refl
kinds_own (a_name n) = refl
kinds_own (a_truth b) = refl
kinds_own (a_lex a b) = both_kinds a b (kinds_own a) (kinds_own b)
kinds_own (a_pair a b) = both_kinds a b (kinds_own a) (kinds_own b)

none_front : (i : ℕ) (b : Bool) (rest : List Path) → are_none (within i (here_if (not b)) ++ rest) ≡ b && are_none rest
none_front i true rest = refl
none_front i false rest = refl

matched_alike : (i : ℕ) (starts leaves : List Value) → are_none (matched_faults start_faults i leaves (map value_kind starts)) ≡ are_alike starts leaves
matched_alike i [] [] = refl
matched_alike i [] (leaf ∷ leaves) = refl
matched_alike i (start ∷ starts) [] = refl
matched_alike i (start ∷ starts) (leaf ∷ leaves) =
    none_front i (is_alike start leaf) (matched_faults start_faults (i + 1) leaves (map value_kind starts)) ∙ ap (λ b. is_alike start leaf && b) (matched_alike (i + 1) starts leaves)

even_alike : (starts leaves : List Value) → length starts ≡ length leaves → are_none (list_faults start_faults leaves (map value_kind starts)) ≡ are_alike starts leaves
even_alike starts leaves even =
    ap (λ b. are_none (here_if (not b) ++ matched_faults start_faults 0 leaves (map value_kind starts)))
    (eq-eqb (length leaves) (length (map value_kind starts)) (sym even ∙ sym (length-map starts value_kind))) ∙ matched_alike 0 starts leaves

pub fit_even : (start : Filled) (leaves : List Value) → length (leaves_of start) ≡ length leaves → are_none (leaves_faults (shape_of start) leaves) ≡ are_alike (leaves_of start) leaves
fit_even start leaves even =
    subst (λ ks. are_none (list_faults start_faults leaves ks) ≡ are_alike (leaves_of start) leaves) (kinds_own start) (even_alike (leaves_of start) leaves even)

uneven : (starts leaves : List Value) → (length starts ≡ length leaves → ⊥) → are_none (list_faults start_faults leaves (map value_kind starts)) ≡ false
uneven starts leaves other =
    ap (λ b. are_none (here_if (not b) ++ matched_faults start_faults 0 leaves (map value_kind starts)))
    (ne_eqb (length leaves) (length (map value_kind starts)) (λ e. other (sym (e ∙ length-map starts value_kind))))

pub fit_uneven : (start : Filled) (leaves : List Value) → (length (leaves_of start) ≡ length leaves → ⊥) → are_none (leaves_faults (shape_of start) leaves) ≡ false
fit_uneven start leaves other = subst (λ ks. are_none (list_faults start_faults leaves ks) ≡ false) (kinds_own start) (uneven (leaves_of start) leaves other)

-- a value above a start
not_same : (b : Bool) → (b ≡ true → ⊥) → false ≡ b
not_same true other = absurd (other refl)
not_same false other = refl

pub above_same : (start v : Filled) → OneShape start v → (b : Bool) → IsTrue b ↔ IsBelow joined start v → b ≡ are_same_values (leaves_of (joined start v)) (leaves_of v)
above_same start v goes true h =
    sym (subst (λ ws. are_same_values ws (leaves_of v) ≡ true) (sym (ap leaves_of (h.0 refl))) (values_itself (leaves_of v)))
above_same start v goes false h =
    not_same (are_same_values (leaves_of (joined start v)) (leaves_of v))
    (λ e. let no : false ≡ true = h.1 (leaves_determine (joined start v) v (shape_of-joined start v goes ∙ goes.same) (same-values (leaves_of (joined start v)) (leaves_of v) e)) in absurd (cc))
