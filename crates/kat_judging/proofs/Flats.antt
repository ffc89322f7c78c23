-- The first fault of all parts of a list.
use Rattle.std.proofs.Common.{◌≡◌, ℕ, suc, ◌+◌, ◌<◌, ◌≤◌, List, ◌∷◌, length, drop, drop-cons, add-one, get_or, sym, ◌∙◌, ap, Option}
use Rattle.std.specs.List.{flat_map}
use Rattle.std.proofs.lemmas.List.{drop_all}
use Rattle.kat_judging.specs.Faults.{earlier, first_of}
use Rattle.kat_judging.specs.declared.faults.Fault.{Fault}
use Rattle.kat_judging.proofs.Firsts.{earlier_assoc, earlier_none, first_append}

pub flat_next : {T : Type 0} (F : T → List Fault) (xs : List T) (i : ℕ) (d x : T) (first next one : Option Fault) {whole : Option Fault}
    → earlier first (first_of (flat_map F (drop i xs))) ≡ whole → i < length xs → x ≡ get_or xs i d → one ≡ first_of (F x) → next ≡ earlier first one
    → earlier next (first_of (flat_map F (drop (i + 1) xs))) ≡ whole
flat_next F xs i d x first next one h lt is o n =
    ap (λ f. earlier f (first_of (flat_map F (drop (i + 1) xs)))) (n ∙ ap (λ f. earlier first f) o)
    ∙ sym (earlier_assoc first (first_of (F x)) (first_of (flat_map F (drop (i + 1) xs))))
    ∙ ap (λ k. earlier first (earlier (first_of (F x)) (first_of (flat_map F (drop k xs))))) (add-one i)
    ∙ ap (λ f. earlier first f) (sym (first_append (F x) (flat_map F (drop (suc i) xs))))
    ∙ ap (λ ys. earlier first (first_of (flat_map F ys))) (sym (drop-cons xs i d lt ∙ ap (λ y. y ∷ drop (suc i) xs) (sym is)))
    ∙ h

pub flat_end : {T : Type 0} (F : T → List Fault) (xs : List T) (i : ℕ) (first : Option Fault) {whole : Option Fault}
    → earlier first (first_of (flat_map F (drop i xs))) ≡ whole → length xs ≤ i → first ≡ whole
flat_end F xs i first h le = earlier_none first ∙ ap (λ ys. earlier first (first_of (flat_map F ys))) (sym (drop_all i xs le)) ∙ h
