-- The declaration that a word means, this many places further.
use Rattle.std.proofs.Common.{◌≡◌, ℕ, suc, ◌+◌, ◌<◌, ◌≤◌, true, false, List, ◌∷◌, length, drop, drop-cons, add-one, get_or, refl, sym, ◌∙◌, ap, arith, Option, None, Some}
use Rattle.std.proofs.lemmas.List.{drop_all}
use Rattle.std.specs.Prelude.{option_map, ◌==◌, if◌then◌else◌}
use Rattle.kat_judging.specs.Names.{first_named, one_further}
use Rattle.kat_judging.specs.declared.names.Declared.{Declared}

-- this many places further
abbrev pub further : {A : Type 0} → ℕ → Option (Declared A) → Option (Declared A)
further n found = option_map (λ d. record { place = n + d.place; it = d.it }) found

pub further_none : {A : Type 0} (found : Option (Declared A)) → found ≡ further 0 found
further_none None = refl
further_none (Some d) = let e : d.place ≡ 0 + d.place = omega arith in ap (λ (p : ℕ). Some (record { place = p; it = d.it })) e

further_one : {A : Type 0} (n : ℕ) (found : Option (Declared A)) → further n (option_map one_further found) ≡ further (n + 1) found
further_one n None = refl
further_one n (Some d) = let e : n + suc d.place ≡ n + 1 + d.place = omega arith in ap (λ (p : ℕ). Some (record { place = p; it = d.it })) e

-- the one at this place is it
pub found_here : {A : Type 0} (name : A → ℕ) (code i : ℕ) (x : A) (xs : List A) → first_named name code xs ≡ further i (first_named name code (drop i xs))
    → i < length xs → x ≡ get_or xs i x → (name x == code) ≡ true → Some (record { place = i; it = x }) ≡ first_named name code xs
found_here name code i x xs h lt is same =
    let e : drop i xs ≡ x ∷ drop (suc i) xs = drop-cons xs i x lt ∙ ap (λ y. y ∷ drop (suc i) xs) (sym is) in
    let z : i + 0 ≡ i = omega arith in
    sym (h ∙ ap (λ ys. further i (first_named name code ys)) e ∙ ap (λ b. further i (if b then Some (record { place = 0; it = x }) else option_map one_further (first_named name code (drop (suc i) xs)))) same ∙ ap (λ (p : ℕ). Some (record { place = p; it = x })) z)

-- it is another one
pub found_later : {A : Type 0} (name : A → ℕ) (code i : ℕ) (x : A) (xs : List A) → first_named name code xs ≡ further i (first_named name code (drop i xs))
    → i < length xs → x ≡ get_or xs i x → (name x == code) ≡ false → first_named name code xs ≡ further (i + 1) (first_named name code (drop (i + 1) xs))
found_later name code i x xs h lt is other =
    let e : drop i xs ≡ x ∷ drop (suc i) xs = drop-cons xs i x lt ∙ ap (λ y. y ∷ drop (suc i) xs) (sym is) in
    h ∙ ap (λ ys. further i (first_named name code ys)) e
    ∙ ap (λ b. further i (if b then Some (record { place = 0; it = x }) else option_map one_further (first_named name code (drop (suc i) xs)))) other
    ∙ further_one i (first_named name code (drop (suc i) xs)) ∙ ap (λ k. further (i + 1) (first_named name code (drop k xs))) (sym (add-one i))

pub found_nowhere : {A : Type 0} (name : A → ℕ) (code i : ℕ) (xs : List A) → first_named name code xs ≡ further i (first_named name code (drop i xs))
    → length xs ≤ i → None ≡ first_named name code xs
found_nowhere name code i xs h le = sym (h ∙ ap (λ ys. further i (first_named name code ys)) (drop_all i xs le))
