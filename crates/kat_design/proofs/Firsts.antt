-- The next element of a list, and of its images.
use Rattle.std.proofs.Common.{◌≡◌, ℕ, suc, ◌+◌, ◌<◌, ◌≤◌, List, [], ◌∷◌, length, map, drop, get_or, drop-cons, add-one, sym, ◌∙◌, ap}
use Rattle.std.proofs.lemmas.List.{drop_all}

pub left_drop : {A : Type 0} (xs : List A) (i : ℕ) (x : A) → i < length xs → x ≡ get_or xs i x → drop i xs ≡ x ∷ drop (i + 1) xs
left_drop xs i x lt is = drop-cons xs i x lt ∙ ap (λ y. y ∷ drop (suc i) xs) (sym is) ∙ ap (λ k. x ∷ drop k xs) (sym (add-one i))

pub left_drop_any : {A : Type 0} (xs : List A) (i : ℕ) (d : A) → i < length xs → drop i xs ≡ get_or xs i d ∷ drop (i + 1) xs
left_drop_any xs i d lt = drop-cons xs i d lt ∙ ap (λ k. get_or xs i d ∷ drop k xs) (sym (add-one i))

pub left_map : {A B : Type 0} (g : A → B) (xs : List A) (i : ℕ) (x : A) → i < length xs → x ≡ get_or xs i x → map g (drop i xs) ≡ g x ∷ map g (drop (i + 1) xs)
left_map g xs i x lt is = ap (λ ys. map g ys) (left_drop xs i x lt is)

pub past_map : {A B : Type 0} (g : A → B) (xs : List A) (i : ℕ) → length xs ≤ i → map g (drop i xs) ≡ []
past_map g xs i le = ap (λ ys. map g ys) (drop_all i xs le)
