-- Sums that stay where they are at the greatest number of their size.
use Rattle.std.proofs.Common.{◌≡◌, ℕ, ◌+◌, ◌<◌, ◌≤◌, min, List, [], ◌∷◌, length, map, take, get_or, refl, sym, ◌∙◌, ap, arith}
use Rattle.std.specs.Prelude.{sum_by}
use Rattle.std.proofs.lemmas.List.Sums.{sum_by-cons, sum_by_more}
use Rattle.std.proofs.lemmas.List.{take_all}

capped_add : (a b s total n next most : ℕ) → total ≡ min a most → n ≡ min b most → next ≡ min (total + n) most → s ≡ a + b → next ≡ min s most
capped_add a b s total n next most h k l e = omega arith

pub capped_next : {X : Type 0} (f : X → ℕ) (xs : List X) (i : ℕ) (x : X) (total n next most : ℕ) → total ≡ min (sum_by f (take i xs)) most → i < length xs → x ≡ get_or xs i x
    → n ≡ min (f x) most → next ≡ min (total + n) most → next ≡ min (sum_by f (take (i + 1) xs)) most
capped_next f xs i x total n next most h lt is k l =
    capped_add (sum_by f (take i xs)) (f x) (sum_by f (take (i + 1) xs)) total n next most h k l
    (sum_by_more f xs i x lt ∙ ap (λ y. sum_by f (take i xs) + f y) (sym is))

exact_add : (a b s total next most : ℕ) → total ≡ min a most → next ≡ min (total + b) most → s ≡ a + b → next ≡ min s most
exact_add a b s total next most h l e = omega arith

pub exact_next : {X : Type 0} (f : X → ℕ) (xs : List X) (i : ℕ) (x : X) (total n next most : ℕ) → total ≡ min (sum_by f (take i xs)) most → i < length xs → x ≡ get_or xs i x
    → n ≡ f x → next ≡ min (total + n) most → next ≡ min (sum_by f (take (i + 1) xs)) most
exact_next f xs i x total n next most h lt is k l =
    exact_add (sum_by f (take i xs)) (f x) (sum_by f (take (i + 1) xs)) total next most h (l ∙ ap (λ m. min (total + m) most) k)
    (sum_by_more f xs i x lt ∙ ap (λ y. sum_by f (take i xs) + f y) (sym is))

pub capped_end : {X : Type 0} (f : X → ℕ) (xs : List X) (i total most : ℕ) → total ≡ min (sum_by f (take i xs)) most → length xs ≤ i → total ≡ min (sum_by f xs) most
capped_end f xs i total most h le = h ∙ ap (λ ys. min (sum_by f ys) most) (take_all i xs le)

pub sum_by_map : {X Y : Type 0} (f : Y → ℕ) (g : X → Y) (xs : List X) → sum_by f (map g xs) ≡ sum_by (λ x. f (g x)) xs
sum_by_map f g [] = refl
sum_by_map f g (x ∷ xs) = sum_by-cons f (g x) (map g xs) ∙ ap (λ n. f (g x) + n) (sum_by_map f g xs) ∙ sym (sum_by-cons (λ y. f (g y)) x xs)

pub capped_map : {X Y : Type 0} (f : Y → ℕ) (g : X → Y) (xs : List X) (i total most : ℕ) → total ≡ min (sum_by (λ x. f (g x)) (take i xs)) most → length xs ≤ i
    → total ≡ min (sum_by f (map g xs)) most
capped_map f g xs i total most h le = capped_end (λ x. f (g x)) xs i total most h le ∙ ap (λ n. min n most) (sym (sum_by_map f g xs))
