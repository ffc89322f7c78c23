-- What a walk gives that has just begun.
use Rattle.std.proofs.Common.{◌≡◌, ℕ, zero, suc, ◌-◌, ◌<◌, false, List, [], ◌∷◌, map, refl, sym, ◌∙◌, ap, subst, arith, append-nil}
use Rattle.kat_walk.specs.Machines.{Held, Machine, coming, sprout, words}
use Rattle.kat_walk.specs.Walks.{IsFirst}

map_same : {X : Type 0} (xs : List X) → map (λ x. x) xs ≡ xs
map_same [] = refl
map_same (x ∷ xs) = ap (λ l. x ∷ l) (map_same xs)

words_some : {S T : Type 0} (m : Machine S T) (f : ℕ) (s : S) → m.done s ≡ false → 0 < f → words m f s ≡ sprout (λ t. words m (f - 1) (m.step s t)) (m.allowed s)
words_some m zero s h k = absurd (omega arith)
words_some m (suc f) s h k = rw h (ap (λ n. sprout (λ t. words m n (m.step s t)) (m.allowed s)) (omega arith))

first_place : {S T : Type 0} (m : Machine S T) (most : ℕ) (s : S) (h : Held S T) (below : List (Held S T)) → (h.state ≡ s) → (h.left ≡ m.allowed s) → (below ≡ [])
    → coming m most (h ∷ below) ≡ sprout (λ t. words m (most - 1) (m.step s t)) (m.allowed s)
first_place m most s h below a b c =
    subst (λ (l : List (Held _ _)). coming m most (h ∷ l) ≡ sprout (λ t. words m (most - 1) (m.step s t)) (m.allowed s)) (sym c)
    (append-nil _ ∙ map_same _ ∙ ap (λ l. sprout (λ t. words m (most - 1) (m.step h.state t)) l) b ∙ ap (λ p. sprout (λ t. words m (most - 1) (m.step p t)) (m.allowed s)) a)

pub all_to_come : {S T : Type 0} (m : Machine S T) (most : ℕ) (s : S) (stack : List (Held S T)) → IsFirst m s stack → m.done s ≡ false → 0 < most → coming m most stack ≡ words m most s
all_to_come m most s [] first h k = sym (words_some m most s h k ∙ ap (λ l. sprout (λ t. words m (most - 1) (m.step s t)) l) first)
all_to_come m most s (g ∷ below) first h k = first_place m most s g below first.0 first.1 first.2 ∙ sym (words_some m most s h k)
