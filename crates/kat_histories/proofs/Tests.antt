-- Tests of all elements, and of all pairs.
use Rattle.std.proofs.Common.{◌≡◌, ℕ, suc, ◌<◌, Bool, true, false, ◌&&◌, List, [], ◌∷◌, arith, refl}
use Rattle.std.specs.Prelude.{All}
use Rattle.std.specs.Bool.{Decides}
use Rattle.std.specs.List.{AllPairs, list_all}
use Rattle.std.proofs.lemmas.List.Elements.{All-cons}
use Rattle.std.proofs.lemmas.List.Kept.{AllPairs-cons}
use Rattle.kat_histories.specs.Orders.{each_pair}

pub both_true : (a b : Bool) → (a && b) ≡ true → (a ≡ true) × (b ≡ true)
both_true true b e = (refl, e)
both_true false b e = absurd (cc e)

pub true_both : (a b : Bool) → a ≡ true → b ≡ true → (a && b) ≡ true
true_both true b e h = h
true_both false b e h = absurd (cc e)

pub all_decided : {X : Type 0} (p : X → Bool) (P : X → Type 0) (xs : List X) → ((x : X) → Decides (p x) (P x)) → Decides (list_all p xs) (All P xs)
all_decided p P [] each = (λ e k d lt. absurd (none k lt), λ h. refl) where
  none : (k : ℕ) → k < 0 → ⊥
  none k h = omega (arith, h)
all_decided {X} p P (x ∷ xs) each =
    let rest = all_decided p P xs each in (
      λ e. let parts = both_true (p x) (list_all p xs) e in All-cons P x xs ((each x).0 parts.0) (rest.0 parts.1),
      λ h. true_both (p x) (list_all p xs) ((each x).1 (h 0 x (omega arith))) (rest.1 (λ k d lt. h (suc k) d (omega (arith, lt)))),
    )

pub pairs_first : {X : Type 0} (R : X → X → Type 0) (x : X) (xs : List X) → AllPairs R (x ∷ xs) → All (R x) xs
pairs_first R x xs h = λ k d lt. h 0 (suc k) d (omega arith) (omega (arith, lt))

pub pairs_rest : {X : Type 0} (R : X → X → Type 0) (x : X) (xs : List X) → AllPairs R (x ∷ xs) → AllPairs R xs
pairs_rest R x xs h = λ i j d lt le. h (suc i) (suc j) d (omega (arith, lt)) (omega (arith, le))

pub pairs_decided : {X : Type 0} (test : X → X → Bool) (R : X → X → Type 0) (xs : List X) → ((x y : X) → Decides (test x y) (R x y)) → Decides (each_pair test xs) (AllPairs R xs)
pairs_decided test R [] each = (λ e i j d lt le. absurd (none j le), λ h. refl) where
  none : (k : ℕ) → k < 0 → ⊥
  none k h = omega (arith, h)
pairs_decided test R (x ∷ xs) each =
    let first = all_decided (test x) (R x) xs (each x) in
    let rest = pairs_decided test R xs each in (
      λ e. let parts = both_true (list_all (test x) xs) (each_pair test xs) e in AllPairs-cons R x xs (first.0 parts.0) (rest.0 parts.1),
      λ h. true_both (list_all (test x) xs) (each_pair test xs) (first.1 (pairs_first R x xs h)) (rest.1 (pairs_rest R x xs h)),
    )
