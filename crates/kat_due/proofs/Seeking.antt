-- The first place at which a fact holds is sought from the first place on.
use Rattle.std.proofs.Common.{◌≡◌, ℕ, ◌+◌, ◌<◌, ◌≤◌, ⊎_elim, Bool, true, false, List, length, arith, sym, ◌∙◌, ap, subst, Some, None}
use Rattle.std.specs.Prelude.{slice_get}
use Rattle.std.specs.Bool.{Decides}
use Rattle.std.proofs.lemmas.Bool.{cases_eq}
use Rattle.std.proofs.lemmas.Option.{slice_get_within}
use Rattle.kat_hist.specs.Firsts.{IsFirstPlace}

-- it holds at no earlier place
pub record NoneBefore {X : Type 0} (Fact : X → Type 0) (xs : List X) (i : ℕ) : Type 0 where
  pub none : (j : ℕ) (x : X) → j < i → slice_get xs j ≡ Some x → Fact x → ⊥

pub none_first : {X : Type 0} (Fact : X → Type 0) (xs : List X) → NoneBefore Fact xs 0
none_first Fact xs = record { none = λ j x lt e f. omega (arith, lt) }

some_same : {Z : Type 0} {a b : Z} → Some a ≡ Some b → a ≡ b
some_same h = cc h

pub none_next : {X : Type 0} (Fact : X → Type 0) (xs : List X) (i n : ℕ) (x : X) (b : Bool) → n ≡ i + 1 → slice_get xs i ≡ Some x → Decides b (Fact x) → b ≡ false → NoneBefore Fact xs i → NoneBefore Fact xs n
none_next {X} Fact xs i n x b m at d e before = record {
  none = λ j y lt is f.
      ⊎_elim (λ (same : j ≡ i). clash b (d.1 (subst Fact (some_same (sym is ∙ ap (slice_get xs) same ∙ at)) f)) e)
      (λ other. before.none j y (omega (arith, lt, m, other)) is f) (cases_eq j i);
} where
  clash : (b : Bool) → b ≡ true → b ≡ false → ⊥
  clash true p q = absurd (cc q)
  clash false p q = absurd (cc p)

pub first_found : {X : Type 0} (Fact : X → Type 0) (xs : List X) (i : ℕ) (x : X) (b : Bool) → slice_get xs i ≡ Some x → Decides b (Fact x) → b ≡ true → NoneBefore Fact xs i
    → IsFirstPlace Fact xs (Some i)
first_found Fact xs i x b at d e before = ((x, at, d.0 e), before.none)

pub none_found : {X : Type 0} (Fact : X → Type 0) (xs : List X) (i : ℕ) → length xs ≤ i → NoneBefore Fact xs i → IsFirstPlace Fact xs None
none_found Fact xs i past before j x is f = before.none j x (let lt = slice_get_within xs j x is in omega (arith, lt, past)) is f
