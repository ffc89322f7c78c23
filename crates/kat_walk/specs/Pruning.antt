-- Used inside only.
-- Machines that leave tokens out, and machines with a test at the end.
use Rattle.std.specs.Prelude.{◌≡◌, ℕ, ◌+◌, ◌-◌, ◌≤◌, ◌&&◌, Bool, true, List, [], ◌∷◌, ◌++◌, nat_le, filter}
use Rattle.kat_walk.specs.Machines.{IsOneOf, Machine}

-- which tokens are kept, by notes of what was read
pub record Pruner (S R T : Type 0) : Type 0 where
  pub keeps : S → R → T → Bool
  pub notes : S → R → T → R

abbrev pub pruned : {S R T : Type 0} → Machine S T → Pruner S R T → Machine (S × R) T
pruned m k = record {
  allowed = λ p. filter (k.keeps p.0 p.1) (m.allowed p.0);
  step = λ p t. (m.step p.0 t, k.notes p.0 p.1 t);
  done = λ p. m.done p.0;
}

abbrev pub KeepsAll : {S R T : Type 0} → Machine S T → Pruner S R T → S → R → List T → Type 0
KeepsAll m k s r [] = Unit {0}
KeepsAll m k s r (t ∷ w) = (k.keeps s r t ≡ true) × KeepsAll m k (m.step s t) (k.notes s r t) w

-- the tokens read so far are noted, and a list counts only if it passes the test
abbrev pub tested : {S T : Type 0} → Machine S T → (List T → Bool) → Machine (S × List T) T
tested m test = record {
  allowed = λ p. m.allowed p.0;
  step = λ p t. (m.step p.0 t, p.1 ++ t ∷ []);
  done = λ p. m.done p.0 && test p.1;
}

-- what the tokens of a list cost
abbrev pub total : {T : Type 0} → (T → ℕ) → List T → ℕ
total cost [] = 0
total cost (t ∷ w) = cost t + total cost w

-- what a list costs at least that ends a state
pub record IsLeast {S T : Type 0} (m : Machine S T) (cost : T → ℕ) (least : S → ℕ) : Type 0 where
  pub falls : (s : S) (t : T) → IsOneOf t (m.allowed s) → least s ≤ cost t + least (m.step s t)
  pub ends : (s : S) → m.done s ≡ true → least s ≡ 0

-- what a list needs at least after a token is no more than what the state there needs
abbrev pub IsBehindLeast : {S T : Type 0} → Machine S T → (S → ℕ) → (S → T → ℕ) → Type 0
IsBehindLeast m least behind = (s : _) (t : _) → IsOneOf t (m.allowed s) → behind s t ≤ least (m.step s t)

-- a pruner by cost: what is left after each token has to be enough for what is needed at least after it
abbrev pub by_least : {S T : Type 0} → (T → ℕ) → (S → T → ℕ) → Pruner S ℕ T
by_least cost behind = record { keeps = λ s left t. nat_le (cost t + behind s t) left; notes = λ s left t. left - cost t }
