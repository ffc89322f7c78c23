-- Used inside only.
-- Reading hints: what a clause is to the literals that are known.
use Rattle.std.specs.Prelude.{◌≡◌, ℕ, ◌+◌, ◌*◌, ◌≤◌, ◌^◌, ℤ, List, [], ◌∷◌, ◌++◌, length}
use Rattle.kat_clause.specs.declared.propagation.Propagation.{Propagation}
use Rattle.kat_clause.specs.declared.reading.HintStep.{HintStep}
use Rattle.kat_clause.specs.declared.reading.HintStep.TheVariants.{Falsified, Gives, Useless}
use Rattle.kat_clause.specs.Clauses.{SameMembers}
use Rattle.kat_clause.specs.Hints.{Falsifies, IsOnlyOpen}
use Rattle.kat_clause.specs.Propagations.{IsSet}

-- The greatest variable, and the literals that are known so far.
pub record Given : Type 0 where
  pub greatest : ℕ
  pub known : List ℤ

-- What reading a clause says, and does to the literals that are known.
abbrev pub Reads : List ℤ → List ℤ → List ℤ → HintStep → Type 0
Reads clause old new Falsified = Falsifies old clause × (new ≡ old)
Reads clause old new Gives = (m : ℤ) × IsOnlyOpen old clause m × SameMembers new (old ++ m ∷ [])
Reads clause old new Useless = (Falsifies old clause → ⊥) × ((m : ℤ) → IsOnlyOpen old clause m → ⊥) × (new ≡ old)

-- Used inside only: marks and trail have room for the variables, and tell the same set.
pub record IsReading (greatest : ℕ) (state : Propagation) : Type 0 where
  pub set : IsSet state
  pub size : length state.marks.items ≡ 2 * greatest + 2
  pub limit : greatest ≤ 2 ^ 28
