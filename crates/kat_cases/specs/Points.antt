-- Points that decide an encoded condition.
use Rattle.std.specs.Prelude.{◌≡◌, ℕ, ◌≤◌, ◌^◌, ℤ, pos, ◌<ℤ◌, unsigned_abs, List, length, Bool, slice_index_or}
use Rattle.std.specs.List.{All}
use Rattle.kat_clause.specs.Valuations.{AreTrueClauses, literal_value}
use Rattle.kat_form.specs.Encodings.{Encoding}
use Rattle.kat_refute.specs.Laws.{ReadsAtomsAt}
use Rattle.kat_cases.specs.Nodes.{truths_from}
use Rattle.kat_cases.specs.Nodes.End.{spent, at_point, at_rows, at_wide}
use Rattle.kat_cases.specs.Walks.{Answer}
use Rattle.kat_cases.specs.Walks.Answer.{refuted, stopped}

-- A point, numerators over a denominator and truth values, is decisive for an encoded condition if the truth values extend to
-- values of all propositional variables that make all clauses true, and the fractions make each atom's form at most 0 if its
-- variable is true and at least 1 if it is false. There is a numerator for each number variable, and no number passes 2^126.
pub record IsDecisive (e : Encoding) (numbers : ℕ) (den : ℤ) (nums : List ℤ) (truths : List Bool) : Type 0 where
  pub positive : pos 0 <ℤ den
  pub count : length nums ≡ numbers
  pub den_narrow : unsigned_abs den ≤ 2 ^ 126
  pub nums_narrow : All (λ n. unsigned_abs n ≤ 2 ^ 126) nums
  pub values : ℕ → Bool
  pub told : truths ≡ truths_from (literal_value values) 1 e.senses
  pub atoms : ReadsAtomsAt values (unsigned_abs den) (λ v. slice_index_or nums v (pos 0)) e.senses
  pub clauses : AreTrueClauses values e.clauses

-- the point decides, if the walk ends at one
abbrev pub IfPoint : Answer → (ℤ → List ℤ → List Bool → Type 0) → Type 0
IfPoint (refuted lines) P = Unit {0}
IfPoint (stopped spent) P = Unit {0}
IfPoint (stopped (at_point den nums truths)) P = P den nums truths
IfPoint (stopped (at_rows lits plus minus rest)) P = Unit {0}
IfPoint (stopped (at_wide lits left right)) P = Unit {0}
