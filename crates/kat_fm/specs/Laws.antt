-- Used inside only.
-- Laws of elimination.
use Rattle.std.specs.Prelude.{◌≡◌, ℕ, ◌+◌, ◌*◌, ◌<◌, ◌≤◌, ◌^◌, ℤ, pos, ◌+ℤ◌, ◌*ℤ◌, ◌≤ℤ◌, ◌<ℤ◌, unsigned_abs, List, length, slice_index_or, ◌⊎◌}
use Rattle.std.specs.List.{All}
use Rattle.kat_linear.specs.Rows.{Form, Term, IsAscending, IsMet, IsSmall}
use Rattle.kat_linear.specs.Sums.{IsCertificate, IsNarrow}
use Rattle.kat_fm.specs.Eliminations.{elim_of}
use Rattle.kat_fm.specs.Eliminations.Solution.{met_at, refuted_by, crowded, goes_wide}
use Rattle.kat_fm.specs.Answers.{HasVariablesBelow}

-- the multipliers are as many as the rows, pass no limit, and show that no point meets the rows
pub record Refutes (forms : List Form) (multipliers : List ℤ) : Type 0 where
  pub count : length multipliers ≡ length forms
  pub small : All (λ m. unsigned_abs m ≤ 2 ^ 62) multipliers
  pub certificate : IsCertificate forms multipliers

-- multipliers that elimination gives refute the rows
abbrev pub MultipliersRefute : Type 0
MultipliersRefute = (forms : List Form) (vars : ℕ) (multipliers : List ℤ) → All (HasVariablesBelow vars) forms → elim_of forms vars ≡ refuted_by multipliers → Refutes forms multipliers

-- The numerators over the denominator, one for each variable, meet all rows. The denominator is above 0, and no number
-- passes 2^126.
pub record IsPoint (forms : List Form) (vars : ℕ) (den : ℤ) (nums : List ℤ) : Type 0 where
  pub above : pos 0 <ℤ den
  pub count : length nums ≡ vars
  pub small : unsigned_abs den ≤ 2 ^ 126
  pub nums_small : All (λ n. unsigned_abs n ≤ 2 ^ 126) nums
  pub met : All (IsMet (unsigned_abs den) (λ v. slice_index_or nums v (pos 0))) forms

-- a point that elimination gives meets the rows
abbrev pub PointsMeet : Type 0
PointsMeet = (forms : List Form) (vars : ℕ) (den : ℤ) (nums : List ℤ) → All (HasVariablesBelow vars) forms → elim_of forms vars ≡ met_at den nums → IsPoint forms vars den nums

-- elimination gives up only if a step would make more than 20,000 rows, so it never runs out of rounds
abbrev pub RowsAreTooMany : Type 0
RowsAreTooMany = (forms : List Form) (vars plus minus rest : ℕ) → elim_of forms vars ≡ crowded plus minus rest → 20_000 < plus * minus + rest

-- no coefficient is below 0
abbrev pub HasNoneBelow : Form → Type 0
HasNoneBelow form = All (λ (t : Term). pos 0 ≤ℤ t.1) form.terms

-- no coefficient is above 0
abbrev pub HasNoneAbove : Form → Type 0
HasNoneAbove form = All (λ (t : Term). t.1 ≤ℤ pos 0) form.terms

-- the first number is of rows with a positive coefficient, and the second of rows with a negative one: if no row has such a
-- coefficient, the number is 0
abbrev pub SidesAreTold : Type 0
SidesAreTold = (forms : List Form) (vars plus minus rest : ℕ) → elim_of forms vars ≡ crowded plus minus rest → (All HasNoneBelow forms → minus ≡ 0) × (All HasNoneAbove forms → plus ≡ 0)

-- the product of two numbers, or their sum, passes a limit in absolute value
abbrev pub Pass : ℕ → ℤ → ℤ → Type 0
Pass limit left right = (limit < unsigned_abs (left *ℤ right)) ⊎ (limit < unsigned_abs (left +ℤ right))

-- two numbers pass 2^126; or they pass 2^62, and the second is one of those that are computed for multipliers, which are at most
-- 2^62
abbrev pub PassALimit : ℤ → ℤ → Type 0
PassALimit left right = Pass (2 ^ 126) left right ⊎ (Pass (2 ^ 62) left right × (unsigned_abs right ≤ 2 ^ 62))

-- elimination gives up on a product or a sum only if it passes its limit
abbrev pub WideNumbersPass : Type 0
WideNumbersPass = (forms : List Form) (vars : ℕ) (left right : ℤ) → elim_of forms vars ≡ goes_wide left right → PassALimit left right

-- and the two numbers themselves are at most 2^126, if those of the rows are and their variables ascend
abbrev pub WideNumbersAreNarrow : Type 0
WideNumbersAreNarrow = (forms : List Form) (vars : ℕ) (left right : ℤ) → All IsAscending forms → All IsSmall forms → elim_of forms vars ≡ goes_wide left right → IsNarrow left × IsNarrow right
