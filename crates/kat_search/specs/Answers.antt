-- Used inside only.
-- What a search answers that ends without a file.
use Rattle.std.specs.Prelude.{◌≡◌, ℕ, ◌≤◌, ◌++◌, length}
use Rattle.kat_telling.specs.Reports.{none_line, stopped_line, undecided_line}
use Rattle.kat_search.specs.declared.outcome.Outcome.{Outcome}
use Rattle.kat_search.specs.declared.outcome.Outcome.TheVariants as outcome
use Rattle.kat_search.specs.declared.findings.Findings.{Findings}

-- it stops
abbrev pub IsStoppedWith : Findings → ℕ → Outcome → Type 0
IsStoppedWith t size (outcome.Emitted number file) = ⊥
IsStoppedWith t size (outcome.NoDesign report) = ⊥
IsStoppedWith t size (outcome.Undecided report) = ⊥
IsStoppedWith t size (outcome.Stopped report) = report.items ≡ t.report.items ++ stopped_line t.count size

-- it is at the end of the listing
abbrev pub IsEndWith : Findings → ℕ → Outcome → Type 0
IsEndWith t size (outcome.Emitted number file) = ⊥
IsEndWith t size (outcome.NoDesign report) = (length t.passed.items ≡ 0) × (report.items ≡ t.report.items ++ none_line size)
IsEndWith t size (outcome.Undecided report) = (1 ≤ length t.passed.items) × (report.items ≡ t.report.items ++ undecided_line size)
IsEndWith t size (outcome.Stopped report) = ⊥
