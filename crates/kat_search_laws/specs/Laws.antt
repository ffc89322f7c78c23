-- Used inside only.
-- What holds of all reports.
use Rattle.std.specs.Prelude.{◌≡◌, ℕ, List}
use Rattle.kat_said.specs.declared.judging.Audit.{Audit}
use Rattle.kat_type.specs.Types.{TypeForm}
use Rattle.kat_audit.specs.Audits.{IsAudited}
use Rattle.kat_audit.specs.declared.options.Options.{Options}

-- a report has one verdict
abbrev pub HaveOneVerdict : Type 0
HaveOneVerdict = (ty : TypeForm) (options : Options) (bytes : List ℕ) (some other : Audit) → IsAudited ty options bytes some → IsAudited ty options bytes other → some ≡ other
