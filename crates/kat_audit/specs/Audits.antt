-- What comes of a report.
use Rattle.std.specs.Prelude.{ℕ, ◌≤◌, List}
use Rattle.kat_design.specs.Designs.{DesignForm}
use Rattle.kat_rules.specs.Listed.{IsListing}
use Rattle.kat_said.specs.Judging.{Judges, lines_of}
use Rattle.kat_said.specs.declared.judging.Audit.{Audit}
use Rattle.kat_type.specs.Types.{TypeForm}
use Rattle.kat_due.specs.Dues.{Ask, Due, IsOver, IsWide, first_state}
use Rattle.kat_audit.specs.declared.options.Options.{Options}

-- the ranges of what was asked
pub record AreInRange (options : Options) : Type 0 where
  pub some_size : 1 ≤ options.size
  pub small_size : options.size ≤ 24
  pub some_effort : 1 ≤ options.effort
  pub small_effort : options.effort ≤ 10_000
  pub some_designs : 1 ≤ options.designs
  pub few_designs : options.designs ≤ 1_000_000

abbrev pub ask_of : TypeForm → Options → List DesignForm → Ask
ask_of ty options designs = record { ty = ty; designs = designs; most = options.designs; effort = options.effort; size = options.size }

-- Of a report of a search with these options, line by line: the first line whose point is too wide, or that isn't due or is missing;
-- else, if a block ends with `long`, the first such line.
pub record IsAudited (ty : TypeForm) (options : Options) (bytes : List ℕ) (audit : Audit) : Type 0 where
  pub designs : List DesignForm
  pub listing : IsListing ty options.size options.kinds designs
  pub judges : Judges (IsWide (ask_of ty options designs)) (Due (ask_of ty options designs)) IsOver 0 first_state (lines_of bytes) audit
