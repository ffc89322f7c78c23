-- Used inside only.
-- What a search answers, given that no number of its evidence passes 2^126.
use Rattle.kat_type.specs.Types.{TypeForm}
use Rattle.kat_telling.specs.Narrow.{AreNarrow}
use Rattle.kat_search.specs.Verdicts.{HasNone, IsCutOff, IsEmitted, IsLeftOpen}
use Rattle.kat_search.specs.declared.options.Options.{Options}
use Rattle.kat_search.specs.declared.outcome.Outcome.{Outcome}
use Rattle.kat_search.specs.declared.outcome.Outcome.TheVariants as outcome

-- what is answered of a type, with evidence whose numbers don't pass 2^126
abbrev pub IsNarrowVerdict : TypeForm → Options → Outcome → Type 0
IsNarrowVerdict ty options (outcome.Emitted number file) = (found : IsEmitted ty options number file.items) × AreNarrow found.earlier
IsNarrowVerdict ty options (outcome.NoDesign report) = (none : HasNone ty options report.items) × AreNarrow none.entries
IsNarrowVerdict ty options (outcome.Undecided report) = (left : IsLeftOpen ty options report.items) × AreNarrow left.entries
IsNarrowVerdict ty options (outcome.Stopped report) = (cut : IsCutOff ty options report.items) × AreNarrow cut.entries
