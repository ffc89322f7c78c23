-- What `synth TYPE` takes and writes.
use Rattle.std.specs.Prelude.{◌≡◌, ℕ, List, [], ◌∷◌}
use Rattle.kat_telling.specs.Narrow.{AreNarrow}
use Rattle.kat_search.specs.Verdicts.{HasNone, IsCutOff, IsEmitted, IsLeftOpen}
use Rattle.kat_search.specs.declared.options.Options.{Options}
use Rattle.kat_type_file.specs.TypeFiles.{IsRefusedFile, IsTypeFile}
use Rattle.kat_type.specs.Types.{TypeForm}
use Rattle.kat_type.specs.declared.errors.TypeError.{TypeError}
use Rattle.kat_words.specs.declared.options.SynthOptions.{SynthOptions}
use Rattle.kat_cli.specs.Refusals.{type_refusal}
use Rattle.kat_cli.specs.declared.status.Refusal.{Refusal}
use Rattle.kat_cli.specs.declared.status.Status.{Status}
use Rattle.kat_cli.specs.declared.status.Status.TheVariants.{Done, NoDesign, Undecided, Stopped}

abbrev pub Passes : List (List ℕ) → List ℕ → Type 0
Passes earlier text = (ty : TypeForm) × IsTypeFile text ty

abbrev pub IsRefusedAs : List (List ℕ) → List ℕ → Refusal → Type 0
IsRefusedAs earlier text refusal = (error : TypeError) × IsRefusedFile text error × (refusal ≡ type_refusal error)

abbrev pub Accepts : List (List ℕ) → TypeForm → Type 0
Accepts (text ∷ []) ty = IsTypeFile text ty
Accepts texts ty = ⊥

-- the bounds of the search
abbrev pub bounds : SynthOptions → Options
bounds options = record { size = options.size; effort = options.effort; designs = options.designs; kinds = options.kinds }

-- The search decides how the command ends: it is done if a design is proved, and writes its file; else it writes the report, of
-- a listing in which each design is refuted, or in which some are left open, or of the first designs of one that has more. No number of
-- its evidence passes 2^126.
abbrev pub Ends : SynthOptions → TypeForm → Status → List ℕ → Type 0
Ends options ty Done text = (number : ℕ) × IsEmitted ty (bounds options) number text
Ends options ty NoDesign text = (none : HasNone ty (bounds options) text) × AreNarrow none.entries
Ends options ty Undecided text = (left : IsLeftOpen ty (bounds options) text) × AreNarrow left.entries
Ends options ty Stopped text = (cut : IsCutOff ty (bounds options) text) × AreNarrow cut.entries
Ends options ty status text = ⊥
