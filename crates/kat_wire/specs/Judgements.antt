-- The judgement of a text.
use Rattle.std.specs.Prelude.{◌≢◌, ℕ, List, ◌⊎◌}
use Rattle.kat_wire.specs.Files.{IsFileRefusal, IsFileText}
use Rattle.kat_json.specs.declared.errors.WireError.{WireError}
use Rattle.kat_json.specs.declared.errors.WireError.TheVariants.{Memory}
use Rattle.kat_wire.specs.FileForms.{FileForm}

-- a refusal other than out of memory
pub record IsRefusal (bytes : List ℕ) (error : WireError) : Type 0 where
  pub refused : IsFileRefusal bytes error
  pub told : error ≢ Memory

-- a text has a file or a refusal
abbrev pub IsJudged : List ℕ → Type 0
IsJudged bytes = ((f : FileForm) × IsFileText bytes f) ⊎ ((error : WireError) × IsRefusal bytes error)
