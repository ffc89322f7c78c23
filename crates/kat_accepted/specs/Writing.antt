-- Used inside only.
-- What is written if the proof of a file is accepted, and how that ends.
use Rattle.std.specs.Prelude.{◌≡◌, ℕ, ◌⊎◌, List, Option, Result, Ok, Err}
use Rattle.kat_check.specs.Acceptance.{IsAcceptedFile, IsFirstFault}
use Rattle.kat_check.specs.declared.acceptance.Checked.{Checked}
use Rattle.kat_check.specs.declared.acceptance.Checked.TheVariants.{Accepted, Refused}
use Rattle.kat_io.specs.Outside.{grown}
use Rattle.kat_type.specs.Types.{TypeForm}
use Rattle.kat_wire.specs.FileForms.{FileForm}
use Rattle.kat_world.specs.Written.{IsCutShort}
use Rattle.kat_world.specs.declared.writing.WorldError.{WorldError}
use Rattle.kat_world.specs.declared.writing.WorldError.TheVariants.{WriteFault, Memory}

-- The text is written if the file is accepted for the type, and nothing if it isn't. After a write fault a prefix of the text was written,
-- and maybe after out of memory, but only of a file that is accepted.
abbrev pub WritesIfAccepted : TypeForm → FileForm → List ℕ → Option (List ℕ) → Option (List ℕ) → Result Checked WorldError → Type 0
WritesIfAccepted ty file text before after (Ok Accepted) = IsAcceptedFile ty file × (after ≡ grown before text)
WritesIfAccepted ty file text before after (Ok (Refused condition line)) = IsFirstFault ty file condition line × (after ≡ before)
WritesIfAccepted ty file text before after (Err WriteFault) = IsAcceptedFile ty file × IsCutShort before after text
WritesIfAccepted ty file text before after (Err Memory) = (after ≡ before) ⊎ (IsAcceptedFile ty file × IsCutShort before after text)
