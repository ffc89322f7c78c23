-- What a call of `node-share`, `node-difference` or `node-take` over bytes says.
use Rattle.std.specs.Prelude.{◌≡◌, ℕ, List, [], Some, String, Vec}
use Rattle.std.specs.Global.{Global}
use Rattle.kat_passed.specs.Passing.{told_in}
use Rattle.kat_share_call.specs.Codes.{LeavesOutput, code_of}
use Rattle.kat_share_call.specs.Sharing.{MeetsGap, Shared}
use Rattle.kat_share_call.specs.declared.status.Status.{Status}
use Rattle.kat_share_call.specs.declared.status.Status.TheVariants.{Done, Gap}
use Rattle.kat_words.specs.Words.{texts}
use Rattle.katara_call.specs.Called.{IsCall}
use Rattle.katara_call.specs.Passed.{Passed}

-- how the call of the program ends: if well, it wrote for some files what the command writes that the first word begins; a gap is one of
-- files that are passed; and else nothing was written
pub record EndsShares (words : List (String Global)) (files : List (String Global × Vec ℕ Global)) (code : ℕ) (written line : List ℕ)
    : Type 0 where
  pub status : Status
  pub coded : code ≡ code_of status
  pub done : status ≡ Done → Shared (texts words) (told_in files) (Some []) (Some written)
  pub gap : (packet : ℕ) → status ≡ Gap packet → MeetsGap (told_in files) packet
  pub untouched : LeavesOutput status → written ≡ []

abbrev pub IsSharesCall : Passed → ℕ → List ℕ → List ℕ → Type 0
IsSharesCall passed = IsCall passed EndsShares
