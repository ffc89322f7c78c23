-- What a call of `picture`, `explain` or `emit` over bytes says.
use Rattle.std.specs.Prelude.{◌≡◌, ℕ, List, [], Some, String, Vec}
use Rattle.std.specs.Global.{Global}
use Rattle.kat_passed.specs.Passing.{told_in}
use Rattle.kat_people_call.specs.Codes.{code_of}
use Rattle.kat_people_call.specs.Showing.{Showed}
use Rattle.kat_people_call.specs.declared.status.Status.{Status}
use Rattle.kat_people_call.specs.declared.status.Status.TheVariants.{Done}
use Rattle.kat_words.specs.Words.{texts}
use Rattle.katara_call.specs.Called.{IsCall}
use Rattle.katara_call.specs.Passed.{Passed}

-- how the call of the program ends: if well, it showed of some files what the command shows that the first word begins
pub record EndsShow (words : List (String Global)) (files : List (String Global × Vec ℕ Global)) (code : ℕ) (written line : List ℕ)
    : Type 0 where
  pub status : Status
  pub coded : code ≡ code_of status
  pub done : status ≡ Done → Showed (texts words) (told_in files) (Some []) (Some written)

abbrev pub IsShowCall : Passed → ℕ → List ℕ → List ℕ → Type 0
IsShowCall passed = IsCall passed EndsShow
