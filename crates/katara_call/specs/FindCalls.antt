-- What a call of `find` or `prove` over bytes says.
use Rattle.std.specs.Prelude.{◌≡◌, ℕ, List, [], Some, String, Vec}
use Rattle.std.specs.Global.{Global}
use Rattle.kat_find_call.specs.Calls.{Wrote}
use Rattle.kat_find_call.specs.Codes.{code_of}
use Rattle.kat_find_call.specs.declared.status.Status.{Status}
use Rattle.kat_find_call.specs.declared.status.Status.TheVariants.{Done}
use Rattle.kat_passed.specs.Passing.{told_in}
use Rattle.katara_call.specs.Called.{IsCall}
use Rattle.katara_call.specs.Passed.{Passed}

-- how the call of the program ends: if well, what it wrote is a design file that `check` accepts for the type of some file
pub record EndsFind (words : List (String Global)) (files : List (String Global × Vec ℕ Global)) (code : ℕ) (written line : List ℕ)
    : Type 0 where
  pub status : Status
  pub coded : code ≡ code_of status
  pub done : status ≡ Done → Wrote (told_in files) (Some []) (Some written)

abbrev pub IsFindCall : Passed → ℕ → List ℕ → List ℕ → Type 0
IsFindCall passed = IsCall passed EndsFind
