-- What `find` and `prove` promise of files and a place for output in memory.
use Rattle.std.proofs.Common.{◌≡◌, ℕ, ◌<◌, List, [], lit<, subst, sym, Some, String, Vec}
use Rattle.std.specs.Global.{Global}
use Rattle.kat_find_call.specs.Calls.{Wrote}
use Rattle.kat_find_call.specs.Codes.{code_of}
use Rattle.kat_find_call.specs.declared.status.Status.{Status}
use Rattle.kat_find_call.specs.declared.status.Status.TheVariants.{Done, Usage, ReadFault, Refused, Undecided, Memory, WriteFault}
use Rattle.kat_passed.specs.Passing.{told_in}
use Rattle.katara_call.specs.FindCalls.{EndsFind}

-- each status is below 10
pub code_below : (status : Status) → code_of status < 10
code_below Done = lit< tt
code_below Usage = lit< tt
code_below (ReadFault file) = lit< tt
code_below (Refused file number at) = lit< tt
code_below Undecided = lit< tt
code_below Memory = lit< tt
code_below WriteFault = lit< tt

-- the call of the program, for the place for output that there is
pub find_called : (words : List (String Global)) (files : List (String Global × Vec ℕ Global)) (status : Status) (before after written line : List ℕ)
    (code : ℕ) → before ≡ [] → written ≡ after → code ≡ code_of status → (status ≡ Done → Wrote (told_in files) (Some before) (Some after))
    → EndsFind words files code written line
find_called words files status before after written line code before_is written_is coded done = record {
  status = status;
  coded = coded;
  done = λ is.
      subst (λ (b : List ℕ). Wrote (told_in files) (Some b) (Some written)) before_is
      (subst (λ (a : List ℕ). Wrote (told_in files) (Some before) (Some a)) (sym written_is) (done is));
}
