-- What `picture` and `explain` promise of files and a place for output in memory.
use Rattle.std.proofs.Common.{◌≡◌, ℕ, ◌<◌, List, [], lit<, subst, sym, Some, String, Vec}
use Rattle.std.specs.Global.{Global}
use Rattle.kat_people_call.specs.Codes.{code_of}
use Rattle.kat_people_call.specs.Showing.{Showed}
use Rattle.kat_people_call.specs.declared.status.Status.{Status}
use Rattle.kat_people_call.specs.declared.status.Status.TheVariants.{Done, Usage, ReadFault, Refused, NoHistory, ProofRefused, Memory, WriteFault}
use Rattle.kat_words.specs.Words.{texts}
use Rattle.kat_passed.specs.Passing.{told_in}
use Rattle.katara_call.specs.ShowCalls.{EndsShow}

-- each status is below 10
pub code_below : (status : Status) → code_of status < 10
code_below Done = lit< tt
code_below Usage = lit< tt
code_below (ReadFault file) = lit< tt
code_below (Refused file number at) = lit< tt
code_below (NoHistory file) = lit< tt
code_below (ProofRefused condition line) = lit< tt
code_below Memory = lit< tt
code_below WriteFault = lit< tt

-- the call of the program, for the words and the place for output that there are
pub show_called : (words words' : List (String Global)) (files : List (String Global × Vec ℕ Global)) (status : Status)
    (before after written line : List ℕ) (code : ℕ) → words' ≡ words → before ≡ [] → written ≡ after → code ≡ code_of status
    → (status ≡ Done → Showed (texts words') (told_in files) (Some before) (Some after)) → EndsShow words files code written line
show_called words words' files status before after written line code words_are before_is written_is coded done = record {
  status = status;
  coded = coded;
  done = λ is.
      subst (λ (w : List (String Global)). Showed (texts w) (told_in files) (Some []) (Some written)) words_are
      (subst (λ (b : List ℕ). Showed (texts words') (told_in files) (Some b) (Some written)) before_is
      (subst (λ (a : List ℕ). Showed (texts words') (told_in files) (Some before) (Some a)) (sym written_is) (done is)));
}
