-- What `node-share`, `node-difference` and `node-take` promise of files and a place for output in memory.
use Rattle.std.proofs.Common.{◌≡◌, ◌∙◌, ℕ, ◌<◌, List, [], lit<, subst, sym, Option, Some, String, Vec}
use Rattle.std.specs.Global.{Global}
use Rattle.kat_passed.specs.Passing.{told_in}
use Rattle.kat_share_call.specs.Codes.{LeavesOutput, code_of}
use Rattle.kat_share_call.specs.Sharing.{MeetsGap, Shared}
use Rattle.kat_share_call.specs.declared.status.Status.{Status}
use Rattle.kat_share_call.specs.declared.status.Status.TheVariants.{Done, Usage, ReadFault, Refused, Gap, Memory, WriteFault}
use Rattle.kat_words.specs.Words.{texts}
use Rattle.katara_call.specs.ShareCalls.{EndsShares}
use Rattle.katara_call.proofs.KataraLemmas.{some_same}

-- each status is below 10
pub code_below : (status : Status) → code_of status < 10
code_below Done = lit< tt
code_below Usage = lit< tt
code_below (ReadFault file) = lit< tt
code_below (Refused file number at) = lit< tt
code_below (Gap packet) = lit< tt
code_below Memory = lit< tt
code_below WriteFault = lit< tt

-- the call of the program, for the words and the place for output that there are
pub shares_called : (words words' : List (String Global)) (files : List (String Global × Vec ℕ Global)) (status : Status)
    (before after written line : List ℕ) (code : ℕ) → words' ≡ words → before ≡ [] → written ≡ after → code ≡ code_of status
    → (status ≡ Done → Shared (texts words') (told_in files) (Some before) (Some after))
    → ((packet : ℕ) → status ≡ Gap packet → MeetsGap (told_in files) packet)
    → (LeavesOutput status → ◌≡◌ {A = Option (List ℕ)} (Some after) (Some before)) → EndsShares words files code written line
shares_called words words' files status before after written line code words_are before_is written_is coded done gap untouched = record {
  status = status;
  coded = coded;
  done = λ is.
      subst (λ (w : List (String Global)). Shared (texts w) (told_in files) (Some []) (Some written)) words_are
      (subst (λ (b : List ℕ). Shared (texts words') (told_in files) (Some b) (Some written)) before_is
      (subst (λ (a : List ℕ). Shared (texts words') (told_in files) (Some before) (Some a)) (sym written_is) (done is)));
  gap = gap;
  untouched = λ leaves. written_is ∙ (some_same after before (untouched leaves) ∙ before_is);
}
