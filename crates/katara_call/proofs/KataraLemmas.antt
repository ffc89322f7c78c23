-- What `katara` promises of files and a place for output in memory.
use Rattle.std.proofs.Common.{◌≡◌, ◌∙◌, ◌⊎◌, inl, inr, ℕ, zero, suc, ◌<◌, ◌==◌, ◌&&◌, Bool, true, List, [], ◌∷◌, arith, ap, lit<, length, map, refl, subst, sym, true≢false, Option, None, Some, String, Vec, is_some, unwrap_or}
use Rattle.std.specs.List.{slice_index_or}
use Rattle.std.specs.Global.{Global}
use Rattle.kat_cli.specs.Codes.{code_of}
use Rattle.kat_cli.specs.Outcome.{IsUnsure, Verdict}
use Rattle.kat_cli.specs.Texts.{status_line}
use Rattle.kat_cli.specs.declared.status.Status.{Status}
use Rattle.kat_cli.specs.declared.status.Status.TheVariants.{Done, Usage, ReadFault, Refused, NoDesign, Undecided, Stopped, Memory, WriteFault, ProofRefused}
use Rattle.kat_io.specs.InMemory.{is_sure}
use Rattle.kat_io.specs.Outside.{Rose}
use Rattle.kat_io.specs.declared.memory.MemFiles.{MemFiles}
use Rattle.kat_passed.specs.Passing.{told_in}
use Rattle.kat_words.specs.Words.{paths_of, texts}
use Rattle.kat_words.specs.declared.words.Command.{Command}
use Rattle.katara_call.specs.Called.{IsPlainEnd}
use Rattle.katara_call.specs.Called.IsCall.{called, no_memory}
use Rattle.katara_call.specs.KataraCalls.{EndsKatara, IsKataraCall, IsUntold, KataraEnds}
use Rattle.katara_call.specs.Passed.{ArePassed, Passed}
use Rattle.std.specs.Prelude.{codes}

-- each status is below 10
pub code_below : (status : Status) → code_of status < 10
code_below Done = lit< tt
code_below Usage = lit< tt
code_below (ReadFault file) = lit< tt
code_below (Refused file refusal) = lit< tt
code_below NoDesign = lit< tt
code_below Undecided = lit< tt
code_below Stopped = lit< tt
code_below Memory = lit< tt
code_below WriteFault = lit< tt
code_below (ProofRefused condition line) = lit< tt

pub some_same : (a b : List ℕ) → ◌≡◌ {A = Option (List ℕ)} (Some a) (Some b) → a ≡ b
some_same a b e = ap (λ (o : Option (List ℕ)). unwrap_or o []) e

-- a count that is 0 before and after didn't rise
pub rose_not : (before now : ℕ) → before ≡ 0 → now ≡ 0 → Rose before now → ⊥
rose_not before now first last rose = omega (arith, first, last, rose)

at_none : (told : Option (List ℕ)) (b : Bool) → b ≡ true → ((is_some told && b) ≡ true → ⊥) → told ≡ None
at_none None b is unsure = refl
at_none (Some bytes) b is unsure = absurd (unsure is)

untold_at : (files : MemFiles) (paths : List (List ℕ)) (file : ℕ) → files.failing.items ≡ [] → file < length (map (is_sure files) paths)
    → (slice_index_or (map (is_sure files) paths) file true ≡ true → ⊥)
    → slice_index_or (map (told_in files.files.items) paths) file (Some []) ≡ None
untold_at files [] file unfailing lt unsure = absurd (omega (arith, lt))
untold_at files (path ∷ paths) zero unfailing lt unsure =
    at_none (told_in files.files.items path) (length files.failing.items == 0) (ap (λ (failing : List ℕ). length failing == 0) unfailing) unsure
untold_at files (path ∷ paths) (suc file) unfailing lt unsure = untold_at files paths file unfailing (omega (arith, lt)) unsure

as_long : (files : MemFiles) (paths : List (List ℕ)) → length (map (is_sure files) paths) ≡ length (map (told_in files.files.items) paths)
as_long files [] = refl
as_long files (path ∷ paths) = ap suc (as_long files paths)

-- of a file in memory whose path isn't sure nothing is told, if no read is to fail
pub untold : (files : MemFiles) (paths : List (List ℕ)) (file : ℕ) → files.failing.items ≡ [] → IsUnsure (map (is_sure files) paths) file
    → IsUntold (map (told_in files.files.items) paths) file
untold files paths file unfailing unsure = record {
  within = subst (λ (n : ℕ). file < n) (as_long files paths) unsure.within;
  none = untold_at files paths file unfailing unsure.within unsure.unsure;
}

some_none : (text : List ℕ) → ◌≡◌ {A = Option (List ℕ)} (Some text) None → ⊥
some_none text e = true≢false (ap (λ (o : Option (List ℕ)). is_some o) e)

all_told : (bytes : List (List ℕ)) (file : ℕ) → file < length (map Some bytes)
    → slice_index_or (map Some bytes) file (Some []) ≡ None → ⊥
all_told [] file lt none = omega (arith, lt)
all_told (text ∷ bytes) zero lt none = some_none text none
all_told (text ∷ bytes) (suc file) lt none = all_told bytes file (omega (arith, lt)) none

is_read_fault : (status : Status) → code_of status ≡ 2 → (file : ℕ) × (status ≡ ReadFault file)
is_read_fault (ReadFault file) e = (file, refl)
is_read_fault Done e = absurd (omega (arith, e))
is_read_fault Usage e = absurd (omega (arith, e))
is_read_fault (Refused file refusal) e = absurd (omega (arith, e))
is_read_fault NoDesign e = absurd (omega (arith, e))
is_read_fault Undecided e = absurd (omega (arith, e))
is_read_fault Stopped e = absurd (omega (arith, e))
is_read_fault Memory e = absurd (omega (arith, e))
is_read_fault WriteFault e = absurd (omega (arith, e))
is_read_fault (ProofRefused condition line) e = absurd (omega (arith, e))

-- if all files are told, no read fails, so that the verdict without faults is the one
pub complete_so : (command : Command) (bytes : List (List ℕ)) (told : List (Option (List ℕ))) (status : Status) (reads : ℕ)
    → told ≡ map Some bytes → ((file : ℕ) → status ≡ ReadFault file → IsUntold told file)
    → (reads ≡ 0) ⊎ (code_of status ≡ 2) → (reads ≡ 0 → Verdict command bytes status) → Verdict command bytes status
complete_so command bytes told status reads are missing (inl quiet) verdict = verdict quiet
complete_so command bytes told status reads are missing (inr coded) verdict =
    let fault = is_read_fault status coded in
    let here : IsUntold (map Some bytes) fault.0 =
    subst (λ (all : List (Option (List ℕ))). IsUntold all fault.0) are (missing fault.0 fault.1) in
    absurd (all_told bytes fault.0 here.within here.none)

-- a write never fails that isn't counted
pub never_write_fault : (asked : Option Command) (status : Status) → status ≡ WriteFault
    → (asked ≡ None → (status ≡ Usage) ⊎ (status ≡ Memory)) → ((command : Command) → asked ≡ Some command → ⊥) → ⊥
never_write_fault (Some command) status is unasked fault = fault command refl
never_write_fault None status is unasked fault = elim (unasked refl) [
  | inl usage ↦ let e : 8 ≡ 1 = ap code_of (sym is) ∙ ap code_of usage in omega (arith, e)
  | inr memory ↦ let e : 8 ≡ 7 = ap code_of (sym is) ∙ ap code_of memory in omega (arith, e)
]

-- the call of the program, for the words, the place for output and the rooms that there are
pub katara_called : (words words' : List (String Global)) (files : List (String Global × Vec ℕ Global)) (status : Status)
    (before after written line : List ℕ) (code : ℕ) → words' ≡ words → before ≡ [] → written ≡ after → code ≡ code_of status
    → (line ≡ status_line (paths_of (texts words')) status) ⊎ (line ≡ []) → KataraEnds words' (told_in files) status before after
    → EndsKatara words files code written line
katara_called words words' files status before after written line code words_are before_is written_is coded line_is ends = record {
  status = status;
  coded = coded;
  line_is = subst (λ (w : List (String Global)). (line ≡ status_line (paths_of (texts w)) status) ⊎ (line ≡ [])) words_are line_is;
  ends =
      subst (λ (w : List (String Global)). KataraEnds w (told_in files) status [] written) words_are
      (subst (λ (b : List ℕ). KataraEnds words' (told_in files) status b written) before_is
      (subst (λ (a : List ℕ). KataraEnds words' (told_in files) status before a) (sym written_is) ends));
}

pub katara_is : (passed : Passed) (words : List (String Global)) (files : List (String Global × Vec ℕ Global)) (code : ℕ) (written line : List ℕ)
    → ArePassed passed words files → EndsKatara words files code written line ⊎ IsPlainEnd 7 (codes "out of memory\n") code written line
    → IsKataraCall passed code written line
katara_is passed words files code written line are (inl ends) = called words files are ends
katara_is passed words files code written line are (inr plain) = no_memory plain
