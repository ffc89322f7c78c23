-- A file is refused in one way only, and never if the files are accepted.
use Rattle.std.proofs.Common.{◌≡◌, ℕ, zero, suc, ◌<◌, ◌≤◌, ◌⊎◌, inl, inr, true, List, [], ◌∷◌, ◌++◌, length, map, take, refl, sym, ◌∙◌, ap, subst, arith, Option, Some, None}
use Rattle.std.proofs.lemmas.Bool.{eqb-true, false≢true}
use Rattle.std.specs.List.{slice_index_or}
use Rattle.kat_delta.specs.declared.script.DeltaScript.{DeltaScript}
use Rattle.kat_delta_script.specs.Scripts.{IsDeltaRefused, IsDeltaScriptText}
use Rattle.kat_delta_script.specs.declared.error.DeltaScriptError.{DeltaScriptError}
use Rattle.kat_script.specs.Script.{IsRefused, IsScriptText}
use Rattle.kat_script.specs.declared.error.ScriptError.{ScriptError}
use Rattle.kat_script.specs.declared.script.Script.{Script}
use Rattle.kat_type.specs.Signatures.{signature_of}
use Rattle.kat_type_file.specs.TypeFiles.{IsRefusedFile, IsTypeFile}
use Rattle.kat_type.specs.Types.{TypeForm}
use Rattle.kat_type.specs.declared.errors.TypeError.{TypeError}
use Rattle.kat_type_file.proofs.Judgements.{every_type_file, one_refusal, one_type, type_or_refused}
use Rattle.kat_wire.specs.FileForms.{FileForm}
use Rattle.kat_wire.specs.Files.{IsFileText}
use Rattle.kat_wire.specs.Judgements.{IsRefusal}
use Rattle.kat_json.specs.declared.errors.WireError.{WireError}
use Rattle.kat_wire.proofs.Judging as files
use Rattle.kat_world.specs.Model.{model_lines}
use Rattle.kat_script.proofs.Judging.{every_script_text, refusal_once, script_or_refused}
use Rattle.kat_cli.specs.ConvergeCommand as converge
use Rattle.kat_cli.specs.ListCommand as list
use Rattle.kat_cli.specs.ModelCommand as model
use Rattle.kat_cli.specs.NodeNewCommand as new
use Rattle.kat_cli.specs.SampleCommand as sample
use Rattle.kat_cli.specs.SynthCommand as synth
use Rattle.kat_cli.specs.Commands.{Accepts, Inputs, Ends, IsRefusedAs, IsRefusedLate, Passes, ProofFails, TellsItsEnd}
use Rattle.kat_cli.specs.Outcome.{AreRead, EndsSo, FirstRefusal, IfRead, IsEnd, IsFirstLong, IsTooLong, ProofRefuses, Refuses, judged, late, long}
use Rattle.kat_cli.specs.Refusals.{delta_refusal, design_refusal, script_refusal, too_long, type_refusal}
use Rattle.kat_words.specs.Words.{KeepsRanges}
use Rattle.kat_cli.specs.Commands.{has_files}
use Rattle.kat_cli.specs.declared.status.Refusal.{Refusal}
use Rattle.kat_cli.specs.declared.status.Status.{Status}
use Rattle.kat_cli.specs.declared.status.Status.TheVariants.{Done}
use Rattle.kat_words.specs.declared.words.Command.{Command}
use Rattle.kat_cli.proofs.AuditedReports.{audit_apart, audit_good, audit_late_apart, audit_late_once, audit_once, audit_total}
use Rattle.kat_cli.proofs.CheckedFiles.{check_apart, check_ended, check_fault_apart, check_fault_once, check_good, check_once, check_total}
use Rattle.kat_cli.proofs.MigratedFiles.{migrate_ended, migrate_fault_apart, migrate_good, migrate_late_apart, migrate_late_no_proof, migrate_late_once, migrate_total}
use Rattle.kat_cli.proofs.DeltasFiles as deltas
use Rattle.kat_cli.proofs.RunFiles as run
use Rattle.kat_cli.proofs.ScriptsBehind.{scripts_apart, scripts_fault_apart, scripts_fault_once, scripts_good, scripts_once, scripts_total}
use Rattle.kat_cli.proofs.Listed.{ended_listing}
use Rattle.kat_cli.proofs.NodeAskFiles.{ask_apart, ask_ended, ask_fault_apart, ask_fault_once, ask_good, ask_once, ask_total}
use Rattle.kat_cli.proofs.NodeNewFiles.{new_apart, new_good, new_once, new_total}
use Rattle.kat_cli.proofs.NodeStepFiles.{step_apart, step_ended, step_good, step_late_apart, step_late_once, step_once, step_total}
use Rattle.kat_words.specs.declared.options.ListOptions.{ListOptions}
use Rattle.kat_words.specs.declared.options.SampleOptions.{SampleOptions}
use Rattle.kat_words.specs.declared.options.SynthOptions.{SynthOptions}
use Rattle.kat_words.specs.declared.words.Command.TheVariants as command
use Rattle.kat_cli.specs.declared.reading.TheConstants.{FILE_LIMIT}

-- what each command has to show of its own judging
pub record Judging (command : Command) : Type 0 where
  pub apart : (earlier : List (List ℕ)) (text : List ℕ) (refusal : Refusal) → Passes command earlier text → IsRefusedAs command earlier text refusal → ⊥
  pub once : (earlier : List (List ℕ)) (text : List ℕ) (some other : Refusal) → IsRefusedAs command earlier text some → IsRefusedAs command earlier text other → some ≡ other
  pub good : (texts : List (List ℕ)) (inputs : Inputs command) (file : ℕ) (refusal : Refusal) → Accepts command texts inputs → Refuses command [] texts file refusal → ⊥
  pub total : (texts : List (List ℕ)) → has_files command (length texts) ≡ true
      → ((inputs : Inputs command) × Accepts command texts inputs) ⊎ ((file : ℕ) × (refusal : Refusal) × Refuses command [] texts file refusal)
  pub late_once : (texts : List (List ℕ)) (some other : Inputs command) (file file' : ℕ) (refusal refusal' : Refusal) → Accepts command texts some → Accepts command texts other
      → IsRefusedLate command some file refusal → IsRefusedLate command other file' refusal' → (file ≡ file') × (refusal ≡ refusal')
  pub late_apart : (texts : List (List ℕ)) (some other : Inputs command) (file : ℕ) (refusal : Refusal) (status : Status) (text : List ℕ) → Accepts command texts some → Accepts command texts other
      → IsRefusedLate command some file refusal → Ends command other status text → ⊥
  pub late_no_proof : (texts : List (List ℕ)) (some other : Inputs command) (file : ℕ) (refusal : Refusal) (condition line : ℕ) → Accepts command texts some → Accepts command texts other
      → IsRefusedLate command some file refusal → ProofFails command other condition line → ⊥
  pub fault_once : (texts : List (List ℕ)) (some other : Inputs command) (condition line condition' line' : ℕ) → Accepts command texts some → Accepts command texts other
      → ProofFails command some condition line → ProofFails command other condition' line' → (condition ≡ condition') × (line ≡ line')
  pub fault_apart : (texts : List (List ℕ)) (some other : Inputs command) (condition line : ℕ) (status : Status) (text : List ℕ) → Accepts command texts some → Accepts command texts other
      → ProofFails command some condition line → Ends command other status text → ⊥
  pub ended : (texts : List (List ℕ)) (inputs : Inputs command) → TellsItsEnd command → KeepsRanges command → Accepts command texts inputs
      → ((status : Status) × (text : List ℕ) × IsEnd status × Ends command inputs status text)
      ⊎ ((file : ℕ) × (refusal : Refusal) × IsRefusedLate command inputs file refusal)
      ⊎ ((condition : ℕ) × (line : ℕ) × ProofFails command inputs condition line)

pub one_place : (command : Command) → Judging command → (earlier texts : List (List ℕ)) (file file' : ℕ) (refusal refusal' : Refusal)
    → Refuses command earlier texts file refusal → Refuses command earlier texts file' refusal' → (file ≡ file') × (refusal ≡ refusal')
one_place command j earlier [] file file' refusal refusal' a b = absurd a
one_place command j earlier (t ∷ texts) zero zero refusal refusal' a b = (refl, j.once earlier t refusal refusal' a b)
one_place command j earlier (t ∷ texts) zero (suc file') refusal refusal' a b = absurd (j.apart earlier t refusal b.0 a)
one_place command j earlier (t ∷ texts) (suc file) zero refusal refusal' a b = absurd (j.apart earlier t refusal' a.0 b)
one_place command j earlier (t ∷ texts) (suc file) (suc file') refusal refusal' a b =
    let same = one_place command j (earlier ++ t ∷ []) texts file file' refusal refusal' a.1 b.1 in (ap suc same.0, same.1)

-- what is told is what is read
pub told_read : (told read : List (List ℕ)) → AreRead (map Some told) read → told ≡ read
told_read [] [] r = refl
told_read (t ∷ told) (c ∷ read) r = λ i. r.0.tells i ∷ told_read told read r.1 i
told_read [] (c ∷ read) r = absurd r
told_read (t ∷ told) [] r = absurd r

-- a file that is read isn't too long
short_at : (told read : List (List ℕ)) (file n : ℕ) → file < n → file < length (map Some told) → AreRead (take n (map Some told)) read
    → IsTooLong (slice_index_or (map Some told) file None) → ⊥
short_at [] read file n lt le r h = absurd (omega (arith, le))
short_at (t ∷ told) read file zero lt le r h = absurd (omega (arith, lt))
short_at (t ∷ told) [] file (suc n) lt le r h = absurd r
short_at (t ∷ told) (c ∷ read) zero (suc n) lt le r h =
    let small : length c ≤ FILE_LIMIT = r.0.short in
    let large : FILE_LIMIT < length c = subst (λ (bytes : List ℕ). FILE_LIMIT < length bytes) r.0.tells h in omega (arith, small, large)
short_at (t ∷ told) (c ∷ read) (suc file) (suc n) lt le r h = short_at told read file n (omega (arith, lt)) (omega (arith, le)) r.1 h

pub short_all : (told read : List (List ℕ)) (file : ℕ) → file < length (map Some told) → AreRead (map Some told) read → IsTooLong (slice_index_or (map Some told) file None) → ⊥
short_all [] read file le r h = absurd (omega (arith, le))
short_all (t ∷ told) [] file le r h = absurd r
short_all (t ∷ told) (c ∷ read) zero le r h =
    let small : length c ≤ FILE_LIMIT = r.0.short in
    let large : FILE_LIMIT < length c = subst (λ (bytes : List ℕ). FILE_LIMIT < length bytes) r.0.tells h in omega (arith, small, large)
short_all (t ∷ told) (c ∷ read) (suc file) le r h = short_all told read file (omega (arith, le)) r.1 h

same_place : (a b : ℕ) → (a < b → ⊥) → (b < a → ⊥) → a ≡ b
same_place zero zero h k = refl
same_place zero (suc b) h k = absurd (h (omega arith))
same_place (suc a) zero h k = absurd (k (omega arith))
same_place (suc a) (suc b) h k = ap suc (same_place a b (λ l. h (omega (arith, l))) (λ l. k (omega (arith, l))))

pub refused_once : (command : Command) → Judging command → (told : List (List ℕ)) (file file' : ℕ) (refusal refusal' : Refusal)
    → FirstRefusal command (map Some told) file refusal → FirstRefusal command (map Some told) file' refusal' → (file ≡ file') × (refusal ≡ refusal')
refused_once command j told file file' refusal refusal' (long a e) (long b e') = (
  same_place file file' (λ l. short_at told b.earlier file file' l a.within b.read a.long) (λ l. short_at told a.earlier file' file l b.within a.read b.long),
  e ∙ sym e',
)
refused_once command j told file file' refusal refusal' (long a e) (judged bytes r h) = absurd (short_all told bytes file a.within r a.long)
refused_once command j told file file' refusal refusal' (judged bytes r h) (long a e) = absurd (short_all told bytes file' a.within r a.long)
refused_once command j told file file' refusal refusal' (judged bytes r h) (judged bytes' r' h') =
    one_place command j [] bytes file file' refusal refusal' h
    (subst (λ (texts : List (List ℕ)). Refuses command [] texts file' refusal') (sym (told_read told bytes' r') ∙ told_read told bytes r) h')
refused_once command j told file file' refusal refusal' (long a e) (late bytes r h) = absurd (short_all told bytes file a.within r a.long)
refused_once command j told file file' refusal refusal' (late bytes r h) (long a e) = absurd (short_all told bytes file' a.within r a.long)
refused_once command j told file file' refusal refusal' (judged bytes r h) (late bytes' r' h') =
    absurd (j.good bytes' h'.inputs file refusal h'.accepted
    (subst (λ (texts : List (List ℕ)). Refuses command [] texts file refusal) (sym (told_read told bytes r) ∙ told_read told bytes' r') h))
refused_once command j told file file' refusal refusal' (late bytes r h) (judged bytes' r' h') =
    absurd (j.good bytes h.inputs file' refusal' h.accepted
    (subst (λ (texts : List (List ℕ)). Refuses command [] texts file' refusal') (sym (told_read told bytes' r') ∙ told_read told bytes r) h'))
refused_once command j told file file' refusal refusal' (late bytes r h) (late bytes' r' h') =
    j.late_once bytes h.inputs h'.inputs file file' refusal refusal' h.accepted
    (subst (λ (texts : List (List ℕ)). Accepts command texts h'.inputs) (sym (told_read told bytes' r') ∙ told_read told bytes r) h'.accepted) h.late_so h'.late_so

pub not_both : (command : Command) → Judging command → (told : List (List ℕ)) (file : ℕ) (refusal : Refusal) (status : Status) (text : List ℕ)
    → FirstRefusal command (map Some told) file refusal → IfRead (map Some told) (λ bytes. EndsSo command bytes status text) → ⊥
not_both command j told file refusal status text (long a e) g = short_all told g.0 file a.within g.1 a.long
not_both command j told file refusal status text (judged bytes r h) g =
    j.good g.0 g.2.inputs file refusal g.2.accepted
    (subst (λ (texts : List (List ℕ)). Refuses command [] texts file refusal) (sym (told_read told bytes r) ∙ told_read told g.0 g.1) h)
not_both command j told file refusal status text (late bytes r h) g =
    j.late_apart bytes h.inputs g.2.inputs file refusal status text h.accepted
    (subst (λ (texts : List (List ℕ)). Accepts command texts g.2.inputs) (sym (told_read told g.0 g.1) ∙ told_read told bytes r) g.2.accepted) h.late_so g.2.ends

-- if the files are accepted and none is refused late, none is refused
pub accepted_passes : (command : Command) → Judging command → (told read : List (List ℕ)) (inputs : Inputs command) (file : ℕ) (refusal : Refusal)
    → AreRead (map Some told) read → Accepts command read inputs → ((some : Inputs command) → IsRefusedLate command some file refusal → ⊥)
    → FirstRefusal command (map Some told) file refusal → ⊥
accepted_passes command j told read inputs file refusal are accepted never (long a e) = short_all told read file a.within are a.long
accepted_passes command j told read inputs file refusal are accepted never (judged bytes r h) =
    j.good read inputs file refusal accepted
    (subst (λ (texts : List (List ℕ)). Refuses command [] texts file refusal) (sym (told_read told bytes r) ∙ told_read told read are) h)
accepted_passes command j told read inputs file refusal are accepted never (late bytes r h) = never h.inputs h.late_so

pub not_proof_too : (command : Command) → Judging command → (told : List (List ℕ)) (file : ℕ) (refusal : Refusal) (condition line : ℕ)
    → FirstRefusal command (map Some told) file refusal → IfRead (map Some told) (λ bytes. ProofRefuses command bytes condition line) → ⊥
not_proof_too command j told file refusal condition line (long a e) g = short_all told g.0 file a.within g.1 a.long
not_proof_too command j told file refusal condition line (judged bytes r h) g =
    j.good g.0 g.2.inputs file refusal g.2.accepted
    (subst (λ (texts : List (List ℕ)). Refuses command [] texts file refusal) (sym (told_read told bytes r) ∙ told_read told g.0 g.1) h)
not_proof_too command j told file refusal condition line (late bytes r h) g =
    j.late_no_proof bytes h.inputs g.2.inputs file refusal condition line h.accepted
    (subst (λ (texts : List (List ℕ)). Accepts command texts g.2.inputs) (sym (told_read told g.0 g.1) ∙ told_read told bytes r) g.2.accepted) h.late_so g.2.fails

-- a proof has one fault at most, and then the command doesn't end by itself
pub faulty_once : (command : Command) → Judging command → (told : List (List ℕ)) (condition line condition' line' : ℕ)
    → IfRead (map Some told) (λ bytes. ProofRefuses command bytes condition line) → IfRead (map Some told) (λ bytes. ProofRefuses command bytes condition' line')
    → (condition ≡ condition') × (line ≡ line')
faulty_once command j told condition line condition' line' p q =
    j.fault_once p.0 p.2.inputs q.2.inputs condition line condition' line' p.2.accepted
    (subst (λ (texts : List (List ℕ)). Accepts command texts q.2.inputs) (sym (told_read told q.0 q.1) ∙ told_read told p.0 p.1) q.2.accepted) p.2.fails q.2.fails

pub faulty_apart : (command : Command) → Judging command → (told : List (List ℕ)) (condition line : ℕ) (status : Status) (text : List ℕ)
    → IfRead (map Some told) (λ bytes. ProofRefuses command bytes condition line) → IfRead (map Some told) (λ bytes. EndsSo command bytes status text) → ⊥
faulty_apart command j told condition line status text p g =
    j.fault_apart p.0 p.2.inputs g.2.inputs condition line status text p.2.accepted
    (subst (λ (texts : List (List ℕ)). Accepts command texts g.2.inputs) (sym (told_read told g.0 g.1) ∙ told_read told p.0 p.1) g.2.accepted) p.2.fails g.2.ends

-- a file is that of one design, so a script is judged for one signature
design_script_for : (first text : List ℕ) (some other : FileForm) (script : Script) → IsFileText first some → IsFileText first other
    → IsScriptText some.design.sig text script → IsScriptText other.design.sig text script
design_script_for first text some other script a b h = subst (λ (f : FileForm). IsScriptText f.design.sig text script) (files.one_file first some other a b) h

design_refusal_for : (first text : List ℕ) (some other : FileForm) (error : ScriptError) → IsFileText first some → IsFileText first other
    → IsRefused some.design.sig text error → IsRefused other.design.sig text error
design_refusal_for first text some other error a b h = subst (λ (f : FileForm). IsRefused f.design.sig text error) (files.one_file first some other a b) h

converge_apart : (earlier : List (List ℕ)) (text : List ℕ) (refusal : Refusal) → converge.Passes earlier text → converge.IsRefusedAs earlier text refusal → ⊥
converge_apart [] text refusal p q = files.never_both text p.0 q.0 p.1 q.1
converge_apart (first ∷ earlier) text refusal p q =
    script_or_refused p.0.design.sig text p.1 q.1 p.3 (design_refusal_for first text q.0 p.0 q.1 q.2 p.2 q.3)

converge_once : (earlier : List (List ℕ)) (text : List ℕ) (some other : Refusal) → converge.IsRefusedAs earlier text some → converge.IsRefusedAs earlier text other → some ≡ other
converge_once [] text some other a b = a.2 ∙ ap design_refusal (files.one_refusal text a.0 b.0 a.1 b.1) ∙ sym b.2
converge_once (first ∷ earlier) text some other a b =
    a.4 ∙ ap script_refusal (refusal_once a.0.design.sig text a.1 b.1 a.3 (design_refusal_for first text b.0 a.0 b.1 b.2 a.2 b.3)) ∙ sym b.4

converge_good : (texts : List (List ℕ)) (inputs : converge.Inputs) (file : ℕ) (refusal : Refusal) → converge.Accepts texts inputs → Refuses command.Converge [] texts file refusal → ⊥
converge_good [] inputs file refusal a q = absurd a
converge_good (d ∷ []) inputs file refusal a q = absurd a
converge_good (d ∷ s ∷ []) inputs zero refusal a q = files.never_both d inputs.file q.0 a.0 q.1
converge_good (d ∷ s ∷ []) inputs (suc zero) refusal a q =
    script_or_refused inputs.file.design.sig s inputs.script q.1.1 a.1 (design_refusal_for d s q.1.0 inputs.file q.1.1 q.1.2 a.0 q.1.3)
converge_good (d ∷ s ∷ []) inputs (suc (suc file)) refusal a q = q.1.1
converge_good (d ∷ s ∷ t ∷ texts) inputs file refusal a q = absurd a

converge_second : (first text : List ℕ) (f : FileForm) → IsFileText first f
    → ((script : Script) × IsScriptText f.design.sig text script) ⊎ ((error : ScriptError) × IsRefused f.design.sig text error)
    → ((inputs : converge.Inputs) × converge.Accepts (first ∷ text ∷ []) inputs) ⊎ ((file : ℕ) × (refusal : Refusal) × Refuses command.Converge [] (first ∷ text ∷ []) file refusal)
converge_second first text f is (inl h) = inl (record { file = f; script = h.0 }, (is, h.1))
converge_second first text d is (inr h) = inr (1, script_refusal h.0, ((d, is), (d, h.0, is, h.1, refl)))

converge_first : (first text : List ℕ)
    → ((f : FileForm) × IsFileText first f) ⊎ ((error : WireError) × IsRefusal first error)
    → ((inputs : converge.Inputs) × converge.Accepts (first ∷ text ∷ []) inputs) ⊎ ((file : ℕ) × (refusal : Refusal) × Refuses command.Converge [] (first ∷ text ∷ []) file refusal)
converge_first first text (inl h) = converge_second first text h.0 h.1 (every_script_text h.0.design.sig text)
converge_first first text (inr h) = inr (0, design_refusal h.0, (h.0, h.1, refl))

converge_total : (texts : List (List ℕ)) → has_files command.Converge (length texts) ≡ true
    → ((inputs : converge.Inputs) × converge.Accepts texts inputs) ⊎ ((file : ℕ) × (refusal : Refusal) × Refuses command.Converge [] texts file refusal)
converge_total [] fits = absurd (false≢true fits)
converge_total (d ∷ []) fits = absurd (false≢true fits)
converge_total (d ∷ s ∷ []) fits = converge_first d s (files.every_text d)
converge_total (d ∷ s ∷ t ∷ texts) fits = absurd (omega (arith, eqb-true (length (d ∷ s ∷ t ∷ texts)) 2 fits))

-- a text is a type in one way, so a script is judged for one signature
script_for : (first text : List ℕ) (some other : TypeForm) (script : Script) → IsTypeFile first some → IsTypeFile first other
    → IsScriptText (signature_of some) text script → IsScriptText (signature_of other) text script
script_for first text some other script a b h = subst (λ (ty : TypeForm). IsScriptText (signature_of ty) text script) (one_type first some other a b) h

refusal_for : (first text : List ℕ) (some other : TypeForm) (error : ScriptError) → IsTypeFile first some → IsTypeFile first other
    → IsRefused (signature_of some) text error → IsRefused (signature_of other) text error
refusal_for first text some other error a b h = subst (λ (ty : TypeForm). IsRefused (signature_of ty) text error) (one_type first some other a b) h

model_apart : (earlier : List (List ℕ)) (text : List ℕ) (refusal : Refusal) → model.Passes earlier text → model.IsRefusedAs earlier text refusal → ⊥
model_apart [] text refusal p q = type_or_refused text p.0 q.0 p.1 q.1
model_apart (first ∷ earlier) text refusal p q =
    script_or_refused (signature_of p.0) text p.1 q.1 p.3 (refusal_for first text q.0 p.0 q.1 q.2 p.2 q.3)

model_once : (earlier : List (List ℕ)) (text : List ℕ) (some other : Refusal) → model.IsRefusedAs earlier text some → model.IsRefusedAs earlier text other → some ≡ other
model_once [] text some other a b = a.2 ∙ ap type_refusal (one_refusal text a.0 b.0 a.1 b.1) ∙ sym b.2
model_once (first ∷ earlier) text some other a b =
    a.4 ∙ ap script_refusal (refusal_once (signature_of a.0) text a.1 b.1 a.3 (refusal_for first text b.0 a.0 b.1 b.2 a.2 b.3)) ∙ sym b.4

model_good : (texts : List (List ℕ)) (inputs : model.Inputs) (file : ℕ) (refusal : Refusal) → model.Accepts texts inputs → Refuses command.Model [] texts file refusal → ⊥
model_good [] inputs file refusal a q = absurd a
model_good (t ∷ []) inputs file refusal a q = absurd a
model_good (t ∷ s ∷ []) inputs zero refusal a q = type_or_refused t inputs.ty q.0 a.0 q.1
model_good (t ∷ s ∷ []) inputs (suc zero) refusal a q =
    script_or_refused (signature_of inputs.ty) s inputs.script q.1.1 a.1 (refusal_for t s q.1.0 inputs.ty q.1.1 q.1.2 a.0 q.1.3)
model_good (t ∷ s ∷ []) inputs (suc (suc file)) refusal a q = q.1.1
model_good (t ∷ s ∷ u ∷ texts) inputs file refusal a q = absurd a

model_second : (first text : List ℕ) (ty : TypeForm) → IsTypeFile first ty
    → ((script : Script) × IsScriptText (signature_of ty) text script) ⊎ ((error : ScriptError) × IsRefused (signature_of ty) text error)
    → ((inputs : model.Inputs) × model.Accepts (first ∷ text ∷ []) inputs) ⊎ ((file : ℕ) × (refusal : Refusal) × Refuses command.Model [] (first ∷ text ∷ []) file refusal)
model_second first text ty is (inl h) = inl (record { ty = ty; script = h.0 }, (is, h.1))
model_second first text ty is (inr h) = inr (1, script_refusal h.0, ((ty, is), (ty, h.0, is, h.1, refl)))

model_first : (first text : List ℕ) → ((ty : TypeForm) × IsTypeFile first ty) ⊎ ((error : TypeError) × IsRefusedFile first error)
    → ((inputs : model.Inputs) × model.Accepts (first ∷ text ∷ []) inputs) ⊎ ((file : ℕ) × (refusal : Refusal) × Refuses command.Model [] (first ∷ text ∷ []) file refusal)
model_first first text (inl h) = model_second first text h.0 h.1 (every_script_text (signature_of h.0) text)
model_first first text (inr h) = inr (0, type_refusal h.0, (h.0, h.1, refl))

model_total : (texts : List (List ℕ)) → has_files command.Model (length texts) ≡ true
    → ((inputs : model.Inputs) × model.Accepts texts inputs) ⊎ ((file : ℕ) × (refusal : Refusal) × Refuses command.Model [] texts file refusal)
model_total [] fits = absurd (false≢true fits)
model_total (t ∷ []) fits = absurd (false≢true fits)
model_total (t ∷ s ∷ []) fits = model_first t s (every_type_file t)
model_total (t ∷ s ∷ u ∷ texts) fits = absurd (omega (arith, eqb-true (length (t ∷ s ∷ u ∷ texts)) 2 fits))

list_apart : (options : ListOptions) (earlier : List (List ℕ)) (text : List ℕ) (refusal : Refusal) → list.Passes earlier text → list.IsRefusedAs earlier text refusal → ⊥
list_apart options earlier text refusal p q = type_or_refused text p.0 q.0 p.1 q.1

list_once : (options : ListOptions) (earlier : List (List ℕ)) (text : List ℕ) (some other : Refusal) → list.IsRefusedAs earlier text some → list.IsRefusedAs earlier text other → some ≡ other
list_once options earlier text some other a b = a.2 ∙ ap type_refusal (one_refusal text a.0 b.0 a.1 b.1) ∙ sym b.2

list_good : (options : ListOptions) (texts : List (List ℕ)) (ty : TypeForm) (file : ℕ) (refusal : Refusal) → list.Accepts texts ty → Refuses (command.List options) [] texts file refusal → ⊥
list_good options [] ty file refusal a q = absurd a
list_good options (t ∷ []) ty zero refusal a q = type_or_refused t ty q.0 a q.1
list_good options (t ∷ []) ty (suc file) refusal a q = q.1
list_good options (t ∷ s ∷ texts) ty file refusal a q = absurd a

list_first : (options : ListOptions) (first : List ℕ) → ((ty : TypeForm) × IsTypeFile first ty) ⊎ ((error : TypeError) × IsRefusedFile first error)
    → ((ty : TypeForm) × list.Accepts (first ∷ []) ty) ⊎ ((file : ℕ) × (refusal : Refusal) × Refuses (command.List options) [] (first ∷ []) file refusal)
list_first options first (inl h) = inl (h.0, h.1)
list_first options first (inr h) = inr (0, type_refusal h.0, (h.0, h.1, refl))

list_total : (options : ListOptions) (texts : List (List ℕ)) → has_files (command.List options) (length texts) ≡ true
    → ((ty : TypeForm) × list.Accepts texts ty) ⊎ ((file : ℕ) × (refusal : Refusal) × Refuses (command.List options) [] texts file refusal)
list_total options [] fits = absurd (false≢true fits)
list_total options (t ∷ []) fits = list_first options t (every_type_file t)
list_total options (t ∷ s ∷ texts) fits = absurd (omega (arith, eqb-true (length (t ∷ s ∷ texts)) 1 fits))

synth_good : (options : SynthOptions) (texts : List (List ℕ)) (ty : TypeForm) (file : ℕ) (refusal : Refusal) → synth.Accepts texts ty → Refuses (command.Synth options) [] texts file refusal → ⊥
synth_good options [] ty file refusal a q = absurd a
synth_good options (t ∷ []) ty zero refusal a q = type_or_refused t ty q.0 a q.1
synth_good options (t ∷ []) ty (suc file) refusal a q = q.1
synth_good options (t ∷ s ∷ texts) ty file refusal a q = absurd a

synth_first : (options : SynthOptions) (first : List ℕ) → ((ty : TypeForm) × IsTypeFile first ty) ⊎ ((error : TypeError) × IsRefusedFile first error)
    → ((ty : TypeForm) × synth.Accepts (first ∷ []) ty) ⊎ ((file : ℕ) × (refusal : Refusal) × Refuses (command.Synth options) [] (first ∷ []) file refusal)
synth_first options first (inl h) = inl (h.0, h.1)
synth_first options first (inr h) = inr (0, type_refusal h.0, (h.0, h.1, refl))

synth_total : (options : SynthOptions) (texts : List (List ℕ)) → has_files (command.Synth options) (length texts) ≡ true
    → ((ty : TypeForm) × synth.Accepts texts ty) ⊎ ((file : ℕ) × (refusal : Refusal) × Refuses (command.Synth options) [] texts file refusal)
synth_total options [] fits = absurd (false≢true fits)
synth_total options (t ∷ []) fits = synth_first options t (every_type_file t)
synth_total options (t ∷ s ∷ texts) fits = absurd (omega (arith, eqb-true (length (t ∷ s ∷ texts)) 1 fits))

sample_good : (options : SampleOptions) (texts : List (List ℕ)) (file : ℕ) (refusal : Refusal) → sample.Accepts texts → Refuses (command.Sample options) [] texts file refusal → ⊥
sample_good options [] file refusal a q = q
sample_good options (t ∷ texts) file refusal a q = absurd a

sample_total : (options : SampleOptions) (texts : List (List ℕ)) → has_files (command.Sample options) (length texts) ≡ true
    → ((inputs : Unit {0}) × sample.Accepts texts) ⊎ ((file : ℕ) × (refusal : Refusal) × Refuses (command.Sample options) [] texts file refusal)
sample_total options [] fits = inl (tt, tt)
sample_total options (t ∷ texts) fits = absurd (omega (arith, eqb-true (length (t ∷ texts)) 0 fits))

-- a first file that is too long
pub unread_long : (bytes : List ℕ) (others : List (Option (List ℕ))) (read : List (List ℕ)) → FILE_LIMIT < length bytes → AreRead (Some bytes ∷ others) read → ⊥
unread_long bytes others [] large r = r
unread_long bytes others (read ∷ more) large r =
    let small : length read ≤ FILE_LIMIT = r.0.short in
    let larger : FILE_LIMIT < length read = subst (λ (all : List ℕ). FILE_LIMIT < length all) r.0.tells large in omega (arith, small, larger)

first_long : (bytes : List ℕ) (others : List (Option (List ℕ))) (file : ℕ) → FILE_LIMIT < length bytes → IsFirstLong (Some bytes ∷ others) file → file ≡ 0
first_long bytes others zero large h = refl
first_long bytes others (suc file) large h = absurd (unread_long bytes (take file others) h.earlier large h.read)

pub refused_long : (command : Command) (bytes : List ℕ) (others : List (Option (List ℕ))) (file : ℕ) (refusal : Refusal) → FILE_LIMIT < length bytes
    → FirstRefusal command (Some bytes ∷ others) file refusal → (file ≡ 0) × (refusal ≡ too_long)
refused_long command bytes others file refusal large (long a e) = (first_long bytes others file large a, e)
refused_long command bytes others file refusal large (judged read r h) = absurd (unread_long bytes others read large r)
refused_long command bytes others file refusal large (late read r h) = absurd (unread_long bytes others read large r)

pub judging : (command : Command) → Judging command
judging command.Converge = record {
  apart = converge_apart;
  once = converge_once;
  good = converge_good;
  total = converge_total;
  late_once = λ texts some other file file' refusal refusal' a b l m. absurd l;
  late_apart = λ texts some other file refusal status text a b l e. l;
  late_no_proof = λ texts some other file refusal condition line a b l p. l;
  fault_once = λ texts some other condition line condition' line' a b p q. absurd p;
  fault_apart = λ texts some other condition line status text a b p e. p;
  ended = λ texts inputs told ranges a. inl (Done, converge.output inputs.file.design inputs.script, tt, (refl, refl));
}
judging command.Model = record {
  apart = model_apart;
  once = model_once;
  good = model_good;
  total = model_total;
  late_once = λ texts some other file file' refusal refusal' a b l m. absurd l;
  late_apart = λ texts some other file refusal status text a b l e. l;
  late_no_proof = λ texts some other file refusal condition line a b l p. l;
  fault_once = λ texts some other condition line condition' line' a b p q. absurd p;
  fault_apart = λ texts some other condition line status text a b p e. p;
  ended = λ texts inputs told ranges a. inl (Done, model_lines inputs.ty inputs.script, tt, (refl, refl));
}
judging (command.List options) = record {
  apart = list_apart options;
  once = list_once options;
  good = list_good options;
  total = list_total options;
  late_once = λ texts some other file file' refusal refusal' a b l m. absurd l;
  late_apart = λ texts some other file refusal status text a b l e. l;
  late_no_proof = λ texts some other file refusal condition line a b l p. l;
  fault_once = λ texts some other condition line condition' line' a b p q. absurd p;
  fault_apart = λ texts some other condition line status text a b p e. p;
  ended = λ texts ty told ranges a. inl (ended_listing options texts ty ranges a);
}
judging command.Check = record {
  apart = check_apart;
  once = check_once;
  good = check_good;
  total = check_total;
  late_once = λ texts some other file file' refusal refusal' a b l m. absurd l;
  late_apart = λ texts some other file refusal status text a b l e. l;
  late_no_proof = λ texts some other file refusal condition line a b l p. l;
  fault_once = check_fault_once;
  fault_apart = check_fault_apart;
  ended = λ texts inputs told ranges a. check_ended inputs;
}
judging command.Migrate = record {
  apart = check_apart;
  once = check_once;
  good = migrate_good;
  total = migrate_total;
  late_once = migrate_late_once;
  late_apart = migrate_late_apart;
  late_no_proof = migrate_late_no_proof;
  fault_once = check_fault_once;
  fault_apart = migrate_fault_apart;
  ended = λ texts inputs told ranges a. migrate_ended inputs;
}
judging command.Run = record {
  apart = scripts_apart Script ScriptError IsScriptText IsRefused script_refusal run.judged_once;
  once = scripts_once Script ScriptError IsScriptText IsRefused script_refusal run.judged_once;
  good = scripts_good Script ScriptError IsScriptText IsRefused script_refusal run.judged_once;
  total = scripts_total Script ScriptError IsScriptText IsRefused script_refusal run.judged_once;
  late_once = λ texts some other file file' refusal refusal' a b l m. absurd l;
  late_apart = λ texts some other file refusal status text a b l e. l;
  late_no_proof = λ texts some other file refusal condition line a b l p. l;
  fault_once = scripts_fault_once Script ScriptError IsScriptText IsRefused script_refusal run.judged_once;
  fault_apart = λ texts some other condition line status text a b p e.
      scripts_fault_apart Script ScriptError IsScriptText IsRefused script_refusal run.judged_once texts some other condition line a b p e.accepted;
  ended = λ texts inputs told ranges a. run.run_ended texts inputs a;
}
judging command.Deltas = record {
  apart = scripts_apart DeltaScript DeltaScriptError IsDeltaScriptText IsDeltaRefused delta_refusal deltas.judged_once;
  once = scripts_once DeltaScript DeltaScriptError IsDeltaScriptText IsDeltaRefused delta_refusal deltas.judged_once;
  good = scripts_good DeltaScript DeltaScriptError IsDeltaScriptText IsDeltaRefused delta_refusal deltas.judged_once;
  total = scripts_total DeltaScript DeltaScriptError IsDeltaScriptText IsDeltaRefused delta_refusal deltas.judged_once;
  late_once = λ texts some other file file' refusal refusal' a b l m. absurd l;
  late_apart = λ texts some other file refusal status text a b l e. l;
  late_no_proof = λ texts some other file refusal condition line a b l p. l;
  fault_once = scripts_fault_once DeltaScript DeltaScriptError IsDeltaScriptText IsDeltaRefused delta_refusal deltas.judged_once;
  fault_apart = λ texts some other condition line status text a b p e.
      scripts_fault_apart DeltaScript DeltaScriptError IsDeltaScriptText IsDeltaRefused delta_refusal deltas.judged_once texts some other condition line a b p e.accepted;
  ended = λ texts inputs told ranges a. deltas.deltas_ended texts inputs a;
}
judging (command.Synth options) = record {
  apart = λ earlier text refusal p q. type_or_refused text p.0 q.0 p.1 q.1;
  once = λ earlier text some other a b. a.2 ∙ ap type_refusal (one_refusal text a.0 b.0 a.1 b.1) ∙ sym b.2;
  good = synth_good options;
  total = synth_total options;
  late_once = λ texts some other file file' refusal refusal' a b l m. absurd l;
  late_apart = λ texts some other file refusal status text a b l e. l;
  late_no_proof = λ texts some other file refusal condition line a b l p. l;
  fault_once = λ texts some other condition line condition' line' a b p q. absurd p;
  fault_apart = λ texts some other condition line status text a b p e. p;
  ended = λ texts ty told ranges a. absurd told;
}
judging (command.Audit options) = record {
  apart = audit_apart;
  once = audit_once;
  good = audit_good options;
  total = audit_total options;
  late_once = audit_late_once options;
  late_apart = audit_late_apart options;
  late_no_proof = λ texts some other file refusal condition line a b l p. p;
  fault_once = λ texts some other condition line condition' line' a b p q. absurd p;
  fault_apart = λ texts some other condition line status text a b p e. p;
  ended = λ texts inputs told ranges a. absurd told;
}
judging (command.Sample options) = record {
  apart = λ earlier text refusal p q. p;
  once = λ earlier text some other a b. absurd a;
  good = λ texts inputs. sample_good options texts;
  total = sample_total options;
  late_once = λ texts some other file file' refusal refusal' a b l m. absurd l;
  late_apart = λ texts some other file refusal status text a b l e. l;
  late_no_proof = λ texts some other file refusal condition line a b l p. l;
  fault_once = λ texts some other condition line condition' line' a b p q. absurd p;
  fault_apart = λ texts some other condition line status text a b p e. p;
  ended = λ texts inputs told ranges a. absurd told;
}
judging (command.NodeNew options) = record {
  apart = new_apart;
  once = new_once;
  good = new_good options;
  total = new_total options;
  late_once = λ texts some other file file' refusal refusal' a b l m. absurd l;
  late_apart = λ texts some other file refusal status text a b l e. l;
  late_no_proof = λ texts some other file refusal condition line a b l p. l;
  fault_once = λ texts some other condition line condition' line' a b p q. absurd p;
  fault_apart = λ texts some other condition line status text a b p e. p;
  ended = λ texts inputs told ranges a. inl (Done, new.output options inputs, tt, (refl, refl));
}
judging command.NodeStep = record {
  apart = step_apart;
  once = step_once;
  good = step_good;
  total = step_total;
  late_once = step_late_once;
  late_apart = step_late_apart;
  late_no_proof = λ texts some other file refusal condition line a b l p. p;
  fault_once = λ texts some other condition line condition' line' a b p q. absurd p;
  fault_apart = λ texts some other condition line status text a b p e. p;
  ended = λ texts inputs told ranges a. step_ended texts inputs a;
}
judging command.NodeAsk = record {
  apart = ask_apart;
  once = ask_once;
  good = ask_good;
  total = ask_total;
  late_once = λ texts some other file file' refusal refusal' a b l m. absurd l;
  late_apart = λ texts some other file refusal status text a b l e. l;
  late_no_proof = λ texts some other file refusal condition line a b l p. l;
  fault_once = ask_fault_once;
  fault_apart = ask_fault_apart;
  ended = λ texts inputs told ranges a. ask_ended texts inputs a;
}
