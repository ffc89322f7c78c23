-- How `check` is refused, and how it ends.
use Rattle.std.proofs.Common.{◌≡◌, ℕ, zero, suc, ◌⊎◌, ◌↔◌, inl, inr, Bool, true, false, List, [], ◌∷◌, length, refl, sym, ◌∙◌, ap, subst, arith}
use Rattle.std.specs.Prelude.{IsErrOf, IsTrue, Result, Ok, Err}
use Rattle.std.proofs.lemmas.Bool.{eqb-true, false≢true}
use Rattle.kat_accepted.specs.Writing.{WritesIfAccepted}
use Rattle.kat_check.specs.Acceptance.{IsAcceptedFile, IsFirstFault}
use Rattle.kat_check.specs.declared.acceptance.Checked.{Checked}
use Rattle.kat_check.specs.declared.acceptance.Checked.TheVariants as checked
use Rattle.kat_io.specs.Outside.{Rose}
use Rattle.kat_world.specs.declared.writing.WorldError.{WorldError}
use Rattle.kat_world.specs.declared.writing.WorldError.TheVariants as world
use Rattle.kat_check.proofs.Faults.{accepted_without, one_condition, one_line}
use Rattle.kat_check.proofs.Judged.{file_judged}
use Rattle.kat_type.specs.Signatures.{signature_of}
use Rattle.kat_type_file.specs.TypeFiles.{IsRefusedFile, IsTypeFile, TellsFileRefusal}
use Rattle.kat_type.specs.Types.{TypeForm}
use Rattle.kat_type.specs.declared.errors.TypeError.{TypeError}
use Rattle.kat_type.specs.declared.errors.TypeError.TheVariants as type_file
use Rattle.kat_type_file.proofs.Judgements.{every_type_file, one_refusal, one_type, type_or_refused}
use Rattle.kat_wire.specs.FileForms.{FileForm}
use Rattle.kat_wire.specs.Files.{IsFileRefusal, IsFileText}
use Rattle.kat_wire.specs.Judgements.{IsRefusal}
use Rattle.kat_json.specs.declared.errors.WireError.{WireError}
use Rattle.kat_json.specs.declared.errors.WireError.TheVariants as design
use Rattle.kat_wire.proofs.Judging as files
use Rattle.kat_wire.proofs.SignaturesApart.{signatures_apart}
use Rattle.kat_cli.specs.CheckCommand.{Accepts, Ends, Inputs, IsFileFor, IsRefusedAs, IsRefusedBehind, Passes, ProofFails, differs, output, unread}
use Rattle.kat_cli.specs.Ending.{FailsProof, FailsToPass, Judges, OutputSeen, ended_status}
use Rattle.kat_cli.specs.Outcome.{EndsSo, IsEnd, ProofRefuses, Refuses}
use Rattle.kat_cli.specs.Refusals.{design_refusal, design_status, other_signature, type_refusal, type_status}
use Rattle.kat_cli.specs.Commands.{has_files}
use Rattle.kat_cli.specs.declared.status.Refusal.{Refusal}
use Rattle.kat_cli.specs.declared.status.Status.{Status}
use Rattle.kat_cli.specs.declared.status.Status.TheVariants.{Done, Usage, ReadFault, Refused, NoDesign, Undecided, Stopped, Memory, WriteFault, ProofRefused}
use Rattle.kat_words.specs.declared.words.Command.{Command}
use Rattle.kat_words.specs.declared.words.Command.TheVariants as command

-- a type file that isn't read
pub type_refused : (first second : List ℕ) (error : TypeError) → TellsFileRefusal first error → FailsToPass first second (type_status 0 error)
type_refused first second (type_file.Refused number at) tells = (type_file.Refused number at, tells, refl)
type_refused first second type_file.Memory tells = tt

-- a design file that isn't read
pub design_refused : (first second : List ℕ) (ty : TypeForm) (error : WireError) → IsTypeFile first ty → IsFileRefusal second error → FailsToPass first second (design_status 1 error)
design_refused first second ty (design.BadDesign place) is tells = ((ty, is), unread (design.BadDesign place) (record { refused = tells; told = λ e. absurd (cc) }) refl)
design_refused first second ty design.Json is tells = ((ty, is), unread design.Json (record { refused = tells; told = λ e. absurd (cc) }) refl)
design_refused first second ty (design.Form place) is tells = ((ty, is), unread (design.Form place) (record { refused = tells; told = λ e. absurd (cc) }) refl)
design_refused first second ty design.Version is tells = ((ty, is), unread design.Version (record { refused = tells; told = λ e. absurd (cc) }) refl)
design_refused first second ty design.Memory is tells = tt

-- a design file with another signature
pub signature_refused : (first second : List ℕ) (ty : TypeForm) (file : FileForm) (status : Status) → IsTypeFile first ty → IsFileText second file
    → (signature_of ty ≡ file.design.sig → ⊥) → (status ≡ Memory) ⊎ (status ≡ Refused 1 other_signature) → FailsToPass first second status
signature_refused first second ty file status is says apart (inl e) = subst (FailsToPass first second) (sym e) tt
signature_refused first second ty file status is says apart (inr e) = subst (FailsToPass first second) (sym e) ((ty, is), differs ty file is says apart refl)

-- A command that refuses what these two files refuse ends so if they aren't judged good.
pub fails_judged : (one : Command) (texts : List (List ℕ)) (first second : List ℕ) (seen : OutputSeen) (status : Status)
    → ((file : ℕ) (refusal : Refusal) → Refuses command.Check [] (first ∷ second ∷ []) file refusal → Refuses one [] texts file refusal)
    → FailsToPass first second status → seen.written_after ≡ seen.written → Judges one texts seen status
fails_judged one texts first second seen Done too fails same = absurd fails
fails_judged one texts first second seen Usage too fails same = absurd fails
fails_judged one texts first second seen (ReadFault file) too fails same = absurd fails
fails_judged one texts first second seen (Refused file refusal) too fails same = (inl (too file refusal fails), same)
fails_judged one texts first second seen NoDesign too fails same = absurd fails
fails_judged one texts first second seen Undecided too fails same = absurd fails
fails_judged one texts first second seen Stopped too fails same = absurd fails
fails_judged one texts first second seen Memory too fails same = inl same
fails_judged one texts first second seen WriteFault too fails same = absurd fails
fails_judged one texts first second seen (ProofRefused condition line) too fails same = absurd fails

-- A command that reads what these files say ends so if the proof in them isn't accepted.
pub proof_judged : (one : Command) (texts : List (List ℕ)) (ty : TypeForm) (file : FileForm) (seen : OutputSeen) (status : Status)
    → ((condition line : ℕ) → IsFirstFault ty file condition line → ProofRefuses one texts condition line)
    → FailsProof ty file status → seen.written_after ≡ seen.written → Judges one texts seen status
proof_judged one texts ty file seen Done refuses fails same = absurd fails
proof_judged one texts ty file seen Usage refuses fails same = absurd fails
proof_judged one texts ty file seen (ReadFault failed) refuses fails same = absurd fails
proof_judged one texts ty file seen (Refused refused refusal) refuses fails same = absurd fails
proof_judged one texts ty file seen NoDesign refuses fails same = absurd fails
proof_judged one texts ty file seen Undecided refuses fails same = absurd fails
proof_judged one texts ty file seen Stopped refuses fails same = absurd fails
proof_judged one texts ty file seen Memory refuses fails same = inl same
proof_judged one texts ty file seen WriteFault refuses fails same = absurd fails
proof_judged one texts ty file seen (ProofRefused condition line) refuses fails same = (refuses condition line fails, same)

-- A command that reads what these files say ends so if it wrote this text only for an accepted proof.
pub ended_judged : (one : Command) (texts : List (List ℕ)) (ty : TypeForm) (file : FileForm) (text : List ℕ) (seen : OutputSeen) (r : Result Checked WorldError)
    → (IsAcceptedFile ty file → EndsSo one texts Done text) → ((condition line : ℕ) → IsFirstFault ty file condition line → ProofRefuses one texts condition line)
    → (IsErrOf r world.WriteFault → Rose seen.faults seen.faults_after) → WritesIfAccepted ty file text seen.written seen.written_after r → Judges one texts seen (ended_status r)
ended_judged one texts ty file text seen (Ok checked.Accepted) ends refuses rose w = (text, ends w.0, w.1)
ended_judged one texts ty file text seen (Ok (checked.Refused condition line)) ends refuses rose w = (refuses condition line w.0, w.1)
ended_judged one texts ty file text seen (Err world.WriteFault) ends refuses rose w = (rose refl, (Done, text, ends w.0, w.1))
ended_judged one texts ty file text seen (Err world.Memory) ends refuses rose (inl same) = inl same
ended_judged one texts ty file text seen (Err world.Memory) ends refuses rose (inr w) = inr (Done, text, ends w.0, w.1)

-- an answer that is exact
pub agree_so : {P : Type 0} (b : Bool) → IsTrue b ↔ P → b ≡ true → P
agree_so b exact is = exact.0 is

pub differ_so : {P : Type 0} (b : Bool) → IsTrue b ↔ P → b ≡ false → P → ⊥
differ_so b exact is p = false≢true (sym is ∙ exact.1 p)

-- a file is refused in one way, and never if it passes
same_file : (first text : List ℕ) (ty ty' : TypeForm) (file file' : FileForm) → IsFileFor first text ty file → IsTypeFile first ty' → IsFileText text file'
    → signature_of ty' ≡ file'.design.sig
same_file first text ty ty' file file' is says is' =
    ap signature_of (one_type first ty' ty says is.says) ∙ is.agree ∙ ap (λ (f : FileForm). f.design.sig) (files.one_file text file file' is.is_file is')

pub behind_apart : (first text : List ℕ) (refusal : Refusal) (ty : TypeForm) (file : FileForm) → IsFileFor first text ty file → IsRefusedBehind first text refusal → ⊥
behind_apart first text refusal ty file is (unread error refused e) = files.never_both text file error is.is_file refused
behind_apart first text refusal ty file is (differs ty' file' says is' apart e) = apart (same_file first text ty ty' file file' is says is')

pub check_apart : (earlier : List (List ℕ)) (text : List ℕ) (refusal : Refusal) → Passes earlier text → IsRefusedAs earlier text refusal → ⊥
check_apart [] text refusal p q = type_or_refused text p.0 q.0 p.1 q.1
check_apart (first ∷ earlier) text refusal p q = behind_apart first text refusal p.0 p.1 p.2 q

behind_once : (first text : List ℕ) (some other : Refusal) → IsRefusedBehind first text some → IsRefusedBehind first text other → some ≡ other
behind_once first text some other (unread a p e) (unread b q e') = e ∙ ap design_refusal (files.one_refusal text a b p q) ∙ sym e'
behind_once first text some other (unread a p e) (differs ty file says is apart e') = absurd (files.never_both text file a is p)
behind_once first text some other (differs ty file says is apart e) (unread b q e') = absurd (files.never_both text file b is q)
behind_once first text some other (differs ty file says is apart e) (differs ty' file' says' is' apart' e') = e ∙ sym e'

pub check_once : (earlier : List (List ℕ)) (text : List ℕ) (some other : Refusal) → IsRefusedAs earlier text some → IsRefusedAs earlier text other → some ≡ other
check_once [] text some other a b = a.2 ∙ ap type_refusal (one_refusal text a.0 b.0 a.1 b.1) ∙ sym b.2
check_once (first ∷ earlier) text some other a b = behind_once first text some other a b

pub check_good : (texts : List (List ℕ)) (inputs : Inputs) (file : ℕ) (refusal : Refusal) → Accepts texts inputs → Refuses command.Check [] texts file refusal → ⊥
check_good [] inputs file refusal a q = absurd a
check_good (t ∷ []) inputs file refusal a q = absurd a
check_good (t ∷ d ∷ []) inputs zero refusal a q = type_or_refused t inputs.ty q.0 a.says q.1
check_good (t ∷ d ∷ []) inputs (suc zero) refusal a q = behind_apart t d refusal inputs.ty inputs.file a q.1
check_good (t ∷ d ∷ []) inputs (suc (suc file)) refusal a q = q.1.1
check_good (t ∷ d ∷ u ∷ texts) inputs file refusal a q = absurd a

-- each file is judged
abbrev AreJudged : List (List ℕ) → Type 0
AreJudged texts = ((inputs : Inputs) × Accepts texts inputs) ⊎ ((file : ℕ) × (refusal : Refusal) × Refuses command.Check [] texts file refusal)

check_third : (first text : List ℕ) (ty : TypeForm) (file : FileForm) → IsTypeFile first ty → IsFileText text file → (signature_of ty ≡ file.design.sig) ⊎ (signature_of ty ≡ file.design.sig → ⊥)
    → AreJudged (first ∷ text ∷ [])
check_third first text ty file says is (inl same) = inl (record { ty = ty; file = file }, record { says = says; is_file = is; agree = same })
check_third first text ty file says is (inr apart) = inr (1, other_signature, ((ty, says), differs ty file says is apart refl))

check_second : (first text : List ℕ) (ty : TypeForm) → IsTypeFile first ty → ((f : FileForm) × IsFileText text f) ⊎ ((error : WireError) × IsRefusal text error)
    → AreJudged (first ∷ text ∷ [])
check_second first text ty says (inl h) = check_third first text ty h.0 says h.1 (signatures_apart (signature_of ty) h.0.design.sig)
check_second first text ty says (inr h) = inr (1, design_refusal h.0, ((ty, says), unread h.0 h.1 refl))

check_first : (first text : List ℕ) → ((ty : TypeForm) × IsTypeFile first ty) ⊎ ((error : TypeError) × IsRefusedFile first error) → AreJudged (first ∷ text ∷ [])
check_first first text (inl h) = check_second first text h.0 h.1 (files.every_text text)
check_first first text (inr h) = inr (0, type_refusal h.0, (h.0, h.1, refl))

pub check_total : (texts : List (List ℕ)) → has_files command.Check (length texts) ≡ true → AreJudged texts
check_total [] fits = absurd (false≢true fits)
check_total (t ∷ []) fits = absurd (false≢true fits)
check_total (t ∷ d ∷ []) fits = check_first t d (every_type_file t)
check_total (t ∷ d ∷ u ∷ texts) fits = absurd (omega (arith, eqb-true (length (t ∷ d ∷ u ∷ texts)) 2 fits))

-- the files say one thing
pub same_inputs : (texts : List (List ℕ)) (some other : Inputs) → Accepts texts some → Accepts texts other → some ≡ other
same_inputs [] some other a b = absurd a
same_inputs (t ∷ []) some other a b = absurd a
same_inputs (t ∷ d ∷ []) some other a b =
    λ i. record { ty = one_type t some.ty other.ty a.says b.says i; file = files.one_file d some.file other.file a.is_file b.is_file i }
same_inputs (t ∷ d ∷ u ∷ texts) some other a b = absurd a

-- a proof has one first fault, and none if it is accepted
pub check_fault_once : (texts : List (List ℕ)) (some other : Inputs) (condition line condition' line' : ℕ) → Accepts texts some → Accepts texts other
    → ProofFails some condition line → ProofFails other condition' line' → (condition ≡ condition') × (line ≡ line')
check_fault_once texts some other condition line condition' line' a b p q =
    let q' = subst (λ (inputs : Inputs). ProofFails inputs condition' line') (same_inputs texts other some b a) q in
    (one_condition some.ty some.file condition line condition' line' p q', one_line some.ty some.file condition line condition' line' p q')

pub check_fault_apart : (texts : List (List ℕ)) (some other : Inputs) (condition line : ℕ) (status : Status) (text : List ℕ) → Accepts texts some → Accepts texts other
    → ProofFails some condition line → Ends other status text → ⊥
check_fault_apart texts some other condition line status text a b p e =
    let e' = subst (λ (inputs : Inputs). Ends inputs status text) (same_inputs texts other some b a) e in
    accepted_without some.ty some.file condition line e'.0 p

check_ended_by : (inputs : Inputs) → IsAcceptedFile inputs.ty inputs.file ⊎ ((condition : ℕ) × (line : ℕ) × IsFirstFault inputs.ty inputs.file condition line)
    → ((status : Status) × (text : List ℕ) × IsEnd status × Ends inputs status text)
    ⊎ ((file : ℕ) × (refusal : Refusal) × ⊥)
    ⊎ ((condition : ℕ) × (line : ℕ) × ProofFails inputs condition line)
check_ended_by inputs (inl accepted) = inl (Done, output, tt, (accepted, refl, refl))
check_ended_by inputs (inr fault) = inr (inr fault)

pub check_ended : (inputs : Inputs)
    → ((status : Status) × (text : List ℕ) × IsEnd status × Ends inputs status text)
    ⊎ ((file : ℕ) × (refusal : Refusal) × ⊥)
    ⊎ ((condition : ℕ) × (line : ℕ) × ProofFails inputs condition line)
check_ended inputs = check_ended_by inputs (file_judged inputs.ty inputs.file)
