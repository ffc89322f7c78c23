-- How `migrate` is refused, and how it ends.
use Rattle.std.proofs.Common.{◌≡◌, ℕ, zero, suc, ◌<◌, ◌≤◌, ◌⊎◌, inl, inr, Bool, true, false, List, [], ◌∷◌, ◌++◌, length, refl, sym, ◌∙◌, subst, ltb, arith}
use Rattle.std.proofs.lemmas.Bool.{ltb-false, ltb-true}
use Rattle.kat_check.specs.Acceptance.{IsAcceptedFile, IsFirstFault}
use Rattle.kat_check.specs.Migration.{migrated_file}
use Rattle.kat_check.proofs.Faults.{accepted_without}
use Rattle.kat_check.proofs.Judged.{file_judged}
use Rattle.kat_wire.specs.FileForms.{FileForm}
use Rattle.kat_wire.specs.Printed.{file_text}
use Rattle.kat_cli.specs.CheckCommand.{Accepts, Inputs, IsFileFor, ProofFails}
use Rattle.kat_cli.specs.Commands.{has_files}
use Rattle.kat_cli.specs.Ending.{Judges, OutputSeen, WritesShort}
use Rattle.kat_cli.specs.MigrateCommand.{Ends, IsRefusedLate, output}
use Rattle.kat_cli.specs.Outcome.{IsEnd, Refuses}
use Rattle.kat_cli.specs.Refusals.{long_result}
use Rattle.kat_cli.specs.declared.reading.TheConstants.{FILE_LIMIT}
use Rattle.kat_cli.specs.declared.status.Refusal.{Refusal}
use Rattle.kat_cli.specs.declared.status.Status.{Status}
use Rattle.kat_cli.specs.declared.status.Status.TheVariants.{Done}
use Rattle.kat_words.specs.declared.words.Command.TheVariants as command
use Rattle.kat_cli.proofs.CheckedFiles.{check_good, check_total, same_inputs}
use Rattle.kat_cli.proofs.Ending.{prints_judged}

-- it refuses the files that `check` refuses
pub refused_too : (earlier texts : List (List ℕ)) (file : ℕ) (refusal : Refusal) → Refuses command.Check earlier texts file refusal → Refuses command.Migrate earlier texts file refusal
refused_too earlier [] file refusal q = absurd q
refused_too earlier (t ∷ texts) zero refusal q = q
refused_too earlier (t ∷ texts) (suc file) refusal q = (q.0, refused_too (earlier ++ t ∷ []) texts file refusal q.1)

refused_by_check : (earlier texts : List (List ℕ)) (file : ℕ) (refusal : Refusal) → Refuses command.Migrate earlier texts file refusal → Refuses command.Check earlier texts file refusal
refused_by_check earlier [] file refusal q = absurd q
refused_by_check earlier (t ∷ texts) zero refusal q = q
refused_by_check earlier (t ∷ texts) (suc file) refusal q = (q.0, refused_by_check (earlier ++ t ∷ []) texts file refusal q.1)

pub migrate_good : (texts : List (List ℕ)) (inputs : Inputs) (file : ℕ) (refusal : Refusal) → Accepts texts inputs → Refuses command.Migrate [] texts file refusal → ⊥
migrate_good texts inputs file refusal a q = check_good texts inputs file refusal a (refused_by_check [] texts file refusal q)

total_by : (texts : List (List ℕ)) → ((inputs : Inputs) × Accepts texts inputs) ⊎ ((file : ℕ) × (refusal : Refusal) × Refuses command.Check [] texts file refusal)
    → ((inputs : Inputs) × Accepts texts inputs) ⊎ ((file : ℕ) × (refusal : Refusal) × Refuses command.Migrate [] texts file refusal)
total_by texts (inl h) = inl h
total_by texts (inr h) = inr (h.0, h.1, refused_too [] texts h.0 h.1 h.2)

pub migrate_total : (texts : List (List ℕ)) → has_files command.Migrate (length texts) ≡ true
    → ((inputs : Inputs) × Accepts texts inputs) ⊎ ((file : ℕ) × (refusal : Refusal) × Refuses command.Migrate [] texts file refusal)
migrate_total texts fits = total_by texts (check_total texts fits)

-- what is too long is one refusal, and neither short nor without a proof
pub migrate_late_once : (texts : List (List ℕ)) (some other : Inputs) (file file' : ℕ) (refusal refusal' : Refusal) → Accepts texts some → Accepts texts other
    → IsRefusedLate some file refusal → IsRefusedLate other file' refusal' → (file ≡ file') × (refusal ≡ refusal')
migrate_late_once texts some other file file' refusal refusal' a b l m = (l.second ∙ sym m.second, l.refused ∙ sym m.refused)

short_long : (n : ℕ) → n ≤ FILE_LIMIT → FILE_LIMIT < n → ⊥
short_long n short long = omega (arith, short, long)

pub migrate_late_apart : (texts : List (List ℕ)) (some other : Inputs) (file : ℕ) (refusal : Refusal) (status : Status) (text : List ℕ) → Accepts texts some → Accepts texts other
    → IsRefusedLate some file refusal → Ends other status text → ⊥
migrate_late_apart texts some other file refusal status text a b l e =
    let e' = subst (λ (inputs : Inputs). Ends inputs status text) (same_inputs texts other some b a) e in
    short_long (length (output some)) e'.short l.long

pub migrate_late_no_proof : (texts : List (List ℕ)) (some other : Inputs) (file : ℕ) (refusal : Refusal) (condition line : ℕ) → Accepts texts some → Accepts texts other
    → IsRefusedLate some file refusal → ProofFails other condition line → ⊥
migrate_late_no_proof texts some other file refusal condition line a b l p =
    let p' = subst (λ (inputs : Inputs). ProofFails inputs condition line) (same_inputs texts other some b a) p in
    accepted_without some.ty some.file condition line l.accepted p'

pub migrate_fault_apart : (texts : List (List ℕ)) (some other : Inputs) (condition line : ℕ) (status : Status) (text : List ℕ) → Accepts texts some → Accepts texts other
    → ProofFails some condition line → Ends other status text → ⊥
migrate_fault_apart texts some other condition line status text a b p e =
    let e' = subst (λ (inputs : Inputs). Ends inputs status text) (same_inputs texts other some b a) e in
    accepted_without some.ty some.file condition line e'.accepted p

-- it ends, or refuses the design file, or its proof
abbrev AreEnded : Inputs → Type 0
AreEnded inputs =
    ((status : Status) × (text : List ℕ) × IsEnd status × Ends inputs status text)
    ⊎ ((file : ℕ) × (refusal : Refusal) × IsRefusedLate inputs file refusal)
    ⊎ ((condition : ℕ) × (line : ℕ) × ProofFails inputs condition line)

short_or_long : (n : ℕ) → (n ≤ FILE_LIMIT) ⊎ (FILE_LIMIT < n)
short_or_long n = go (ltb FILE_LIMIT n) refl
  where
    go : (b : Bool) → ltb FILE_LIMIT n ≡ b → (n ≤ FILE_LIMIT) ⊎ (FILE_LIMIT < n)
    go true is = inr (ltb-true FILE_LIMIT n is)
    go false is = inl (let few = ltb-false FILE_LIMIT n is in omega (arith, few))

ended_by : (inputs : Inputs) → IsAcceptedFile inputs.ty inputs.file → (length (output inputs) ≤ FILE_LIMIT) ⊎ (FILE_LIMIT < length (output inputs)) → AreEnded inputs
ended_by inputs accepted (inl short) = inl (Done, output inputs, tt, record { accepted = accepted; short = short; done = refl; migrated = refl })
ended_by inputs accepted (inr long) = inr (inl (1, long_result, record { accepted = accepted; long = long; second = refl; refused = refl }))

judged_by : (inputs : Inputs) → IsAcceptedFile inputs.ty inputs.file ⊎ ((condition : ℕ) × (line : ℕ) × IsFirstFault inputs.ty inputs.file condition line) → AreEnded inputs
judged_by inputs (inl accepted) = ended_by inputs accepted (short_or_long (length (output inputs)))
judged_by inputs (inr fault) = inr (inr fault)

pub migrate_ended : (inputs : Inputs) → AreEnded inputs
migrate_ended inputs = judged_by inputs (file_judged inputs.ty inputs.file)

-- what it does with the file in version 2
written_by : (first second : List ℕ) (inputs : Inputs) (seen : OutputSeen) (status : Status) → IsFileFor first second inputs.ty inputs.file → IsAcceptedFile inputs.ty inputs.file
    → WritesShort (output inputs) seen status → Judges command.Migrate (first ∷ second ∷ []) seen status
written_by first second inputs seen status is accepted (inl long) =
    subst (λ (s : Status). Judges command.Migrate (first ∷ second ∷ []) seen s) (sym long.1)
    (inr (record { inputs = inputs; accepted = is; late_so = record { accepted = accepted; long = long.0; second = refl; refused = refl } }), long.2)
written_by first second inputs seen status is accepted (inr (inl short)) =
    prints_judged command.Migrate (first ∷ second ∷ []) (output inputs) Done status seen tt
    (record { inputs = inputs; accepted = is; ends = record { accepted = accepted; short = short.0; done = refl; migrated = refl } }) short.1
written_by first second inputs seen status is accepted (inr (inr want)) =
    subst (λ (s : Status). Judges command.Migrate (first ∷ second ∷ []) seen s) (sym want.0) (inl want.1)

pub migrate_judged : (first second : List ℕ) (inputs : Inputs) (file : FileForm) (seen : OutputSeen) (status : Status) → IsFileFor first second inputs.ty inputs.file
    → IsAcceptedFile inputs.ty inputs.file × (file ≡ migrated_file inputs.ty inputs.file)
    → WritesShort (file_text file []) seen status → Judges command.Migrate (first ∷ second ∷ []) seen status
migrate_judged first second inputs file seen status is migrated writes =
    written_by first second inputs seen status is migrated.0 (subst (λ (f : FileForm). WritesShort (file_text f []) seen status) migrated.1 writes)
