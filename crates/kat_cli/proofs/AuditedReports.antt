-- How `audit` is refused, and how it ends.
use Rattle.std.proofs.Common.{◌≡◌, ℕ, zero, suc, ◌⊎◌, inl, inr, true, List, [], ◌∷◌, length, refl, sym, ◌∙◌, ap, subst, arith, Option, Some, None}
use Rattle.std.proofs.lemmas.Bool.{eqb-true, false≢true}
use Rattle.kat_audit.specs.Audits as audits
use Rattle.kat_audit.specs.Audits.{IsAudited}
use Rattle.kat_audit.specs.declared.options.Options.{Options}
use Rattle.kat_search_laws.proofs.Determined.{one_audit}
use Rattle.kat_search_laws.specs.Reports.{ConfirmedAreReports}
use Rattle.kat_said.specs.declared.judging.Audit.{Audit}
use Rattle.kat_said.specs.declared.judging.Audit.TheVariants.{Confirmed}
use Rattle.kat_type_file.specs.TypeFiles.{IsRefusedFile, IsTypeFile, TellsFileRefusal}
use Rattle.kat_type_file.proofs.Judgements.{every_type_file, one_refusal, one_type, type_or_refused}
use Rattle.kat_type.specs.Types.{TypeForm}
use Rattle.kat_type.specs.declared.errors.TypeError.{TypeError}
use Rattle.kat_type.specs.declared.errors.TypeError.TheVariants as type_file
use Rattle.kat_words.specs.Words.{IsSynthInRange}
use Rattle.kat_words.specs.declared.options.SynthOptions.{SynthOptions}
use Rattle.kat_words.specs.declared.words.Command.TheVariants as command
use Rattle.kat_cli.specs.AuditCommand.{Accepts, Ends, Inputs, IsRefusedAs, IsRefusedLate, Passes, Says, bounds, output}
use Rattle.kat_cli.specs.Commands.{has_files}
use Rattle.kat_cli.specs.Ending.{Judges, OutputSeen, Prints}
use Rattle.kat_cli.specs.Outcome.{Refuses}
use Rattle.kat_cli.specs.Refusals.{report_refusal, type_refusal, type_status}
use Rattle.kat_cli.specs.declared.status.Refusal.{Refusal}
use Rattle.kat_cli.specs.declared.status.Status.{Status}
use Rattle.kat_cli.specs.declared.status.Status.TheVariants.{Done, Refused}
use Rattle.kat_cli.proofs.Ending.{prints_judged}

-- the type file alone is judged before both are read
pub audit_apart : (earlier : List (List ℕ)) (text : List ℕ) (refusal : Refusal) → Passes earlier text → IsRefusedAs earlier text refusal → ⊥
audit_apart [] text refusal p q = type_or_refused text p.0 q.0 p.1 q.1
audit_apart (first ∷ earlier) text refusal p q = q

pub audit_once : (earlier : List (List ℕ)) (text : List ℕ) (some other : Refusal) → IsRefusedAs earlier text some → IsRefusedAs earlier text other → some ≡ other
audit_once [] text some other a b = a.2 ∙ ap type_refusal (one_refusal text a.0 b.0 a.1 b.1) ∙ sym b.2
audit_once (first ∷ earlier) text some other a b = absurd a

pub audit_good : (options : SynthOptions) (texts : List (List ℕ)) (inputs : Inputs) (file : ℕ) (refusal : Refusal) → Accepts texts inputs → Refuses (command.Audit options) [] texts file refusal → ⊥
audit_good options [] inputs file refusal a q = a
audit_good options (t ∷ []) inputs file refusal a q = a
audit_good options (t ∷ s ∷ []) inputs zero refusal a q = type_or_refused t inputs.ty q.0 a.0 q.1
audit_good options (t ∷ s ∷ []) inputs (suc zero) refusal a q = q.1
audit_good options (t ∷ s ∷ []) inputs (suc (suc file)) refusal a q = q.1.1
audit_good options (t ∷ s ∷ u ∷ texts) inputs file refusal a q = a

audit_first : (options : SynthOptions) (first report : List ℕ) → ((ty : TypeForm) × IsTypeFile first ty) ⊎ ((error : TypeError) × IsRefusedFile first error)
    → ((inputs : Inputs) × Accepts (first ∷ report ∷ []) inputs) ⊎ ((file : ℕ) × (refusal : Refusal) × Refuses (command.Audit options) [] (first ∷ report ∷ []) file refusal)
audit_first options first report (inl h) = inl (record { ty = h.0; report = report }, (h.1, refl))
audit_first options first report (inr h) = inr (0, type_refusal h.0, (h.0, h.1, refl))

pub audit_total : (options : SynthOptions) (texts : List (List ℕ)) → has_files (command.Audit options) (length texts) ≡ true
    → ((inputs : Inputs) × Accepts texts inputs) ⊎ ((file : ℕ) × (refusal : Refusal) × Refuses (command.Audit options) [] texts file refusal)
audit_total options [] fits = absurd (false≢true fits)
audit_total options (t ∷ []) fits = absurd (false≢true fits)
audit_total options (t ∷ s ∷ []) fits = audit_first options t s (every_type_file t)
audit_total options (t ∷ s ∷ u ∷ texts) fits = absurd (omega (arith, eqb-true (length (t ∷ s ∷ u ∷ texts)) 2 fits))

-- both files say one thing, and a report has one verdict
same_inputs : (texts : List (List ℕ)) (some other : Inputs) → Accepts texts some → Accepts texts other → (some.ty ≡ other.ty) × (some.report ≡ other.report)
same_inputs [] some other a b = absurd a
same_inputs (t ∷ []) some other a b = absurd a
same_inputs (t ∷ s ∷ []) some other a b = (one_type t some.ty other.ty a.0 b.0, a.1 ∙ sym b.1)
same_inputs (t ∷ s ∷ u ∷ texts) some other a b = absurd a

one_verdict : (options : SynthOptions) (texts : List (List ℕ)) (some other : Inputs) (v w : Audit) → Accepts texts some → Accepts texts other → Says options some v → Says options other w → v ≡ w
one_verdict options texts some other v w a b p q =
    let same = same_inputs texts some other a b in
    let P : TypeForm → Type 0 = λ ty. IsAudited ty (bounds options) other.report w in
    let R : List ℕ → Type 0 = λ bytes. IsAudited some.ty (bounds options) bytes w in
    one_audit some.ty (bounds options) some.report v w p (subst R (sym same.1) (subst P (sym same.0) q))

same_refusal : (some other : Refusal) → ◌≡◌ {A = Option Refusal} (Some some) (Some other) → some ≡ other
same_refusal some other e = cc

none_refused : (refusal : Refusal) → ◌≡◌ {A = Option Refusal} None (Some refusal) → ⊥
none_refused refusal e = cc

pub audit_late_once : (options : SynthOptions) (texts : List (List ℕ)) (some other : Inputs) (file file' : ℕ) (refusal refusal' : Refusal) → Accepts texts some → Accepts texts other
    → IsRefusedLate options some file refusal → IsRefusedLate options other file' refusal' → (file ≡ file') × (refusal ≡ refusal')
audit_late_once options texts some other file file' refusal refusal' a b l m =
    let same = one_verdict options texts some other l.verdict m.verdict a b l.says m.says in
    (l.second ∙ sym m.second, same_refusal refusal refusal' (sym l.refused ∙ ap report_refusal same ∙ m.refused))

pub audit_late_apart : (options : SynthOptions) (texts : List (List ℕ)) (some other : Inputs) (file : ℕ) (refusal : Refusal) (status : Status) (text : List ℕ) → Accepts texts some → Accepts texts other
    → IsRefusedLate options some file refusal → Ends options other status text → ⊥
audit_late_apart options texts some other file refusal status text a b l e =
    let same = one_verdict options texts some other l.verdict Confirmed a b l.says e.confirmed in
    none_refused refusal (sym (ap report_refusal same) ∙ l.refused)

-- a type file that isn't read
pub audit_unread : (options : SynthOptions) (text report : List ℕ) (seen : OutputSeen) (error : TypeError) → TellsFileRefusal text error → seen.written_after ≡ seen.written
    → Judges (command.Audit options) (text ∷ report ∷ []) seen (type_status 0 error)
audit_unread options text report seen (type_file.Refused number at) tells same = (inl (type_file.Refused number at, tells, refl), same)
audit_unread options text report seen type_file.Memory tells same = inl same

-- the bounds are in their ranges
pub audit_in_range : (options : SynthOptions) → IsSynthInRange options → audits.AreInRange (bounds options)
audit_in_range options is = record {
  some_size = is.some_size;
  small_size = is.small_size;
  some_effort = is.some_effort;
  small_effort = is.small_effort;
  some_designs = is.some_designs;
  few_designs = is.few_designs;
}

-- what the audit says is said of the options
pub says_so : (options : SynthOptions) (asked : Options) (ty : TypeForm) (report : List ℕ) (found verdict : Audit) → asked ≡ bounds options → IsAudited ty asked report found → found ≡ verdict
    → Says options (record { ty = ty; report = report }) verdict
says_so options asked ty report found verdict same is e =
    subst (λ (o : Options). IsAudited ty o report verdict) same (subst (λ (v : Audit). IsAudited ty asked report v) e is)

pub audit_refused : (options : SynthOptions) (first report : List ℕ) (ty : TypeForm) (seen : OutputSeen) (verdict : Audit) (refusal : Refusal) (status : Status) → IsTypeFile first ty
    → Says options (record { ty = ty; report = report }) verdict → report_refusal verdict ≡ Some refusal → status ≡ Refused 1 refusal → seen.written_after ≡ seen.written
    → Judges (command.Audit options) (first ∷ report ∷ []) seen status
audit_refused options first report ty seen verdict refusal status is says refused so same =
    subst (λ (s : Status). Judges (command.Audit options) (first ∷ report ∷ []) seen s) (sym so)
    (inr (record { inputs = record { ty = ty; report = report }; accepted = (is, refl); late_so = record { verdict = verdict; says = says; second = refl; refused = refused } }), same)

pub audit_confirmed : ConfirmedAreReports → (options : SynthOptions) (first report : List ℕ) (ty : TypeForm) (seen : OutputSeen) (status : Status) → IsTypeFile first ty
    → Says options (record { ty = ty; report = report }) Confirmed → Prints output Done seen status → Judges (command.Audit options) (first ∷ report ∷ []) seen status
audit_confirmed only options first report ty seen status is says prints =
    prints_judged (command.Audit options) (first ∷ report ∷ []) output Done status seen tt
    (record { inputs = record { ty = ty; report = report }; accepted = (is, refl); ends = record { confirmed = says; report = only ty (bounds options) report says; done = refl; written = refl } }) prints
