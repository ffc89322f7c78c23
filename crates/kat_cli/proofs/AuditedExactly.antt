-- What a call of `audit` says of a report of a search.
use Rattle.std.proofs.Common.{◌≡◌, ℕ, ◌≤◌, ◌⊎◌, inl, inr, List, [], ◌∷◌, length, map, refl, sym, ◌∙◌, ap, subst, Option, Some}
use Rattle.kat_audit.specs.Audits.{IsAudited}
use Rattle.kat_hist.specs.Words.{HasWords}
use Rattle.kat_search_laws.specs.Reports.{IsNarrowReport, IsShownReport, ReportsAreConfirmed, ReportsHaveNoFault}
use Rattle.kat_said.specs.declared.judging.Audit.{Audit}
use Rattle.kat_said.specs.declared.judging.Audit.TheVariants as audit
use Rattle.kat_type_file.specs.TypeFiles.{IsTypeFile}
use Rattle.kat_type_file.proofs.Judgements.{one_type}
use Rattle.kat_type.specs.Signatures.{signature_of}
use Rattle.kat_type.specs.Types.{TypeForm}
use Rattle.kat_words.specs.declared.options.SynthOptions.{SynthOptions}
use Rattle.kat_words.specs.declared.words.Command.TheVariants as command
use Rattle.kat_cli.specs.AuditCommand.{Inputs, IsRefusedLate, IsUnshown, bounds, output}
use Rattle.kat_cli.specs.Commands.{Accepts}
use Rattle.kat_cli.specs.Outcome.{AreRead, EndsSo, FirstRefusal, IfRead, Refuses, Verdict, judged, late, long}
use Rattle.kat_cli.specs.Refusals.{report_refusal}
use Rattle.kat_cli.specs.SynthCommand as synth
use Rattle.kat_cli.specs.declared.reading.TheConstants.{FILE_LIMIT}
use Rattle.kat_cli.specs.declared.status.Refusal.{Refusal}
use Rattle.kat_cli.specs.declared.status.Status.{Status}
use Rattle.kat_cli.specs.declared.status.Status.TheVariants.{Done, Usage, ReadFault, Refused, NoDesign, Undecided, Stopped, Memory, WriteFault, ProofRefused}
use Rattle.kat_cli.proofs.AuditedReports.{audit_good}
use Rattle.kat_cli.proofs.Once.{judging, not_both, short_all, told_read}

-- type files name operations and queries by words
abbrev pub HaveWords : Type 0
HaveWords = (text : List ℕ) (ty : TypeForm) → IsTypeFile text ty → HasWords (signature_of ty)

both_read : (first report : List ℕ) → length first ≤ FILE_LIMIT → length report ≤ FILE_LIMIT → AreRead (map Some (first ∷ report ∷ [])) (first ∷ report ∷ [])
both_read first report few small = (record { tells = refl; short = few }, (record { tells = refl; short = small }, tt))

-- it ends by itself as `Done` alone
done_alone : (options : SynthOptions) (told : List (Option (List ℕ))) (status : Status) → IfRead told (λ bytes. (text : List ℕ) × EndsSo (command.Audit options) bytes status text) → status ≡ Done
done_alone options told status e = e.2.1.ends.done

ended_or_refused : (options : SynthOptions) (texts : List (List ℕ)) (status : Status) → Verdict (command.Audit options) texts status
    → (status ≡ Done) ⊎ (status ≡ Memory) ⊎ ((file : ℕ) × (refusal : Refusal) × (status ≡ Refused file refusal) × FirstRefusal (command.Audit options) (map Some texts) file refusal)
ended_or_refused options texts Done v = inl refl
ended_or_refused options texts Usage v = absurd v
ended_or_refused options texts (ReadFault file) v = absurd v
ended_or_refused options texts (Refused file refusal) v = inr (inr (file, refusal, refl, v))
ended_or_refused options texts NoDesign v = inl (done_alone options (map Some texts) NoDesign v)
ended_or_refused options texts Undecided v = inl (done_alone options (map Some texts) Undecided v)
ended_or_refused options texts Stopped v = inl (done_alone options (map Some texts) Stopped v)
ended_or_refused options texts Memory v = inr (inl refl)
ended_or_refused options texts WriteFault v = absurd v
ended_or_refused options texts (ProofRefused condition line) v = absurd v.2.fails

-- a report that hides nothing is confirmed
shown_ends : HaveWords → ReportsAreConfirmed → (options : SynthOptions) (first report : List ℕ) (ty : TypeForm) → IsTypeFile first ty → IsShownReport ty (synth.bounds options) report → EndsSo (command.Audit options) (first ∷ report ∷ []) Done output
shown_ends words back options first report ty is shown = record {
  inputs = record { ty = ty; report = report };
  accepted = (is, refl);
  ends = record { confirmed = back ty (bounds options) report (words first ty is) shown; report = shown; done = refl; written = refl };
}

pub shown_called : HaveWords → ReportsAreConfirmed → (options : SynthOptions) (first report : List ℕ) (ty : TypeForm) (status : Status) → IsTypeFile first ty → length first ≤ FILE_LIMIT → length report ≤ FILE_LIMIT
    → IsShownReport ty (synth.bounds options) report → Verdict (command.Audit options) (first ∷ report ∷ []) status → (status ≡ Done) ⊎ (status ≡ Memory)
shown_called words back options first report ty status is few small shown v = by_end (ended_or_refused options (first ∷ report ∷ []) status v)
  where
    by_end : (status ≡ Done) ⊎ (status ≡ Memory) ⊎ ((file : ℕ) × (refusal : Refusal) × (status ≡ Refused file refusal) × FirstRefusal (command.Audit options) (map Some (first ∷ report ∷ [])) file refusal)
        → (status ≡ Done) ⊎ (status ≡ Memory)
    by_end (inl done) = inl done
    by_end (inr (inl want)) = inr want
    by_end (inr (inr r)) =
        absurd (not_both (command.Audit options) (judging (command.Audit options)) (first ∷ report ∷ []) r.0 r.1 Done output r.3 (first ∷ report ∷ [], both_read first report few small, shown_ends words back options first report ty is shown))

-- a report of the search is confirmed, or its evidence isn't shown
by_verdict : (options : SynthOptions) (ty : TypeForm) (report : List ℕ) (v : Audit) (refusal : Refusal) → ((line : ℕ) → IsAudited ty (bounds options) report (audit.Bad line) → ⊥) → IsAudited ty (bounds options) report v
    → report_refusal v ≡ Some refusal → IsUnshown refusal
by_verdict options ty report audit.Confirmed refusal none is e = absurd (cc)
by_verdict options ty report (audit.Bad line) refusal none is e = absurd (none line is)
by_verdict options ty report (audit.NotShown line) refusal none is e = (line, inl e)
by_verdict options ty report (audit.WidePoint line) refusal none is e = (line, inr e)

verdict_unshown : HaveWords → ReportsHaveNoFault → (options : SynthOptions) (first report : List ℕ) (ty : TypeForm) (inputs : Inputs) (file : ℕ) (refusal : Refusal) → IsTypeFile first ty → IsNarrowReport ty (synth.bounds options) report
    → IsTypeFile first inputs.ty × (inputs.report ≡ report) → IsRefusedLate options inputs file refusal → IsUnshown refusal
verdict_unshown words none options first report ty inputs file refusal is narrow accepted so =
    let P : TypeForm → Type 0 = λ t. IsAudited t (bounds options) inputs.report so.verdict in
    let R : List ℕ → Type 0 = λ bytes. IsAudited ty (bounds options) bytes so.verdict in
    by_verdict options ty report so.verdict refusal (λ line. none ty (bounds options) report line (words first ty is) narrow)
    (subst R accepted.1 (subst P (one_type first inputs.ty ty accepted.0 is) so.says)) so.refused

unshown : HaveWords → ReportsHaveNoFault → (options : SynthOptions) (first report : List ℕ) (ty : TypeForm) (file : ℕ) (refusal : Refusal) → IsTypeFile first ty → length first ≤ FILE_LIMIT → length report ≤ FILE_LIMIT → IsNarrowReport ty (synth.bounds options) report
    → FirstRefusal (command.Audit options) (map Some (first ∷ report ∷ [])) file refusal → (file ≡ 1) × IsUnshown refusal
unshown words none options first report ty file refusal is few small narrow (long a e) = absurd (short_all (first ∷ report ∷ []) (first ∷ report ∷ []) file a.within (both_read first report few small) a.long)
unshown words none options first report ty file refusal is few small narrow (judged bytes r h) =
    let P : List (List ℕ) → Type 0 = λ texts. Refuses (command.Audit options) [] texts file refusal in
    absurd (audit_good options (first ∷ report ∷ []) (record { ty = ty; report = report }) file refusal (is, refl) (subst P (sym (told_read (first ∷ report ∷ []) bytes r)) h))
unshown words none options first report ty file refusal is few small narrow (late bytes r h) =
    let P : List (List ℕ) → Type 0 = λ texts. Accepts (command.Audit options) texts h.inputs in
    (h.late_so.second, verdict_unshown words none options first report ty h.inputs file refusal is narrow (subst P (sym (told_read (first ∷ report ∷ []) bytes r)) h.accepted) h.late_so)

pub narrow_called : HaveWords → ReportsHaveNoFault → (options : SynthOptions) (first report : List ℕ) (ty : TypeForm) (status : Status) → IsTypeFile first ty → length first ≤ FILE_LIMIT → length report ≤ FILE_LIMIT
    → IsNarrowReport ty (synth.bounds options) report → Verdict (command.Audit options) (first ∷ report ∷ []) status
    → (status ≡ Done) ⊎ (status ≡ Memory) ⊎ ((refusal : Refusal) × (status ≡ Refused 1 refusal) × IsUnshown refusal)
narrow_called words none options first report ty status is few small narrow v = by_end (ended_or_refused options (first ∷ report ∷ []) status v)
  where
    by_end : (status ≡ Done) ⊎ (status ≡ Memory) ⊎ ((file : ℕ) × (refusal : Refusal) × (status ≡ Refused file refusal) × FirstRefusal (command.Audit options) (map Some (first ∷ report ∷ [])) file refusal)
        → (status ≡ Done) ⊎ (status ≡ Memory) ⊎ ((refusal : Refusal) × (status ≡ Refused 1 refusal) × IsUnshown refusal)
    by_end (inl done) = inl done
    by_end (inr (inl want)) = inr (inl want)
    by_end (inr (inr r)) =
        let u = unshown words none options first report ty r.0 r.1 is few small narrow r.3 in
        inr (inr (r.1, r.2 ∙ ap (λ (file : ℕ). Refused file r.1) u.0, u.1))

-- what `synth` writes if it isn't done is such a report
narrow_of : (options : SynthOptions) (ty : TypeForm) (end : Status) (report : List ℕ) → synth.Ends options ty end report → (end ≡ Done → ⊥) → IsNarrowReport ty (synth.bounds options) report
narrow_of options ty Done report e not_done = absurd (not_done refl)
narrow_of options ty Usage report e not_done = absurd e
narrow_of options ty (ReadFault file) report e not_done = absurd e
narrow_of options ty (Refused file refusal) report e not_done = absurd e
narrow_of options ty NoDesign report e not_done = inl e
narrow_of options ty Undecided report e not_done = inr (inl e)
narrow_of options ty Stopped report e not_done = inr (inr e)
narrow_of options ty Memory report e not_done = absurd e
narrow_of options ty WriteFault report e not_done = absurd e
narrow_of options ty (ProofRefused condition line) report e not_done = absurd e

pub written_called : HaveWords → ReportsHaveNoFault → (options : SynthOptions) (first report : List ℕ) (end status : Status) → IfRead (map Some (first ∷ [])) (λ bytes. EndsSo (command.Synth options) bytes end report)
    → (end ≡ Done → ⊥) → length report ≤ FILE_LIMIT → Verdict (command.Audit options) (first ∷ report ∷ []) status
    → (status ≡ Done) ⊎ (status ≡ Memory) ⊎ ((refusal : Refusal) × (status ≡ Refused 1 refusal) × IsUnshown refusal)
written_called words none options first report end status r not_done small v =
    let same : r.0 ≡ first ∷ [] = sym (told_read (first ∷ []) r.0 r.1) in
    let read : AreRead (map Some (first ∷ [])) (first ∷ []) = subst (λ (bytes : List (List ℕ)). AreRead (map Some (first ∷ [])) bytes) same r.1 in
    let e : EndsSo (command.Synth options) (first ∷ []) end report = subst (λ (bytes : List (List ℕ)). EndsSo (command.Synth options) bytes end report) same r.2 in
    narrow_called words none options first report e.inputs status e.accepted read.0.short small (narrow_of options e.inputs end report e.ends not_done) v
