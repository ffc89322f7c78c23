-- What a search that ends says of the type, and of its file.
use Rattle.std.proofs.Common.{◌≡◌, ℕ, ◌≤◌, ◌⊎◌, ◌↔◌, inl, inr, List, [], ◌∷◌, length, map, Some, refl, sym, subst}
use Rattle.kat_search.specs.Laws.{AreRefuted, HasFew}
use Rattle.kat_search.specs.Verdicts.{IsEmitted}
use Rattle.kat_search.specs.declared.options.Options.{Options}
use Rattle.kat_search.proofs.Refuting.{emitted_listed, none_means, refuted_means}
use Rattle.kat_type_file.specs.TypeFiles.{IsTypeFile}
use Rattle.kat_type.specs.Types.{TypeForm}
use Rattle.kat_type_file.proofs.Judgements.{one_type}
use Rattle.kat_words.specs.declared.options.SynthOptions.{SynthOptions}
use Rattle.kat_words.specs.declared.words.Command.TheVariants as command
use Rattle.kat_cli.specs.CheckCommand.{IsFileFor, output}
use Rattle.kat_cli.specs.Outcome.{AreRead, EndsSo, FirstRefusal, IfRead, IsRead, Verdict}
use Rattle.kat_cli.specs.SynthCommand.{Ends, bounds}
use Rattle.kat_cli.specs.declared.reading.TheConstants.{FILE_LIMIT}
use Rattle.kat_cli.specs.declared.status.Status.{Status}
use Rattle.kat_cli.specs.declared.status.Status.TheVariants.{Done, Usage, ReadFault, Refused, NoDesign, Undecided, Stopped, Memory, WriteFault, ProofRefused}
use Rattle.kat_cli.proofs.Once.{accepted_passes, faulty_apart, judging, not_both, told_read}

-- the file of an emitted design goes with the type
file_for : (first text : List ℕ) (ty : TypeForm) (asked : Options) (number : ℕ) → IsTypeFile first ty → (found : IsEmitted ty asked number text) → IsFileFor first text ty found.file
file_for first text ty asked number is found = record {
  says = is;
  is_file = found.read_again;
  agree = sym (emitted_listed ty asked number text found).rules.signature;
}

found_short : (options : SynthOptions) (first text : List ℕ) → EndsSo (command.Synth options) (first ∷ []) Done text → IsRead (Some text) text
found_short options first text e = record { tells = refl; short = e.ends.1.short }

pub found_accepted : (options : SynthOptions) (first text : List ℕ) → EndsSo (command.Synth options) (first ∷ []) Done text
    → IsRead (Some text) text × EndsSo command.Check (first ∷ text ∷ []) Done output
found_accepted options first text e = (
  found_short options first text e,
  record {
    inputs = record { ty = e.inputs; file = e.ends.1.file };
    accepted = file_for first text e.inputs (bounds options) e.ends.0 e.accepted e.ends.1;
    ends = (e.ends.1.accepted, refl, refl);
  },
)

-- if its type file is read, so is the file that is written
both_read : (options : SynthOptions) (first text : List ℕ) → IfRead (map Some (first ∷ [])) (λ bytes. EndsSo (command.Synth options) bytes Done text)
    → IfRead (map Some (first ∷ text ∷ [])) (λ bytes. EndsSo command.Check bytes Done output)
both_read options first text r =
    let same : r.0 ≡ first ∷ [] = sym (told_read (first ∷ []) r.0 r.1) in
    let read : AreRead (map Some (first ∷ [])) (first ∷ []) = subst (λ (bytes : List (List ℕ)). AreRead (map Some (first ∷ [])) bytes) same r.1 in
    let found = found_accepted options first text (subst (λ (bytes : List (List ℕ)). EndsSo (command.Synth options) bytes Done text) same r.2) in
    (first ∷ text ∷ [], (read.0, (found.0, tt)), found.1)

-- so `check` ends well, unless memory runs out
pub checked_so : (first text : List ℕ) (status : Status) → IfRead (map Some (first ∷ text ∷ [])) (λ bytes. EndsSo command.Check bytes Done output)
    → Verdict command.Check (first ∷ text ∷ []) status → (status ≡ Done) ⊎ (status ≡ Memory)
checked_so first text Done r v = inl refl
checked_so first text Usage r v = absurd v
checked_so first text (ReadFault file) r v = absurd v
checked_so first text (Refused file refusal) r v = absurd (not_both command.Check (judging command.Check) (first ∷ text ∷ []) file refusal Done output v r)
checked_so first text NoDesign r v = inl v.2.1.ends.1
checked_so first text Undecided r v = inl v.2.1.ends.1
checked_so first text Stopped r v = inl v.2.1.ends.1
checked_so first text Memory r v = inr refl
checked_so first text WriteFault r v = absurd v
checked_so first text (ProofRefused condition line) r v = absurd (faulty_apart command.Check (judging command.Check) (first ∷ text ∷ []) condition line Done output v r)

pub found_checked : (options : SynthOptions) (first text : List ℕ) (status : Status) → IfRead (map Some (first ∷ [])) (λ bytes. EndsSo (command.Synth options) bytes Done text)
    → Verdict command.Check (first ∷ text ∷ []) status → (status ≡ Done) ⊎ (status ≡ Memory)
found_checked options first text status r v = checked_so first text status (both_read options first text r) v

-- the listing is small enough, and each of its designs is refuted
abbrev HaveNone : SynthOptions → TypeForm → Type 0
HaveNone options ty = HasFew ty (bounds options) × AreRefuted ty (bounds options)

none_only : (options : SynthOptions) (ty : TypeForm) (status : Status) (text : List ℕ) → Ends options ty status text → status ≡ NoDesign → HaveNone options ty
none_only options ty status text e is = none_means ty (bounds options) text (subst (λ (s : Status). Ends options ty s text) is e).0

none_where : (options : SynthOptions) (ty : TypeForm) (status : Status) (text : List ℕ) → Ends options ty status text → HaveNone options ty → status ≡ NoDesign
none_where options ty Done text e h = absurd ((refuted_means ty (bounds options) h.0 h.1).proved e.0 text e.1)
none_where options ty Usage text e h = absurd e
none_where options ty (ReadFault file) text e h = absurd e
none_where options ty (Refused file refusal) text e h = absurd e
none_where options ty NoDesign text e h = refl
none_where options ty Undecided text e h = absurd ((refuted_means ty (bounds options) h.0 h.1).left text e.0)
none_where options ty Stopped text e h = absurd ((refuted_means ty (bounds options) h.0 h.1).behind text e.0)
none_where options ty Memory text e h = absurd e
none_where options ty WriteFault text e h = absurd e
none_where options ty (ProofRefused condition line) text e h = absurd e

-- the same of a text that says the type
ends_of : (options : SynthOptions) (first text : List ℕ) (ty : TypeForm) (status : Status) → IsTypeFile first ty → EndsSo (command.Synth options) (first ∷ []) status text → Ends options ty status text
ends_of options first text ty status is e = subst (λ (t : TypeForm). Ends options t status text) (one_type first e.inputs ty e.accepted is) e.ends

pub none_exactly : (options : SynthOptions) (first text : List ℕ) (ty : TypeForm) (status : Status) → IsTypeFile first ty → EndsSo (command.Synth options) (first ∷ []) status text
    → (status ≡ NoDesign) ↔ (HasFew ty (bounds options) × AreRefuted ty (bounds options))
none_exactly options first text ty status is e =
    (none_only options ty status text (ends_of options first text ty status is e), none_where options ty status text (ends_of options first text ty status is e))

-- the same of a call, which may want memory
abbrev Ended : SynthOptions → List ℕ → Status → Type 0
Ended options first status = IfRead (map Some (first ∷ [])) (λ bytes. (text : List ℕ) × EndsSo (command.Synth options) bytes status text)

ended_of : (options : SynthOptions) (first : List ℕ) (ty : TypeForm) (status : Status) → IsTypeFile first ty → (e : Ended options first status) → Ends options ty status e.2.0
ended_of options first ty status is e =
    ends_of options first e.2.0 ty status is
    (subst (λ (bytes : List (List ℕ)). EndsSo (command.Synth options) bytes status e.2.0) (sym (told_read (first ∷ []) e.0 e.1)) e.2.1)

ended_where : (options : SynthOptions) (first : List ℕ) (ty : TypeForm) (status : Status) → IsTypeFile first ty → HaveNone options ty → Ended options first status → (status ≡ NoDesign) ⊎ (status ≡ Memory)
ended_where options first ty status is h e = inl (none_where options ty status e.2.0 (ended_of options first ty status is e) h)

refused_not : (options : SynthOptions) (first : List ℕ) (ty : TypeForm) (file : ℕ) → IsTypeFile first ty → length first ≤ FILE_LIMIT
    → (refusal : _) → FirstRefusal (command.Synth options) (map Some (first ∷ [])) file refusal → ⊥
refused_not options first ty file is short refusal =
    accepted_passes (command.Synth options) (judging (command.Synth options)) (first ∷ []) (first ∷ []) ty file refusal (record { tells = refl; short = short }, tt) is
    (λ inputs late. late)

pub none_called : (options : SynthOptions) (first : List ℕ) (ty : TypeForm) (status : Status) → IsTypeFile first ty → length first ≤ FILE_LIMIT
    → HasFew ty (bounds options) × AreRefuted ty (bounds options) → Verdict (command.Synth options) (first ∷ []) status → (status ≡ NoDesign) ⊎ (status ≡ Memory)
none_called options first ty Done is short h v = ended_where options first ty Done is h v
none_called options first ty Usage is short h v = absurd v
none_called options first ty (ReadFault file) is short h v = absurd v
none_called options first ty (Refused file refusal) is short h v = absurd (refused_not options first ty file is short refusal v)
none_called options first ty NoDesign is short h v = inl refl
none_called options first ty Undecided is short h v = ended_where options first ty Undecided is h v
none_called options first ty Stopped is short h v = ended_where options first ty Stopped is h v
none_called options first ty Memory is short h v = inr refl
none_called options first ty WriteFault is short h v = absurd v
none_called options first ty (ProofRefused condition line) is short h v = absurd v.2.fails
