-- A script after the files of `check`, whatever kind of script: it is refused in one way, and never if it passes; all files are
-- judged; the files say one thing, so a proof has one first fault.
use Rattle.std.proofs.Common.{◌≡◌, ℕ, zero, suc, ◌⊎◌, inl, inr, true, List, [], ◌∷◌, length, refl, sym, ◌∙◌, ap, subst, arith}
use Rattle.std.specs.Prelude.{◌==◌}
use Rattle.std.proofs.lemmas.Bool.{eqb-true, false≢true}
use Rattle.kat_check.specs.Acceptance.{IsAcceptedFile}
use Rattle.kat_check.proofs.Faults.{accepted_without, one_condition, one_line}
use Rattle.kat_type.specs.Types.{TypeForm}
use Rattle.kat_type.specs.declared.signatures.Signature.{Signature}
use Rattle.kat_type_file.proofs.Judgements.{one_type, type_or_refused}
use Rattle.kat_wire.specs.FileForms.{FileForm}
use Rattle.kat_wire.proofs.Judging as files
use Rattle.kat_cli.specs.CheckCommand.{IsFileFor}
use Rattle.kat_cli.specs.CheckCommand as check
use Rattle.kat_cli.specs.Outcome.{Refuses, RefusesBy}
use Rattle.kat_cli.specs.ScriptBehind.{Accepts, Inputs, IsRefusedAs, Passes, ProofFails}
use Rattle.kat_cli.specs.declared.status.Refusal.{Refusal}
use Rattle.kat_words.specs.declared.words.Command.TheVariants as command
use Rattle.kat_cli.proofs.CheckedFiles.{behind_apart, check_apart, check_once, check_total}

-- each text is a script for a signature, or refused, in one way and never both
pub record AreJudgedOnce (Script Error : Type 0) (IsText : Signature → List ℕ → Script → Type 0) (IsRefused : Signature → List ℕ → Error → Type 0) : Type 0 where
  pub one_script : (sig : Signature) (text : List ℕ) (some other : Script) → IsText sig text some → IsText sig text other → some ≡ other
  pub one_refusal : (sig : Signature) (text : List ℕ) (some other : Error) → IsRefused sig text some → IsRefused sig text other → some ≡ other
  pub apart : (sig : Signature) (text : List ℕ) (script : Script) (error : Error) → IsText sig text script → IsRefused sig text error → ⊥
  pub each : (sig : Signature) (text : List ℕ) → ((script : Script) × IsText sig text script) ⊎ ((error : Error) × IsRefused sig text error)

module _ (Script Error : Type 0) (IsText : Signature → List ℕ → Script → Type 0) (IsRefused : Signature → List ℕ → Error → Type 0) (refusal_of : Error → Refusal)
    (laws : AreJudgedOnce Script Error IsText IsRefused) where
  -- the files after which a file passes or is refused
  abbrev Refused : List (List ℕ) → List (List ℕ) → ℕ → Refusal → Type 0
  Refused earlier texts file refusal = RefusesBy (Passes IsText) (IsRefusedAs IsRefused refusal_of) earlier texts file refusal

  -- a file is that of one design, so a script is judged for one signature
  refused_there : (text : List ℕ) (some other : FileForm) (error : Error) → some ≡ other → IsRefused some.design.sig text error → IsRefused other.design.sig text error
  refused_there text some other error e h = subst (λ (f : FileForm). IsRefused f.design.sig text error) e h

  -- a file is refused in one way, and never if it passes
  pub scripts_apart : (earlier : List (List ℕ)) (text : List ℕ) (refusal : Refusal) → Passes IsText earlier text → IsRefusedAs IsRefused refusal_of earlier text refusal → ⊥
  scripts_apart [] text refusal p q = check_apart [] text refusal p q
  scripts_apart (first ∷ []) text refusal p q = check_apart (first ∷ []) text refusal p q
  scripts_apart (first ∷ second ∷ earlier) text refusal p q =
      laws.apart p.0.file.design.sig text p.0.script q.2 p.1.is_script
      (refused_there text q.1 p.0.file q.2 (files.one_file second q.1 p.0.file q.3.is_file p.1.checked.is_file) q.4)

  pub scripts_once : (earlier : List (List ℕ)) (text : List ℕ) (some other : Refusal) → IsRefusedAs IsRefused refusal_of earlier text some → IsRefusedAs IsRefused refusal_of earlier text other → some ≡ other
  scripts_once [] text some other a b = check_once [] text some other a b
  scripts_once (first ∷ []) text some other a b = check_once (first ∷ []) text some other a b
  scripts_once (first ∷ second ∷ earlier) text some other a b =
      a.5 ∙ ap refusal_of (laws.one_refusal a.1.design.sig text a.2 b.2 a.4
      (refused_there text b.1 a.1 b.2 (files.one_file second b.1 a.1 b.3.is_file a.3.is_file) b.4)) ∙ sym b.5

  pub scripts_good : (texts : List (List ℕ)) (inputs : Inputs Script) (file : ℕ) (refusal : Refusal) → Accepts IsText texts inputs → Refused [] texts file refusal → ⊥
  scripts_good [] inputs file refusal a q = absurd a
  scripts_good (t ∷ []) inputs file refusal a q = absurd a
  scripts_good (t ∷ d ∷ []) inputs file refusal a q = absurd a
  scripts_good (t ∷ d ∷ s ∷ []) inputs zero refusal a q = type_or_refused t inputs.ty q.0 a.checked.says q.1
  scripts_good (t ∷ d ∷ s ∷ []) inputs (suc zero) refusal a q = behind_apart t d refusal inputs.ty inputs.file a.checked q.1
  scripts_good (t ∷ d ∷ s ∷ []) inputs (suc (suc zero)) refusal a q = scripts_apart (t ∷ d ∷ []) s refusal (inputs, a) q.1.1
  scripts_good (t ∷ d ∷ s ∷ []) inputs (suc (suc (suc file))) refusal a q = q.1.1.1
  scripts_good (t ∷ d ∷ s ∷ u ∷ texts) inputs file refusal a q = absurd a

  -- what the first two files refuse
  pub refused_too : (t d s : List ℕ) (file : ℕ) (refusal : Refusal) → Refuses command.Check [] (t ∷ d ∷ []) file refusal → Refused [] (t ∷ d ∷ s ∷ []) file refusal
  refused_too t d s zero refusal q = q
  refused_too t d s (suc zero) refusal q = q
  refused_too t d s (suc (suc file)) refusal q = absurd q.1.1

  -- each file is judged
  abbrev AreJudged : List (List ℕ) → Type 0
  AreJudged texts = ((inputs : Inputs Script) × Accepts IsText texts inputs) ⊎ ((file : ℕ) × (refusal : Refusal) × Refused [] texts file refusal)

  third_judged : (t d s : List ℕ) (ty : TypeForm) (file : FileForm) → IsFileFor t d ty file
      → ((script : Script) × IsText file.design.sig s script) ⊎ ((error : Error) × IsRefused file.design.sig s error) → AreJudged (t ∷ d ∷ s ∷ [])
  third_judged t d s ty file is (inl h) = inl (record { ty = ty; file = file; script = h.0 }, record { checked = is; is_script = h.1 })
  third_judged t d s ty file is (inr h) = inr (2, refusal_of h.0, ((ty, is.says), ((ty, file, is), (ty, file, h.0, is, h.1, refl))))

  second_judged : (t d s : List ℕ) → ((inputs : check.Inputs) × check.Accepts (t ∷ d ∷ []) inputs) ⊎ ((file : ℕ) × (refusal : Refusal) × Refuses command.Check [] (t ∷ d ∷ []) file refusal)
      → AreJudged (t ∷ d ∷ s ∷ [])
  second_judged t d s (inl h) = third_judged t d s h.0.ty h.0.file h.1 (laws.each h.0.file.design.sig s)
  second_judged t d s (inr h) = inr (h.0, h.1, refused_too t d s h.0 h.1 h.2)

  pub scripts_total : (texts : List (List ℕ)) → (length texts == 3) ≡ true → AreJudged texts
  scripts_total [] fits = absurd (false≢true fits)
  scripts_total (t ∷ []) fits = absurd (false≢true fits)
  scripts_total (t ∷ d ∷ []) fits = absurd (false≢true fits)
  scripts_total (t ∷ d ∷ s ∷ []) fits = second_judged t d s (check_total (t ∷ d ∷ []) refl)
  scripts_total (t ∷ d ∷ s ∷ u ∷ texts) fits = absurd (omega (arith, eqb-true (length (t ∷ d ∷ s ∷ u ∷ texts)) 3 fits))

  -- the files say one thing
  same_script : (sig sig' : Signature) (text : List ℕ) (some other : Script) → sig' ≡ sig → IsText sig text some → IsText sig' text other → some ≡ other
  same_script sig sig' text some other e a b = laws.one_script sig text some other a (subst (λ (s : Signature). IsText s text other) e b)

  pub same_inputs : (texts : List (List ℕ)) (some other : Inputs Script) → Accepts IsText texts some → Accepts IsText texts other → some ≡ other
  same_inputs [] some other a b = absurd a
  same_inputs (t ∷ []) some other a b = absurd a
  same_inputs (t ∷ d ∷ []) some other a b = absurd a
  same_inputs (t ∷ d ∷ s ∷ []) some other a b =
      let one = files.one_file d some.file other.file a.checked.is_file b.checked.is_file in
      λ i. record {
        ty = one_type t some.ty other.ty a.checked.says b.checked.says i;
        file = one i;
        script = same_script some.file.design.sig other.file.design.sig s some.script other.script (ap (λ (f : FileForm). f.design.sig) (sym one)) a.is_script b.is_script i;
      }
  same_inputs (t ∷ d ∷ s ∷ u ∷ texts) some other a b = absurd a

  -- a proof has one first fault, and none if it is accepted
  pub scripts_fault_once : (texts : List (List ℕ)) (some other : Inputs Script) (condition line condition' line' : ℕ) → Accepts IsText texts some → Accepts IsText texts other
      → ProofFails some condition line → ProofFails other condition' line' → (condition ≡ condition') × (line ≡ line')
  scripts_fault_once texts some other condition line condition' line' a b p q =
      let q' = subst (λ (inputs : Inputs Script). ProofFails inputs condition' line') (same_inputs texts other some b a) q in
      (one_condition some.ty some.file condition line condition' line' p q', one_line some.ty some.file condition line condition' line' p q')

  pub scripts_fault_apart : (texts : List (List ℕ)) (some other : Inputs Script) (condition line : ℕ) → Accepts IsText texts some → Accepts IsText texts other
      → ProofFails some condition line → IsAcceptedFile other.ty other.file → ⊥
  scripts_fault_apart texts some other condition line a b p accepted =
      accepted_without some.ty some.file condition line
      (subst (λ (inputs : Inputs Script). IsAcceptedFile inputs.ty inputs.file) (same_inputs texts other some b a) accepted) p
