-- How `node-new` is refused, and how it ends; and a design file that isn't read, as the first file of a command.
use Rattle.std.proofs.Common.{◌≡◌, ℕ, zero, suc, ◌⊎◌, inl, inr, true, List, [], ◌∷◌, length, refl, sym, ◌∙◌, ap, arith}
use Rattle.std.specs.Prelude.{◌==◌}
use Rattle.std.proofs.lemmas.Bool.{eqb-true, false≢true}
use Rattle.kat_json.specs.declared.errors.WireError.{WireError}
use Rattle.kat_json.specs.declared.errors.WireError.TheVariants as design
use Rattle.kat_wire.specs.FileForms.{FileForm}
use Rattle.kat_wire.specs.Files.{IsFileRefusal, IsFileText}
use Rattle.kat_wire.specs.Judgements.{IsRefusal}
use Rattle.kat_wire.proofs.Judging as files
use Rattle.kat_words.specs.declared.options.NodeOptions.{NodeOptions}
use Rattle.kat_words.specs.declared.words.Command.TheVariants as command
use Rattle.kat_cli.specs.Ending.{Judges, OutputSeen}
use Rattle.kat_cli.specs.NodeNewCommand.{Accepts, IsRefusedAs, Passes}
use Rattle.kat_cli.specs.Outcome.{Refuses}
use Rattle.kat_cli.specs.Refusals.{design_refusal, design_status}
use Rattle.kat_cli.specs.declared.status.Refusal.{Refusal}

pub new_apart : (earlier : List (List ℕ)) (text : List ℕ) (refusal : Refusal) → Passes earlier text → IsRefusedAs earlier text refusal → ⊥
new_apart [] text refusal p q = files.never_both text p.0 q.0 p.1 q.1
new_apart (first ∷ earlier) text refusal p q = p

pub new_once : (earlier : List (List ℕ)) (text : List ℕ) (some other : Refusal) → IsRefusedAs earlier text some → IsRefusedAs earlier text other → some ≡ other
new_once [] text some other a b = a.2 ∙ ap design_refusal (files.one_refusal text a.0 b.0 a.1 b.1) ∙ sym b.2
new_once (first ∷ earlier) text some other a b = absurd a

pub new_good : (options : NodeOptions) (texts : List (List ℕ)) (f : FileForm) (file : ℕ) (refusal : Refusal) → Accepts texts f → Refuses (command.NodeNew options) [] texts file refusal → ⊥
new_good options [] f file refusal a q = absurd a
new_good options (d ∷ []) f zero refusal a q = files.never_both d f q.0 a q.1
new_good options (d ∷ []) f (suc file) refusal a q = q.1
new_good options (d ∷ s ∷ texts) f file refusal a q = absurd a

new_first : (options : NodeOptions) (d : List ℕ) → ((f : FileForm) × IsFileText d f) ⊎ ((error : WireError) × IsRefusal d error)
    → ((f : FileForm) × Accepts (d ∷ []) f) ⊎ ((file : ℕ) × (refusal : Refusal) × Refuses (command.NodeNew options) [] (d ∷ []) file refusal)
new_first options d (inl h) = inl h
new_first options d (inr h) = inr (0, design_refusal h.0, (h.0, h.1, refl))

pub new_total : (options : NodeOptions) (texts : List (List ℕ)) → (length texts == 1) ≡ true
    → ((f : FileForm) × Accepts texts f) ⊎ ((file : ℕ) × (refusal : Refusal) × Refuses (command.NodeNew options) [] texts file refusal)
new_total options [] fits = absurd (false≢true fits)
new_total options (d ∷ []) fits = new_first options d (files.every_text d)
new_total options (d ∷ s ∷ texts) fits = absurd (omega (arith, eqb-true (length (d ∷ s ∷ texts)) 1 fits))

-- a design file that isn't read
pub new_refused : (options : NodeOptions) (text : List ℕ) (seen : OutputSeen) (error : WireError) → IsFileRefusal text error → seen.written_after ≡ seen.written
    → Judges (command.NodeNew options) (text ∷ []) seen (design_status 0 error)
new_refused options text seen (design.BadDesign place) tells same = (inl (design.BadDesign place, record { refused = tells; told = λ e. absurd (cc) }, refl), same)
new_refused options text seen design.Json tells same = (inl (design.Json, record { refused = tells; told = λ e. absurd (cc) }, refl), same)
new_refused options text seen (design.Form place) tells same = (inl (design.Form place, record { refused = tells; told = λ e. absurd (cc) }, refl), same)
new_refused options text seen design.Version tells same = (inl (design.Version, record { refused = tells; told = λ e. absurd (cc) }, refl), same)
new_refused options text seen design.Memory tells same = inl same

pub step_design_refused : (text : List ℕ) (others : List (List ℕ)) (seen : OutputSeen) (error : WireError) → IsFileRefusal text error → seen.written_after ≡ seen.written
    → Judges command.NodeStep (text ∷ others) seen (design_status 0 error)
step_design_refused text others seen (design.BadDesign place) tells same = (inl (design.BadDesign place, record { refused = tells; told = λ e. absurd (cc) }, refl), same)
step_design_refused text others seen design.Json tells same = (inl (design.Json, record { refused = tells; told = λ e. absurd (cc) }, refl), same)
step_design_refused text others seen (design.Form place) tells same = (inl (design.Form place, record { refused = tells; told = λ e. absurd (cc) }, refl), same)
step_design_refused text others seen design.Version tells same = (inl (design.Version, record { refused = tells; told = λ e. absurd (cc) }, refl), same)
step_design_refused text others seen design.Memory tells same = inl same
