-- Every text has one judgement.
use Rattle.std.proofs.Common.{◌≡◌, ℕ, ◌⊎◌, inl, inr, List, refl, sym, ◌∙◌, ap, subst, Option, None, Some}
use Rattle.kat_grammar.specs.Files.{IsTextOf}
use Rattle.kat_grammar.specs.Files as grammar
use Rattle.kat_grammar.specs.Forms.{type_form as written_form}
use Rattle.kat_grammar.specs.Forms as written
use Rattle.kat_grammar.specs.declared.errors.GrammarError.{GrammarError}
use Rattle.kat_grammar.specs.declared.phrases.TypeText.{TypeText}
use Rattle.kat_grammar.proofs.Texted.{every_type_text, refusal_once, text_once, text_or_refused}
use Rattle.kat_type.specs.Types.{TypeForm}
use Rattle.kat_type.specs.declared.errors.TypeError.{TypeError}
use Rattle.kat_type.specs.declared.errors.TypeError.TheVariants.{Refused}
use Rattle.kat_type_file.specs.TypeFiles.{IsRefusedFile, IsTypeFile, by_grammar, by_rule, type_error}
use Rattle.kat_type_file.specs.Typing.{first_refusal, type_in}
use Rattle.kat_judging.specs.declared.faults.Fault.{Fault}
use Rattle.kat_type_file.proofs.Depths.{text_as, written_of}
use Rattle.kat_type_file.proofs.Keeping.{keeps_rules, not_refused}
use Rattle.kat_type_file.proofs.Written.{same_refusal, same_type, text_back, text_of}

pub one_type : (text : List ℕ) (some other : TypeForm) → IsTypeFile text some → IsTypeFile text other → some ≡ other
one_type text some other a b =
    a.says ∙ same_type a.phrases b.phrases (text_once text (written_form a.phrases) (written_form b.phrases) (text_as text a.phrases a.is_text) (text_as text b.phrases b.is_text)) ∙ sym b.says

none_some : (fault : Fault) → None ≡ Some fault → ⊥
none_some fault e = cc e

same_fault : (one other : Fault) → Some one ≡ Some other → one ≡ other
same_fault one other e = cc e

abbrev told : Fault → TypeError
told fault = Refused fault.number fault.at

pub one_refusal : (text : List ℕ) (some other : TypeError) → IsRefusedFile text some → IsRefusedFile text other → some ≡ other
one_refusal text some other (by_grammar f r is) (by_grammar g s it) = is ∙ ap type_error (refusal_once text f g r s) ∙ sym it
one_refusal text some other (by_grammar f r is) (by_rule phrases whole fault first it) = absurd (text_or_refused text (written_form phrases) f whole r)
one_refusal text some other (by_rule phrases whole fault first is) (by_grammar g s it) = absurd (text_or_refused text (written_form phrases) g whole s)
one_refusal text some other (by_rule phrases whole fault first is) (by_rule others entire later next it) =
    let same = same_refusal phrases others (text_once text (written_form phrases) (written_form others) whole entire) in
    is ∙ ap told (same_fault fault later (sym first ∙ same ∙ next)) ∙ sym it

pub type_or_refused : (text : List ℕ) (ty : TypeForm) (error : TypeError) → IsTypeFile text ty → IsRefusedFile text error → ⊥
type_or_refused text ty error a (by_grammar f r is) = text_or_refused text (written_form a.phrases) f (text_as text a.phrases a.is_text) r
type_or_refused text ty error a (by_rule phrases whole fault first is) =
    none_some fault (sym (not_refused a.phrases a.keeps) ∙ same_refusal a.phrases phrases (text_once text (written_form a.phrases) (written_form phrases) (text_as text a.phrases a.is_text) whole) ∙ first)

judged : (text : List ℕ) (phrases : TypeText) → IsTextOf text (written_form phrases) → (o : Option Fault) → first_refusal phrases ≡ o
    → ((ty : TypeForm) × IsTypeFile text ty) ⊎ ((error : TypeError) × IsRefusedFile text error)
judged text phrases is None none = inl (type_in phrases, record { phrases = phrases; is_text = written_of text phrases is; keeps = keeps_rules phrases none; says = refl })
judged text phrases is (Some fault) first = inr (told fault, by_rule phrases is fault first refl)

of_text : (text : List ℕ) (t : written.TypeForm) → IsTextOf text t → ((ty : TypeForm) × IsTypeFile text ty) ⊎ ((error : TypeError) × IsRefusedFile text error)
of_text text t is = judged text (text_of t) (subst (λ f. IsTextOf text f) (sym (text_back t)) is) (first_refusal (text_of t)) refl

by_text : (text : List ℕ) → ((whole : written.TypeForm) × IsTextOf text whole) ⊎ ((refusal : GrammarError) × grammar.IsRefused text refusal)
    → ((ty : TypeForm) × IsTypeFile text ty) ⊎ ((error : TypeError) × IsRefusedFile text error)
by_text text (inl (t, is)) = of_text text t is
by_text text (inr (f, r)) = inr (type_error f, by_grammar f r refl)

pub every_type_file : (text : List ℕ) → ((ty : TypeForm) × IsTypeFile text ty) ⊎ ((error : TypeError) × IsRefusedFile text error)
every_type_file text = by_text text (every_type_text text)
