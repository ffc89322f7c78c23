-- Atoms by their numbers.
use Rattle.std.proofs.Common.{◌≡◌, ℕ, zero, suc, List, [], ◌∷◌, Some, subst, All}
use Rattle.std.proofs.lemmas.List.Elements.{All-head, All-tail}
use Rattle.kat_linear.specs.Rows.{Form}
use Rattle.kat_form.specs.Encodings.{Sense, atom_at, form_in, IsFitForm, IsFitSense}
use Rattle.kat_form.specs.Encodings.Sense.{truth, atom, gate}

fit_form : (sense : Sense) (form : Form) → IsFitSense sense → form_in sense ≡ Some form → IsFitForm form
fit_form (truth v) form fit e = absurd (cc)
fit_form (atom f) form fit e = subst IsFitForm (same f form e) fit
  where
    same : (a b : Form) → Some a ≡ Some b → a ≡ b
    same a b e' = cc
fit_form gate form fit e = absurd (cc)

-- the form of a numbered atom is fit
pub fit_atom : (senses : List Sense) → All IsFitSense senses → (v : ℕ) (form : Form) → atom_at senses v ≡ Some form → IsFitForm form
fit_atom senses fit zero form e = absurd (cc)
fit_atom [] fit (suc v) form e = absurd (cc)
fit_atom (s ∷ ss) fit (suc zero) form e = fit_form s form (All-head IsFitSense s ss fit) e
fit_atom (s ∷ ss) fit (suc (suc v)) form e = fit_atom ss (All-tail IsFitSense s ss fit) (suc v) form e
