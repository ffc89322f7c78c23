-- Atoms by their numbers, and the forms of literals' denials.
use Rattle.std.proofs.Common.{◌≡◌, ℕ, zero, suc, ◌<◌, ◌≤◌, ℤ, pos, negsuc, List, [], ◌∷◌, ◌++◌, length, get_or, Option, Some, None, option_map, refl, sym, ap, ◌∙◌, subst, arith, Contains, All}
use Rattle.std.proofs.lemmas.List.Elements.{All-nil, All-cons}
use Rattle.kat_linear.specs.Rows.{Form, IsAscending, negated_form, IsSmall}
use Rattle.kat_linear.proofs.Contradictions.{ascending_negated}
use Rattle.kat_form.specs.Encodings.{Sense, atom_at, form_in, IsLiteral, IsFitForm, AreFitAtoms}
use Rattle.kat_form.proofs.Atoms.{fit_atom}
use Rattle.kat_refute.specs.Lines.{denial_form, denial_forms, and_then_form}

pub atom_at-within : (senses : List Sense) (i : ℕ) (d : Sense) → i < length senses → atom_at senses (suc i) ≡ form_in (get_or senses i d)
atom_at-within [] i d h = absurd (omega arith)
atom_at-within (s ∷ ss) zero d h = refl
atom_at-within (s ∷ ss) (suc i) d h = atom_at-within ss i d (omega arith)

pub atom_at-past : (senses : List Sense) (i : ℕ) → length senses ≤ i → atom_at senses (suc i) ≡ None
atom_at-past [] i h = refl
atom_at-past (s ∷ ss) zero h = absurd (omega arith)
atom_at-past (s ∷ ss) (suc i) h = atom_at-past ss i (omega arith)

-- an atom's variable is one of the encoding's
pub atom_is_variable : (senses : List Sense) (v : ℕ) (form : Form) → atom_at senses v ≡ Some form → (0 < v) × (v ≤ length senses)
atom_is_variable senses zero form e = absurd (cc)
atom_is_variable [] (suc v) form e = absurd (cc)
atom_is_variable (s ∷ ss) (suc zero) form e = (omega arith, omega arith)
atom_is_variable (s ∷ ss) (suc (suc v)) form e = let below : (0 < suc v) × (suc v ≤ length ss) = atom_is_variable ss (suc v) form e in (omega arith, omega (arith, below.1))

-- what the negation of an option is made of
pub negated_from : (o : Option Form) (form : Form) → option_map negated_form o ≡ Some form → (f : Form) × (o ≡ Some f) × (negated_form f ≡ form)
negated_from None form e = absurd (cc)
negated_from (Some f) form e = (f, refl, cc)

-- a literal that has a denial is of a variable
pub denial_is_literal : (senses : List Sense) (k : ℤ) (form : Form) → denial_form senses k ≡ Some form → IsLiteral (length senses) k
denial_is_literal senses (pos n) form e = let h = negated_from (atom_at senses n) form e in atom_is_variable senses n h.0 h.1
denial_is_literal senses (negsuc n) form e = atom_is_variable senses (suc n) form e

-- the parts of a list of denials
pub denials_from : (o : Option Form) (p : Option (List Form)) (forms : List Form) → and_then_form o p ≡ Some forms → (f : Form) × (fs : List Form) × (o ≡ Some f) × (p ≡ Some fs) × (f ∷ fs ≡ forms)
denials_from None p forms e = absurd (cc)
denials_from (Some f) None forms e = absurd (cc)
denials_from (Some f) (Some fs) forms e = (f, fs, refl, refl, cc)

pub denials_are_literals : (senses : List Sense) (ks : List ℤ) (forms : List Form) → denial_forms senses ks ≡ Some forms → (k : ℤ) → Contains ks k → IsLiteral (length senses) k
denials_are_literals senses [] forms e k has = absurd (omega (arith, has.1))
denials_are_literals senses (x ∷ xs) forms e k (zero, h, is) =
    let parts = denials_from (denial_form senses x) (denial_forms senses xs) forms e in
    let P : ℤ → Type 0 = IsLiteral (length senses) in
    subst P is (denial_is_literal senses x parts.0 parts.2)
denials_are_literals senses (x ∷ xs) forms e k (suc j, h, is) =
    let parts = denials_from (denial_form senses x) (denial_forms senses xs) forms e in
    denials_are_literals senses xs parts.1 parts.3 k (j, omega arith, is)

-- a list has no denials if one literal has none
pub denials_none : (senses : List Sense) (ks : List ℤ) (i : ℕ) → i < length ks → denial_form senses (get_or ks i (pos 0)) ≡ None → denial_forms senses ks ≡ None
denials_none senses [] i h e = absurd (omega arith)
denials_none senses (x ∷ xs) zero h e = ap (λ (o : Option Form). and_then_form o (denial_forms senses xs)) e
denials_none senses (x ∷ xs) (suc i) h e = ap (and_then_form (denial_form senses x)) (denials_none senses xs i (omega arith) e) ∙ and_then-none (denial_form senses x)
  where
    and_then-none : (o : Option Form) → and_then_form o None ≡ None
    and_then-none None = refl
    and_then-none (Some f) = refl

-- one more literal's denial
pub denials_push : (senses : List Sense) (ks : List ℤ) (k : ℤ) (forms : List Form) (form : Form) → denial_forms senses ks ≡ Some forms → denial_form senses k ≡ Some form → denial_forms senses (ks ++ k ∷ []) ≡ Some (forms ++ form ∷ [])
denials_push senses [] k forms form e f = rw f (ap (λ (fs : List Form). Some (fs ++ form ∷ [])) (some_same [] forms e))
  where
    some_same : (a b : List Form) → Some a ≡ Some b → a ≡ b
    some_same a b e' = cc
denials_push senses (x ∷ xs) k forms form e f =
    let parts = denials_from (denial_form senses x) (denial_forms senses xs) forms e in
    let rest : denial_forms senses (xs ++ k ∷ []) ≡ Some (parts.1 ++ form ∷ []) = denials_push senses xs k parts.1 form parts.3 f in
    rw (parts.2, rest) (ap (λ (fs : List Form). Some (fs ++ form ∷ [])) parts.4)

denial_is_ascending : (senses : List Sense) → AreFitAtoms senses → (k : ℤ) (form : Form) → denial_form senses k ≡ Some form → IsAscending form
denial_is_ascending senses fit (pos n) form e =
    let h = negated_from (atom_at senses n) form e in
    let P : Form → Type 0 = IsAscending in
    subst P h.2 (ascending_negated h.0 (fit_atom senses fit n h.0 h.1).ascending)
denial_is_ascending senses fit (negsuc n) form e = (fit_atom senses fit (suc n) form e).ascending

pub denials_are_ascending : (senses : List Sense) → AreFitAtoms senses → (ks : List ℤ) (forms : List Form) → denial_forms senses ks ≡ Some forms → All IsAscending forms
denials_are_ascending senses fit [] forms e = let P : List Form → Type 0 = All IsAscending in subst P (some_same [] forms e) (All-nil IsAscending)
  where
    some_same : (a b : List Form) → Some a ≡ Some b → a ≡ b
    some_same a b e' = cc
denials_are_ascending senses fit (x ∷ xs) forms e =
    let parts = denials_from (denial_form senses x) (denial_forms senses xs) forms e in
    let P : List Form → Type 0 = All IsAscending in
    subst P parts.4 (All-cons IsAscending parts.0 parts.1 (denial_is_ascending senses fit x parts.0 parts.2) (denials_are_ascending senses fit xs parts.1 parts.3))

-- fit numbers may be negated
pub IsSmall-fit : (form : Form) → IsFitForm form → IsSmall form
IsSmall-fit form fit = record {
  coefficients = λ i d h. omega (arith, fit.coefficients i d h);
  constant = omega (arith, fit.constant);
}

pub denials-length : (senses : List Sense) (ks : List ℤ) (forms : List Form) → denial_forms senses ks ≡ Some forms → length forms ≡ length ks
denials-length senses [] forms e = ap length (sym (some_same [] forms e))
  where
    some_same : (a b : List Form) → Some a ≡ Some b → a ≡ b
    some_same a b e' = cc
denials-length senses (x ∷ xs) forms e =
    let parts = denials_from (denial_form senses x) (denial_forms senses xs) forms e in
    sym (ap length parts.4) ∙ ap suc (denials-length senses xs parts.1 parts.3)
