-- Facts whose encoding is refuted can't all hold, nor at a point that decides their atoms.
use Rattle.std.proofs.Common.{◌≡◌, ℕ, zero, suc, ◌<◌, ℤ, pos, int_le, ◌≤ℤ◌, ◌+ℤ◌, Bool, true, false, Some, List, [], ◌∷◌, length, ⊎_elim, sym, ap, ◌∙◌, arith, get_or}
use Rattle.std.proofs.lemmas.Bool.{false≢true}
use Rattle.std.proofs.lemmas.Int.{ints, by_lt_z}
use Rattle.std.proofs.lemmas.List.{get_or_default}
use Rattle.kat_linear.specs.Rows.{Form, scaled_value, negated_form, IsMet}
use Rattle.kat_linear.proofs.Contradictions.{negated_at}
use Rattle.kat_form.specs.Encodings.{Sense, atom_at, form_in, sense_at}
use Rattle.kat_form.specs.Encodings.Sense.{truth, atom, gate}
use Rattle.kat_form.specs.Facts.{Fact, forms_among}
use Rattle.kat_form.specs.Readings.{encoding_of}
use Rattle.kat_form.specs.Meanings.{Reads, over_point, IsDecided, AreTrueFacts}
use Rattle.kat_form.proofs.Formulas.{truth_extends, points_decide, met_le, unmet_le, whole_decided}
use Rattle.kat_form.proofs.FitFacts.{encodings_are_whole, atoms_decided, forms_at}
use Rattle.kat_refute.specs.Laws.{ReadsAtomsAt, DecidesAtoms, RefutedFactsFail, PointsStayOpen, FactsStayOpen}
use Rattle.kat_refute.proofs.Refutations.{refutation_refutes_at}

formed : (s : Sense) (form : Form) → form_in s ≡ Some form → s ≡ atom form
formed (truth v) form e = absurd (cc)
formed (atom f) form e = cc
formed gate form e = absurd (cc)

-- the form of a numbered atom is what its variable stands for
atom_there : (senses : List Sense) (v : ℕ) (form : Form) → atom_at senses v ≡ Some form → sense_at senses v ≡ Some (atom form)
atom_there senses zero form e = absurd (cc)
atom_there [] (suc v) form e = absurd (cc)
atom_there (s ∷ ss) (suc zero) form e = ap Some (formed s form e)
atom_there (s ∷ ss) (suc (suc v)) form e = atom_there ss (suc v) form e

met_if : (x : ℤ) → int_le x (pos 0) ≡ true → x ≤ℤ pos 0
met_if x e = by_lt_z {P = x ≤ℤ pos 0} (pos 0) x (λ above. absurd (false≢true (sym (unmet_le x (λ h. omega (arith, ints, h, above))) ∙ e))) (λ h. h)

-- if a decided form isn't at most 0, its negation is
unmet_if : (den : ℕ) (nums : ℕ → ℤ) (form : Form) → IsDecided den nums form → int_le (scaled_value den nums form) (pos 0) ≡ false → IsMet den nums (negated_form form)
unmet_if den nums form decided e =
    let whole : scaled_value den nums (negated_form form) +ℤ scaled_value den nums form ≡ pos den = negated_at form den nums in
    ⊎_elim
    (λ (low : scaled_value den nums form ≤ℤ pos 0). absurd (false≢true (sym e ∙ met_le (scaled_value den nums form) low)))
    (λ (high : pos den ≤ℤ scaled_value den nums form). omega (arith, ints, whole, high))
    decided

atoms_read : (truths : ℕ → Bool) (den : ℕ) (nums : ℕ → ℤ) (values : ℕ → Bool) (senses : List Sense) → DecidesAtoms den nums senses → Reads values (over_point truths den nums) senses → ReadsAtomsAt values den nums senses
atoms_read truths den nums values senses decided reads v form at =
    let same : values v ≡ int_le (scaled_value den nums form) (pos 0) = reads v (atom form) (atom_there senses v form at) (λ e. absurd (cc)) in
    (λ is. met_if (scaled_value den nums form) (sym same ∙ is), λ isnt. unmet_if den nums form (decided v form at) (sym same ∙ isnt))

pub points_stay_open : PointsStayOpen
points_stay_open facts truths den above nums decided hold lines shown =
    let found = truth_extends (over_point truths den nums) facts hold in
    refutation_refutes_at (encoding_of facts) lines (encodings_are_whole facts).0 shown found.0 den above nums (atoms_read truths den nums found.0 (encoding_of facts).senses decided found.1.0) found.1.1

pub facts_stay_open : FactsStayOpen
facts_stay_open facts truths den above nums decided hold lines shown =
    let valued : AreTrueFacts (over_point truths den nums) facts = λ i d h.
    points_decide truths den above nums (get_or facts i d) (forms_at (IsDecided den nums) facts decided (get_or facts i d) (i, h, get_or_same facts i d h)) ∙ hold i d h in
    points_stay_open facts truths den above nums (atoms_decided den nums facts decided) valued lines shown
  where
    get_or_same : (fs : List Fact) (i : ℕ) (d : Fact) → i < length fs → get_or fs i (get_or fs i d) ≡ get_or fs i d
    get_or_same fs i d h = get_or_default fs i (get_or fs i d) d h

pub facts_fail : RefutedFactsFail
facts_fail facts lines shown truths nums hold = facts_stay_open facts truths 1 (omega arith) nums (λ i d h. whole_decided nums (get_or (forms_among facts) i d)) hold lines shown
