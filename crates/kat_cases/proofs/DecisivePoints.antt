-- A decisive point stays open and meets the facts; which facts may be walked.
use Rattle.std.proofs.Common.{◌≡◌, ℕ, zero, suc, ◌+◌, ◌<◌, ◌≤◌, ◌^◌, ℤ, pos, int_le, ◌≤ℤ◌, ◌<ℤ◌, ◌+ℤ◌, ◌-ℤ◌, unsigned_abs, Bool, true, false, Some, List, [], ◌∷◌, Contains, slice_index_or, refl, sym, ap, ◌∙◌, arith}
use Rattle.std.proofs.lemmas.Int.{ints}
use Rattle.std.proofs.lemmas.List.Elements.{All-contains, Contains-append_left, Contains-append_right}
use Rattle.kat_linear.specs.Rows.{Form, IsMet, negated_form, scaled_value}
use Rattle.kat_linear.proofs.Contradictions.{negated_at}
use Rattle.kat_clause.specs.Valuations.{literal_value}
use Rattle.kat_form.specs.Encodings.{Sense, atom_at, form_in, sense_at}
use Rattle.kat_form.specs.Encodings.Sense.{truth, atom, gate}
use Rattle.kat_form.specs.Facts.{Fact, Facts, IsSized, forms_in, forms_in_each}
use Rattle.kat_form.specs.Facts.Fact.{known, truth_is, at_most, above, all_of, any_of}
use Rattle.kat_form.specs.Facts.Facts.{none, more}
use Rattle.kat_form.specs.Readings.{encoding_of}
use Rattle.kat_form.specs.Meanings.{Reads, over_point}
use Rattle.kat_form.specs.Laws.{read_by}
use Rattle.kat_form.proofs.Fit.{Turns, Allows, AllowsAll, built_facts}
use Rattle.kat_form.proofs.FitFacts.{forms_at, numbers_suffice, sized_facts_are_fit, valuations_decide}
use Rattle.kat_form.proofs.Formulas.{clauses_decide, met_le, unmet_le}
use Rattle.kat_refute.specs.Laws.{ReadsAtomsAt}
use Rattle.kat_refute.proofs.Refutations.{refutation_refutes_at}
use Rattle.kat_cases.specs.Nodes.{truths_from}
use Rattle.kat_cases.specs.PointLaws.{DecisivePointsStayOpen, DecisivePointsMeetFacts, SizedFactsAreWalkable, told_by}
use Rattle.kat_cases.specs.Settings.{HasNarrowNegation}

above_zero : (den : ℤ) → pos 0 <ℤ den → 0 < unsigned_abs den
above_zero den h = omega (arith, ints, h)

pub points_stay_open : DecisivePointsStayOpen
points_stay_open e fit numbers den nums truths point lines shown =
    refutation_refutes_at e lines fit.literals shown point.values (unsigned_abs den) (above_zero den point.positive) (λ v. slice_index_or nums v (pos 0)) point.atoms point.clauses

-- the variable that stands for an atom has its form
atom_found : (senses : List Sense) (v : ℕ) (form : Form) → sense_at senses v ≡ Some (atom form) → atom_at senses v ≡ Some form
atom_found senses zero form e = absurd (cc)
atom_found [] (suc v) form e = absurd (cc)
atom_found (s ∷ ss) (suc zero) form e = let is : s ≡ atom form = cc in ap form_in is
atom_found (s ∷ ss) (suc (suc v)) form e = atom_found ss (suc v) form e

-- its value is whether its form is at most 0 at the point
read_atom : (values : ℕ → Bool) (den : ℕ) (nums : ℕ → ℤ) (v : ℕ) (form : Form) → 0 < den
    → (values v ≡ true → IsMet den nums form) × (values v ≡ false → IsMet den nums (negated_form form)) → values v ≡ int_le (scaled_value den nums form) (pos 0)
read_atom values den nums v form large reads = by_value (values v) refl
  where
    by_value : (b : Bool) → values v ≡ b → values v ≡ int_le (scaled_value den nums form) (pos 0)
    by_value true is = is ∙ sym (met_le (scaled_value den nums form) (reads.0 is))
    by_value false is =
        let whole : scaled_value den nums (negated_form form) +ℤ scaled_value den nums form ≡ pos den = negated_at form den nums in
        let unmet : scaled_value den nums (negated_form form) ≤ℤ pos 0 = reads.1 is in
        is ∙ sym (unmet_le (scaled_value den nums form) (λ low. omega (arith, ints, whole, unmet, low, large)))

-- the values of the truth variables
abbrev valued : (ℕ → Bool) → List Sense → ℕ → Bool
valued values senses t = read_by values senses (truth t)

reads_point : (values : ℕ → Bool) (den : ℕ) (nums : ℕ → ℤ) (senses : List Sense) → 0 < den → ReadsAtomsAt values den nums senses → Reads values (read_by values senses) senses
    → Reads values (over_point (valued values senses) den nums) senses
reads_point values den nums senses large atoms reads v (truth t) at plain = reads v (truth t) at plain
reads_point values den nums senses large atoms reads v (atom form) at plain = read_atom values den nums v form large (atoms v form (atom_found senses v form at))
reads_point values den nums senses large atoms reads v gate at plain = absurd (plain refl)

-- what the point tells of truth variables, from a variable on
told_as : (values truths : ℕ → Bool) (v : ℕ) (senses : List Sense) → ((i t : ℕ) → sense_at senses (suc i) ≡ Some (truth t) → values (v + i) ≡ truths t)
    → truths_from (literal_value values) v senses ≡ told_by truths senses
told_as values truths v [] h = refl
told_as values truths v (truth t ∷ senses) h =
    let here : v ≡ v + 0 = omega arith in
    let first : values v ≡ truths t = ap values here ∙ h zero t refl in
    let rest = told_as values truths (suc v) senses (λ i u e. let there : suc v + i ≡ v + suc i = omega arith in ap values there ∙ h (suc i) u e) in
    cc
told_as values truths v (atom form ∷ senses) h =
    told_as values truths (suc v) senses (λ i u e. let there : suc v + i ≡ v + suc i = omega arith in ap values there ∙ h (suc i) u e)
told_as values truths v (gate ∷ senses) h =
    told_as values truths (suc v) senses (λ i u e. let there : suc v + i ≡ v + suc i = omega arith in ap values there ∙ h (suc i) u e)

pub points_meet_facts : DecisivePointsMeetFacts
points_meet_facts facts numbers den nums truths point =
    let values = point.values in
    let senses = (encoding_of facts).senses in
    let reads = (valuations_decide facts values).0 in (
      valued values senses,
      point.told ∙ told_as values (valued values senses) 1 senses (λ i t e. let here : 1 + i ≡ suc i = omega arith in ap values here ∙ reads (suc i) (truth t) e (λ g. absurd (cc))),
      clauses_decide (over_point (valued values senses) (unsigned_abs den) (λ v. slice_index_or nums v (pos 0))) facts values
          (reads_point values (unsigned_abs den) (λ v. slice_index_or nums v (pos 0)) senses (above_zero den point.positive) point.atoms reads) point.clauses,
    )

-- the negations of sized forms, as they are and turned, are narrow
abs_less : (z : ℤ) (n : ℕ) → unsigned_abs z ≤ n → unsigned_abs (pos 1 -ℤ z) ≤ n + 1
abs_less z n h = omega (arith, ints, h)

narrow : (form : Form) → IsSized form → Turns HasNarrowNegation form
narrow form sized =
    let once : unsigned_abs (pos 1 -ℤ form.constant) ≤ 2 ^ 125 + 1 = abs_less form.constant (2 ^ 125) sized.constant in
    let twice : unsigned_abs (pos 1 -ℤ (pos 1 -ℤ form.constant)) ≤ (2 ^ 125 + 1) + 1 = abs_less (pos 1 -ℤ form.constant) (2 ^ 125 + 1) once in
    (omega (arith, once), omega (arith, twice))

mutual
  allows_narrow : (f : Fact) → ((form : Form) → Contains (forms_in f) form → IsSized form) → Allows HasNarrowNegation f
  allows_narrow (known b) sized = tt
  allows_narrow (truth_is v positive) sized = tt
  allows_narrow (at_most form) sized = λ e. narrow form (sized form (0, omega arith, refl))
  allows_narrow (above form) sized = λ e. narrow form (sized form (0, omega arith, refl))
  allows_narrow (all_of fs) sized = λ e. allow_narrow fs sized
  allows_narrow (any_of fs) sized = λ e. allow_narrow fs sized

  allow_narrow : (fs : Facts) → ((form : Form) → Contains (forms_in_each fs) form → IsSized form) → AllowsAll HasNarrowNegation fs
  allow_narrow none sized = tt
  allow_narrow (more f fs) sized = (
    allows_narrow f (λ form has. sized form (Contains-append_left (forms_in f) (forms_in_each fs) form has)),
    allow_narrow fs (λ form has. sized form (Contains-append_right (forms_in f) (forms_in_each fs) form has)),
  )

pub sized_facts_are_walkable : SizedFactsAreWalkable
sized_facts_are_walkable facts sized ascending few = record {
  few = few;
  fit = sized_facts_are_fit facts sized ascending;
  narrow = (built_facts HasNarrowNegation tt facts (λ f has. allows_narrow f (λ form there. All-contains IsSized (forms_in f) form (forms_at IsSized facts sized f has) there))).senses;
  below = numbers_suffice facts;
}
