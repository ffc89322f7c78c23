-- Folding a formula comes to what its fact says.
use Rattle.std.proofs.Common.{◌≡◌, List, [], ◌∷◌, map, refl, sym, ap, ◌∙◌, subst}
use Rattle.kat_linear.specs.Rows.{Form}
use Rattle.kat_form.specs.declared.Formula.{Formula}
use Rattle.kat_form.specs.declared.Formula.TheOpen.{Formula-F, True, False, Lit, AtMost, Above, And, Or}
use Rattle.kat_form.specs.declared.Formula.TheFolds.{fold-roll-Formula, ind-Formula, map-Formula}
use Rattle.kat_form.specs.Facts.{Fact, listed, fact_step, fact_of, facts_of, forms_in, forms_in_each, forms_among}
use Rattle.kat_form.specs.Readings.{Reading, all_reading, any_reading, encoded_readings, fact_reading, fact_readings, encoding_of, numbers_of, numbers_of_facts}
use Rattle.kat_form.specs.Folds.{reading_step, reading_of, joined, rows_step, rows_of, rows_of_all}

-- the reading of a formula is that of its fact
abbrev SameReading : Formula → Type 0
SameReading f = reading_of f ≡ fact_reading (fact_of f)

parts_same : (parts : List ((f : Formula) × SameReading f)) → map reading_of (map (λ e. e.0) parts) ≡ fact_readings (listed (map fact_of (map (λ e. e.0) parts)))
parts_same [] = refl
parts_same (p ∷ ps) = let first = p.1 in let rest = parts_same ps in cc

pub same_reading : (f : Formula) → SameReading f
same_reading = ind-Formula SameReading (λ x y is.
    fold-roll-Formula Reading reading_step x
    ∙ subst (λ (z : Formula-F Formula). reading_step (map-Formula Formula Reading reading_of z) ≡ fact_reading (fact_step (map-Formula Formula Fact fact_of z))) is (by_parts y)
    ∙ sym (ap fact_reading (fold-roll-Formula Fact fact_step x)))
  where
    by_parts : (y : Formula-F ((f : Formula) × SameReading f)) → reading_step (map-Formula Formula Reading reading_of (map-Formula ((f : Formula) × SameReading f) Formula (λ e. e.0) y)) ≡ fact_reading (fact_step (map-Formula Formula Fact fact_of (map-Formula ((f : Formula) × SameReading f) Formula (λ e. e.0) y)))
    by_parts True = refl
    by_parts False = refl
    by_parts (Lit v positive) = refl
    by_parts (AtMost row) = refl
    by_parts (Above row) = refl
    by_parts (And parts) = ap all_reading (parts_same parts.items)
    by_parts (Or parts) = ap any_reading (parts_same parts.items)

readings_same : (formulas : List Formula) → map reading_of formulas ≡ map fact_reading (facts_of formulas)
readings_same [] = refl
readings_same (f ∷ fs) = let first = same_reading f in let rest = readings_same fs in cc

pub same_encoding : (formulas : List Formula) → encoded_readings (map reading_of formulas) ≡ encoding_of (facts_of formulas)
same_encoding formulas = ap encoded_readings (readings_same formulas)

pub same_numbers : (formulas : List Formula) → numbers_of (map reading_of formulas) ≡ numbers_of_facts (facts_of formulas)
same_numbers formulas = ap numbers_of (readings_same formulas)

-- the rows of a formula are the forms in its fact
abbrev SameForms : Formula → Type 0
SameForms f = rows_of f ≡ forms_in (fact_of f)

parts_forms : (parts : List ((f : Formula) × SameForms f)) → joined (map rows_of (map (λ e. e.0) parts)) ≡ forms_in_each (listed (map fact_of (map (λ e. e.0) parts)))
parts_forms [] = refl
parts_forms (p ∷ ps) = let first = p.1 in let rest = parts_forms ps in cc

pub same_forms : (f : Formula) → SameForms f
same_forms = ind-Formula SameForms (λ x y is.
    fold-roll-Formula (List Form) rows_step x
    ∙ subst (λ (z : Formula-F Formula). rows_step (map-Formula Formula (List Form) rows_of z) ≡ forms_in (fact_step (map-Formula Formula Fact fact_of z))) is (by_parts y)
    ∙ sym (ap forms_in (fold-roll-Formula Fact fact_step x)))
  where
    by_parts : (y : Formula-F ((f : Formula) × SameForms f)) → rows_step (map-Formula Formula (List Form) rows_of (map-Formula ((f : Formula) × SameForms f) Formula (λ e. e.0) y)) ≡ forms_in (fact_step (map-Formula Formula Fact fact_of (map-Formula ((f : Formula) × SameForms f) Formula (λ e. e.0) y)))
    by_parts True = refl
    by_parts False = refl
    by_parts (Lit v positive) = refl
    by_parts (AtMost row) = refl
    by_parts (Above row) = refl
    by_parts (And parts) = parts_forms parts.items
    by_parts (Or parts) = parts_forms parts.items

pub same_forms_among : (formulas : List Formula) → rows_of_all formulas ≡ forms_among (facts_of formulas)
same_forms_among [] = refl
same_forms_among (f ∷ fs) = let first = same_forms f in let rest = same_forms_among fs in cc
