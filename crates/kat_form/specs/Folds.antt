-- Used inside only.
-- Readings and forms by folding formulas, as the code goes through them.
use Rattle.std.specs.Prelude.{true, false, List, [], ◌∷◌, ◌++◌, map}
use Rattle.kat_linear.specs.Rows.{Form, form_of}
use Rattle.kat_form.specs.declared.Formula.{Formula}
use Rattle.kat_form.specs.declared.Formula.TheOpen.{Formula-F, True, False, Lit, AtMost, Above, And, Or}
use Rattle.kat_form.specs.declared.Formula.TheFolds.{fold-Formula}
use Rattle.kat_form.specs.Readings.{Reading, truth_reading, variable_reading, at_most_reading, above_reading, all_reading, any_reading}

abbrev pub reading_step : Formula-F Reading → Reading
reading_step True = truth_reading true
reading_step False = truth_reading false
reading_step (Lit v positive) = variable_reading v positive
reading_step (AtMost row) = at_most_reading (form_of row)
reading_step (Above row) = above_reading (form_of row)
reading_step (And parts) = all_reading parts.items
reading_step (Or parts) = any_reading parts.items

abbrev pub reading_of : Formula → Reading
reading_of = fold-Formula Reading reading_step

abbrev pub joined : List (List Form) → List Form
joined [] = []
joined (forms ∷ more) = forms ++ joined more

abbrev pub rows_step : Formula-F (List Form) → List Form
rows_step True = []
rows_step False = []
rows_step (Lit v positive) = []
rows_step (AtMost row) = form_of row ∷ []
rows_step (Above row) = form_of row ∷ []
rows_step (And parts) = joined parts.items
rows_step (Or parts) = joined parts.items

-- the rows of a formula
abbrev pub rows_of : Formula → List Form
rows_of = fold-Formula (List Form) rows_step

abbrev pub rows_of_all : List Formula → List Form
rows_of_all formulas = joined (map rows_of formulas)
