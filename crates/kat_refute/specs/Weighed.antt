-- Used inside only.
-- Rows under multipliers, of which those with multiplier 0 add nothing.
use Rattle.std.specs.Prelude.{ℤ, pos, negsuc, zero, suc, List, [], ◌∷◌, Option, Some, option_map}
use Rattle.kat_linear.specs.Rows.{Form}
use Rattle.kat_form.specs.Encodings.{Sense}
use Rattle.kat_refute.specs.Lines.{and_then_form, denial_form}

-- the form, and an empty one under the multiplier 0
abbrev pub weighed_form : ℤ → Form → Form
weighed_form (pos zero) form = record { terms = []; constant = pos 0 }
weighed_form (pos (suc n)) form = form
weighed_form (negsuc n) form = form

abbrev pub weighed_forms : List Form → List ℤ → List Form
weighed_forms [] ms = []
weighed_forms (form ∷ forms) [] = []
weighed_forms (form ∷ forms) (m ∷ ms) = weighed_form m form ∷ weighed_forms forms ms

-- the forms of all literals' denials, if each literal is of an atom
abbrev pub weighed_denials : List Sense → List ℤ → List ℤ → Option (List Form)
weighed_denials senses [] ms = Some []
weighed_denials senses (k ∷ ks) [] = Some []
weighed_denials senses (k ∷ ks) (m ∷ ms) = and_then_form (option_map (weighed_form m) (denial_form senses k)) (weighed_denials senses ks ms)
