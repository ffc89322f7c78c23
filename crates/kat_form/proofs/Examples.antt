-- Worked encodings, by computing.
use Rattle.std.proofs.Common.{◌≡◌, ℤ, pos, negsuc, [], ◌∷◌, true, false, refl}
use Rattle.kat_linear.specs.Rows.{Form}
use Rattle.kat_form.specs.Encodings.Sense.{truth, atom, gate}
use Rattle.kat_form.specs.Readings.{variable_reading, at_most_reading, all_reading, any_reading, encoded_readings}

-- `begun or (not on and not leaf)`: begun 1, on 2, leaf 3, gate 4
pub begun_or_none : encoded_readings (any_reading (variable_reading 7 true ∷ all_reading (variable_reading 8 false ∷ variable_reading 9 false ∷ []) ∷ []) ∷ []) ≡ record { clauses = (negsuc 3 ∷ negsuc 1 ∷ []) ∷ (negsuc 3 ∷ negsuc 2 ∷ []) ∷ (pos 1 ∷ pos 4 ∷ []) ∷ []; senses = truth 7 ∷ truth 8 ∷ truth 9 ∷ gate ∷ [] }
begun_or_none = refl

abbrev form : ℤ → ℤ → Form
form coefficient constant = record { terms = (0, coefficient) ∷ []; constant = constant }

-- x <= 0 and 3 <= x: the clauses [1] and [-2], if 2 is the atom x - 2
pub two_bounds : encoded_readings (at_most_reading (form (pos 1) (pos 0)) ∷ at_most_reading (form (negsuc 0) (pos 3)) ∷ []) ≡ record { clauses = (pos 1 ∷ []) ∷ (negsuc 1 ∷ []) ∷ []; senses = atom (form (pos 1) (pos 0)) ∷ atom (form (pos 1) (negsuc 1)) ∷ [] }
two_bounds = refl
