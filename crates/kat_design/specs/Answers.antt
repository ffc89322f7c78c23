-- What a design answers to a query in a state.
use Rattle.std.specs.Prelude.{ℕ, not, ◌&&◌, ◌||◌, List, Option, None, Some, slice_get, slice_index_or, pos, ◌+ℤ◌, ◌-ℤ◌}
use Rattle.kat_num.specs.Orders.{value_order}
use Rattle.kat_num.specs.declared.values.Value.{Value}
use Rattle.kat_num.specs.declared.values.Value.TheVariants as value
use Rattle.kat_lattice.specs.Maps.{at_key}
use Rattle.kat_lattice.specs.Sets.{has_key}
use Rattle.kat_lattice.specs.Tallies.{Sums, total_of}
use Rattle.kat_shape.specs.Values.{Filled, leaves_of}
use Rattle.kat_expr.specs.Evaluation.{is_less, number_of, truth_of}
use Rattle.kat_expr.specs.Slots.{absent, argument}
use Rattle.kat_design.specs.Designs.{AskForm, DesignForm}
use Rattle.kat_design.specs.Designs.AskForm.{leaf as a_leaf, parameter, constant, negation, both, either, less, sum, difference}
use Rattle.kat_design.specs.declared.states.Part.{Part}
use Rattle.kat_design.specs.declared.states.Part.TheVariants as part

-- a leaf of a cell, counted from the left
abbrev pub leaf_of : Filled → ℕ → Value
leaf_of cell place = slice_index_or (leaves_of cell) place absent

-- the sum over all replicas, as a number
abbrev pub total_value : Sums → Value
total_value sums = value.Num (pos (total_of sums))

-- what is read of a part without a key; what has keys gives nothing
abbrev pub read_plain : Part → ℕ → Value
read_plain (part.Cell cell) place = leaf_of cell place
read_plain (part.Table table) place = absent
read_plain (part.Set keys) place = absent
read_plain (part.Tally sums) place = total_value sums
read_plain (part.Tallies table) place = absent

-- what is read of a part at a key: the leaf of the value there, whether a set has it, the sum of the tally there
abbrev pub read_at : Part → ℕ → Value → Value
read_at (part.Cell cell) place key = absent
read_at (part.Table table) place key = leaf_of (at_key value_order table key) place
read_at (part.Set keys) place key = value.Bool (has_key value_order key keys)
read_at (part.Tally sums) place key = absent
read_at (part.Tallies table) place key = total_value (at_key value_order table key)

abbrev pub read_part : Option Part → ℕ → Option ℕ → List Value → Value
read_part None place key args = absent
read_part (Some p) place None args = read_plain p place
read_part (Some p) place (Some key) args = read_at p place (argument args key)

-- the value of an ask in a state with arguments, over unbounded whole numbers
abbrev pub ask_value : AskForm → List Part → List Value → Value
ask_value (a_leaf component place key) state args = read_part (slice_get state component) place key args
ask_value (parameter place) state args = argument args place
ask_value (constant v) state args = v
ask_value (negation a) state args = value.Bool (not (truth_of (ask_value a state args)))
ask_value (both a b) state args = value.Bool (truth_of (ask_value a state args) && truth_of (ask_value b state args))
ask_value (either a b) state args = value.Bool (truth_of (ask_value a state args) || truth_of (ask_value b state args))
ask_value (less a b) state args = value.Bool (is_less (ask_value a state args) (ask_value b state args))
ask_value (sum a b) state args = value.Num (number_of (ask_value a state args) +ℤ number_of (ask_value b state args))
ask_value (difference a b) state args = value.Num (number_of (ask_value a state args) -ℤ number_of (ask_value b state args))

-- the ask of a query; if there is none, one that answers `false`
abbrev pub ask_at : DesignForm → ℕ → AskForm
ask_at d query = slice_index_or d.asks query (constant absent)

-- the answer of a design to a query in a state
abbrev pub answer_of : DesignForm → List Part → ℕ → List Value → Value
answer_of d state query args = ask_value (ask_at d query) state args
