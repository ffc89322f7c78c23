-- The value of an expression, over unbounded whole numbers.
use Rattle.std.specs.Prelude.{Bool, false, not, ◌&&◌, ◌||◌, List, nat_lt, if◌then◌else◌, ℤ, pos, ◌+ℤ◌, int_lt}
use Rattle.std.specs.Prelude.{◌-ℤ◌}
use Rattle.kat_num.specs.declared.values.Value.{Value}
use Rattle.kat_num.specs.declared.values.Value.TheVariants.{Bool as Truth, Num, Name}
use Rattle.kat_expr.specs.declared.expressions.Slot.{Slot}
use Rattle.kat_expr.specs.Slots.{argument, is_same, read_plain, read_table, slot_at}
use Rattle.kat_expr.specs.Terms.{Term}
use Rattle.kat_expr.specs.Terms.Term.{constant, field, entry, parameter, negation, both, either, less, at_most, same, sum, difference, greater, lesser, choice}

-- the truth of a value; what is no truth value counts as false
abbrev pub truth_of : Value → Bool
truth_of (Truth truth) = truth
truth_of (Num _) = false
truth_of (Name _) = false

-- the number of a value; what is no number counts as 0
abbrev pub number_of : Value → ℤ
number_of (Truth _) = pos 0
number_of (Num z) = z
number_of (Name _) = pos 0

-- numbers compare by size and names by their codes
abbrev pub is_less : Value → Value → Bool
is_less (Num x) (Num y) = int_lt x y
is_less (Name x) (Name y) = nat_lt x y
is_less _ _ = false

-- the value of an expression in a state with arguments
abbrev pub value_of : Term → List Slot → List Value → Value
value_of (constant value) state args = value
value_of (field place) state args = read_plain (slot_at state place)
value_of (entry place key) state args = read_table (argument args key) (slot_at state place)
value_of (parameter place) state args = argument args place
value_of (negation a) state args = Truth (not (truth_of (value_of a state args)))
value_of (both a b) state args = Truth (truth_of (value_of a state args) && truth_of (value_of b state args))
value_of (either a b) state args = Truth (truth_of (value_of a state args) || truth_of (value_of b state args))
value_of (less a b) state args = Truth (is_less (value_of a state args) (value_of b state args))
value_of (at_most a b) state args = Truth (is_less (value_of a state args) (value_of b state args) || is_same (value_of a state args) (value_of b state args))
value_of (same a b) state args = Truth (is_same (value_of a state args) (value_of b state args))
value_of (sum a b) state args = Num (number_of (value_of a state args) +ℤ number_of (value_of b state args))
value_of (difference a b) state args = Num (number_of (value_of a state args) -ℤ number_of (value_of b state args))
value_of (greater a b) state args = if is_less (value_of a state args) (value_of b state args) then value_of b state args else value_of a state args
value_of (lesser a b) state args = if is_less (value_of b state args) (value_of a state args) then value_of b state args else value_of a state args
value_of (choice c a b) state args = if truth_of (value_of c state args) then value_of a state args else value_of b state args
