-- How great the numbers of an expression and a state are.
use Rattle.std.specs.Prelude.{ℕ, ◌+◌, ◌≤◌, All, max, unsigned_abs}
use Rattle.kat_num.specs.declared.values.Value.{Value}
use Rattle.kat_num.specs.declared.values.Value.TheVariants.{Bool as Truth, Num, Name}
use Rattle.kat_expr.specs.declared.expressions.Slot.{Slot}
use Rattle.kat_expr.specs.declared.expressions.Slot.TheVariants.{Plain, Keyed}
use Rattle.kat_expr.specs.Terms.{Term}
use Rattle.kat_expr.specs.Terms.Term.{constant, field, entry, parameter, negation, both, either, less, at_most, same, sum, difference, greater, lesser, choice}

-- if the value is a number, its absolute value is at most this
abbrev pub IsAtMost : ℕ → Value → Type 0
IsAtMost most (Truth _) = Unit {0}
IsAtMost most (Num z) = unsigned_abs z ≤ most
IsAtMost most (Name _) = Unit {0}

-- all numbers that a slot has are at most this
abbrev pub IsSlotAtMost : ℕ → Slot → Type 0
IsSlotAtMost most (Plain value) = IsAtMost most value
IsSlotAtMost most (Keyed start entries) = IsAtMost most start × All (λ (entry : Value × Value). IsAtMost most entry.1) entries

-- all constants of an expression are at most this
abbrev pub HasConstantsAtMost : ℕ → Term → Type 0
HasConstantsAtMost most (constant value) = IsAtMost most value
HasConstantsAtMost most (field _) = Unit {0}
HasConstantsAtMost most (entry _ _) = Unit {0}
HasConstantsAtMost most (parameter _) = Unit {0}
HasConstantsAtMost most (negation a) = HasConstantsAtMost most a
HasConstantsAtMost most (both a b) = HasConstantsAtMost most a × HasConstantsAtMost most b
HasConstantsAtMost most (either a b) = HasConstantsAtMost most a × HasConstantsAtMost most b
HasConstantsAtMost most (less a b) = HasConstantsAtMost most a × HasConstantsAtMost most b
HasConstantsAtMost most (at_most a b) = HasConstantsAtMost most a × HasConstantsAtMost most b
HasConstantsAtMost most (same a b) = HasConstantsAtMost most a × HasConstantsAtMost most b
HasConstantsAtMost most (sum a b) = HasConstantsAtMost most a × HasConstantsAtMost most b
HasConstantsAtMost most (difference a b) = HasConstantsAtMost most a × HasConstantsAtMost most b
HasConstantsAtMost most (greater a b) = HasConstantsAtMost most a × HasConstantsAtMost most b
HasConstantsAtMost most (lesser a b) = HasConstantsAtMost most a × HasConstantsAtMost most b
HasConstantsAtMost most (choice a b c) = HasConstantsAtMost most a × HasConstantsAtMost most b × HasConstantsAtMost most c

-- how many reads of fields and tables an expression may add up: sums and differences add the weights of both
-- sides, and what chooses a value has the greater weight
abbrev pub weight_of : Term → ℕ
weight_of (constant _) = 0
weight_of (field _) = 1
weight_of (entry _ _) = 1
weight_of (parameter _) = 0
weight_of (negation a) = 0
weight_of (both a b) = 0
weight_of (either a b) = 0
weight_of (less a b) = 0
weight_of (at_most a b) = 0
weight_of (same a b) = 0
weight_of (sum a b) = weight_of a + weight_of b
weight_of (difference a b) = weight_of a + weight_of b
weight_of (greater a b) = max (weight_of a) (weight_of b)
weight_of (lesser a b) = max (weight_of a) (weight_of b)
weight_of (choice c a b) = max (weight_of a) (weight_of b)
