-- What a state keeps, and what is read of it.
use Rattle.std.specs.Prelude.{ℕ, Bool, false, ◌==◌, List, [], ◌∷◌, slice_index_or, if◌then◌else◌}
use Rattle.std.specs.Ordering.{int_eq}
use Rattle.kat_num.specs.declared.values.Value.{Value}
use Rattle.kat_num.specs.declared.values.Value.TheVariants.{Bool as Truth, Num, Name}
use Rattle.kat_expr.specs.declared.expressions.Slot.{Slot}
use Rattle.kat_expr.specs.declared.expressions.Slot.TheVariants.{Plain, Keyed}

-- two numbers or two names are equal; a truth value is equal to nothing
abbrev pub is_same : Value → Value → Bool
is_same (Num x) (Num y) = int_eq x y
is_same (Name x) (Name y) = x == y
is_same _ _ = false

-- the value of a table at a key: that of the key's first entry, or else the start
abbrev pub entry_at : Value → Value → List (Value × Value) → Value
entry_at key start [] = start
entry_at key start (entry ∷ entries) = if is_same entry.0 key then entry.1 else entry_at key start entries

-- what stands for a value that isn't there, which no well-sorted expression reads
abbrev pub absent : Value
absent = Truth false

-- the value of a field
abbrev pub read_plain : Slot → Value
read_plain (Plain value) = value
read_plain (Keyed _ _) = absent

-- the value of a table at a key
abbrev pub read_table : Value → Slot → Value
read_table key (Plain _) = absent
read_table key (Keyed start entries) = entry_at key start entries

-- the argument with this number
abbrev pub argument : List Value → ℕ → Value
argument args place = slice_index_or args place absent

-- the slot with this number
abbrev pub slot_at : List Slot → ℕ → Slot
slot_at state place = slice_index_or state place (Plain absent)
