-- The constants of a type. The starts of a design are taken from them, and so are the constants of its asks, which may also be `true`.
use Rattle.std.specs.Prelude.{ℕ, suc, pos, ◌==◌, Bool, false, not, ◌||◌, List, [], ◌∷◌, ◌++◌, map, if◌then◌else◌, slice_index_or}
use Rattle.std.specs.Ordering.{int_eq}
use Rattle.kat_num.specs.declared.values.Value.{Value}
use Rattle.kat_num.specs.declared.values.Value.TheVariants as value
use Rattle.kat_design.specs.declared.kinds.Kind.{Kind}
use Rattle.kat_design.specs.declared.kinds.Kind.TheVariants as kind
use Rattle.kat_type.specs.declared.types.Field.{Field}
use Rattle.kat_type.specs.declared.types.Field.TheVariants as field
use Rattle.kat_rules.specs.declared.constants.Constants.{Constants}

abbrev pub is_same_value : Value → Value → Bool
is_same_value (value.Bool a) (value.Bool b) = if a then b else not b
is_same_value (value.Num a) (value.Num b) = int_eq a b
is_same_value (value.Name a) (value.Name b) = a == b
is_same_value _ _ = false

abbrev pub has_value : List Value → Value → Bool
has_value [] v = false
has_value (u ∷ us) v = is_same_value u v || has_value us v

-- a value goes last, unless it is there already
abbrev pub with_value : List Value → Value → List Value
with_value values v = if has_value values v then values else values ++ v ∷ []

-- a start value is one of the constants of its kind
abbrev pub noted : Constants → Value → Constants
noted cs (value.Bool b) = record { numbers = cs.numbers; names = cs.names; truths = with_value cs.truths (value.Bool b) }
noted cs (value.Num z) = record { numbers = with_value cs.numbers (value.Num z); names = cs.names; truths = cs.truths }
noted cs (value.Name code) = record { numbers = cs.numbers; names = with_value cs.names (value.Name code); truths = cs.truths }

abbrev pub all_noted : Constants → List Value → Constants
all_noted cs [] = cs
all_noted cs (v ∷ vs) = all_noted (noted cs v) vs

abbrev pub start_of : Field → Value
start_of (field.Plain name sort start) = start
start_of (field.Keyed name key sort start) = start

-- every type has these
abbrev pub first_constants : Constants
first_constants = record { numbers = value.Num (pos 0) ∷ []; names = value.Name 0 ∷ []; truths = value.Bool false ∷ [] }

-- 0, the empty name and `false`, and then the start values of the fields, in the order in which they first appear
abbrev pub constants_of : List Field → Constants
constants_of fields = all_noted first_constants (map start_of fields)

-- the constants of a kind
abbrev pub of_kind : Constants → Kind → List Value
of_kind cs kind.Number = cs.numbers
of_kind cs kind.Name = cs.names
of_kind cs kind.Truth = cs.truths

-- the place of a value in a list, or its length if the value isn't there
abbrev pub place_of : Value → List Value → ℕ
place_of v [] = 0
place_of v (u ∷ us) = if is_same_value u v then 0 else suc (place_of v us)

abbrev pub value_at : List Value → ℕ → Value
value_at values place = slice_index_or values place (value.Bool false)
