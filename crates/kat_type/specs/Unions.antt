-- Lists of operations united, and lists that hold of each origin a prefix of the same operations.
use Rattle.std.specs.Prelude.{◌≡◌, ◌⊎◌, ℕ, ◌==◌, Bool, true, false, not, ◌&&◌, List, [], ◌∷◌, ◌++◌, filter, if◌then◌else◌}
use Rattle.std.specs.List.{list_any}
use Rattle.std.specs.Ordering.{int_eq}
use Rattle.kat_num.specs.declared.values.Value.{Value}
use Rattle.kat_num.specs.declared.values.Value.TheVariants as value
use Rattle.kat_type.specs.Lists.{Has}
use Rattle.kat_type.specs.declared.done.Done.{Done}

-- two values are one
abbrev pub is_same_value : Value → Value → Bool
is_same_value (value.Bool a) (value.Bool b) = if a then b else not b
is_same_value (value.Num a) (value.Num b) = int_eq a b
is_same_value (value.Name a) (value.Name b) = a == b
is_same_value a b = false

abbrev pub are_same_values : List Value → List Value → Bool
are_same_values [] [] = true
are_same_values (a ∷ args) (b ∷ others) = is_same_value a b && are_same_values args others
are_same_values args others = false

-- two operations are one
abbrev pub is_same : Done → Done → Bool
is_same one other =
    (one.replica == other.replica) && (one.time == other.time) && (one.op == other.op) && are_same_values one.args other.args

-- all operations of two lists, each once if each list has each once
abbrev pub united : List Done → List Done → List Done
united mine theirs = mine ++ filter (λ done. not (list_any (is_same done) mine)) theirs

-- of this origin each operation of the one list is in the other
abbrev pub AreAmong : ℕ → List Done → List Done → Type 0
AreAmong origin xs ys = (one : Done) → one.replica ≡ origin → Has xs one → Has ys one

-- of each origin the one list's operations are among the other's, or the other way round
abbrev pub AreNested : List Done → List Done → Type 0
AreNested xs ys = (origin : ℕ) → AreAmong origin xs ys ⊎ AreAmong origin ys xs
