-- The names of leaves: what the first operation that touches a component gives to them, or what they hold if none does.
use Rattle.std.specs.Prelude.{ℕ, ◌+◌, ◌-◌, ◌==◌, nat_lt, Bool, false, not, ◌&&◌, ◌||◌, List, [], ◌∷◌, ◌++◌, length, map, take, codes, Option, None, Some, slice_get, if◌then◌else◌}
use Rattle.std.specs.Fmt.{decimal}
use Rattle.kat_num.specs.Names.{name_of_code, code_of}
use Rattle.kat_design.specs.Designs.{ComponentForm}
use Rattle.kat_design.specs.Designs.ComponentForm.{a_cell, a_table, a_set, a_tally, tallies}
use Rattle.kat_design.specs.Kinds.{kinds_of}
use Rattle.kat_design.specs.declared.designs.Leaf.{Leaf}
use Rattle.kat_design.specs.declared.designs.Leaf.TheVariants.{Arg, Time, Replica, Zero, One, Pos, Neg, False, True}
use Rattle.kat_design.specs.declared.kinds.Kind.{Kind}
use Rattle.kat_design.specs.declared.kinds.Kind.TheVariants as kind
use Rattle.kat_pseudocode.specs.Texts.{text_at}
use Rattle.kat_shape.specs.Forms.{CellForm}
use Rattle.kat_type.specs.Types.{OperationForm}
use Rattle.kat_type.specs.declared.types.Param.{Param}

-- how often a word occurs in a list
abbrev pub counted : ℕ → List ℕ → ℕ
counted word [] = 0
counted word (w ∷ ws) = (if w == word then 1 else 0) + counted word ws

-- the name with a code; if another of the words is the same, its number comes after it
abbrev pub distinct_text : List ℕ → ℕ → ℕ → List ℕ
distinct_text words place word =
    if nat_lt 1 (counted word words) then name_of_code word ++ codes "#" ++ decimal (place + 1) else name_of_code word

abbrev pub distinct_from : List ℕ → ℕ → List ℕ → List (List ℕ)
distinct_from words place [] = []
distinct_from words place (w ∷ ws) = distinct_text words place w ∷ distinct_from words (place + 1) ws

-- names that are all different, for words given by their codes
abbrev pub distinct : List ℕ → List (List ℕ)
distinct words = distinct_from words 0 words

-- the words of leaves that are given the operation's time and its replica
abbrev pub time_word : ℕ
time_word = code_of (codes "time")

abbrev pub replica_word : ℕ
replica_word = code_of (codes "replica")

-- the word of a parameter by its number
abbrev pub given_word : Option Param → ℕ
given_word None = 0
given_word (Some p) = p.name

abbrev pub param_word : List Param → ℕ → ℕ
param_word params place = given_word (slice_get params place)

-- what a leaf is called, by what an operation with these parameters gives to it
abbrev pub leaf_word : List Param → Leaf → ℕ
leaf_word params (Arg place) = param_word params place
leaf_word params Time = time_word
leaf_word params Replica = replica_word
leaf_word params Zero = code_of (codes "number")
leaf_word params One = code_of (codes "number")
leaf_word params (Pos place) = code_of (codes "number")
leaf_word params (Neg place) = code_of (codes "number")
leaf_word params False = code_of (codes "flag")
leaf_word params True = code_of (codes "flag")

-- the parameters of an operation by its number
abbrev pub params_of : Option OperationForm → List Param
params_of None = []
params_of (Some o) = o.params

-- what leaves are called by what they hold
abbrev pub held_word : Kind → ℕ
held_word kind.Number = code_of (codes "number")
held_word kind.Name = code_of (codes "name")
held_word kind.Truth = code_of (codes "flag")

abbrev pub held_words : CellForm → List ℕ
held_words shape = map held_word (kinds_of shape)

-- the words of a cell's leaves and of a table's, by the first operation from this number on that touches it; by what they hold
-- if none does
abbrev pub cell_words : List OperationForm → CellForm → ℕ → List (Option (List Leaf)) → List ℕ
cell_words ops shape op [] = held_words shape
cell_words ops shape op (None ∷ effects) = cell_words ops shape (op + 1) effects
cell_words ops shape op (Some leaves ∷ effects) = map (leaf_word (params_of (slice_get ops op))) leaves

abbrev pub table_words : List OperationForm → CellForm → ℕ → List (Option (ℕ × List Leaf)) → List ℕ
table_words ops shape op [] = held_words shape
table_words ops shape op (None ∷ effects) = table_words ops shape (op + 1) effects
table_words ops shape op (Some effect ∷ effects) = map (leaf_word (params_of (slice_get ops op))) effect.1

-- the words of a component's leaves; those of a set, a tally and tallies have none
abbrev pub leaf_words : List OperationForm → ComponentForm → List ℕ
leaf_words ops (a_cell shape starts effects) = cell_words ops shape 0 effects
leaf_words ops (a_table key shape starts effects) = table_words ops shape 0 effects
leaf_words ops (a_set key effects) = []
leaf_words ops (a_tally effects) = []
leaf_words ops (tallies key effects) = []

-- the last leaf is a value that is under the others: it isn't the only one, nor the operation's time or replica
abbrev pub is_clock : ℕ → Bool
is_clock word = word == time_word || word == replica_word

abbrev pub is_value : Option ℕ → Bool
is_value None = false
is_value (Some word) = not (is_clock word)

abbrev pub has_value : List ℕ → Bool
has_value words = nat_lt 1 (length words) && is_value (slice_get words (length words - 1))

-- the leaves that decide which of two is kept: all but such a value
abbrev pub deciding : List ℕ → List (List ℕ)
deciding words = if has_value words then take (length words - 1) (distinct words) else distinct words

-- the name of such a value
abbrev pub value_name : List ℕ → List ℕ
value_name words = text_at (distinct words) (length words - 1)
