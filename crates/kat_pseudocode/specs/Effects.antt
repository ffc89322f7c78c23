-- What each operation does, in pseudo-code.
use Rattle.std.specs.Prelude.{ℕ, List, [], ◌∷◌, ◌++◌, map, codes, Option, None, Some, slice_get, if◌then◌else◌}
use Rattle.std.specs.Option.{option_flatten}
use Rattle.kat_design.specs.Designs.{ComponentForm}
use Rattle.kat_design.specs.Designs.ComponentForm.{a_cell, a_table, a_set, a_tally, tallies}
use Rattle.kat_design.specs.Kinds.{is_chain}
use Rattle.kat_design.specs.declared.designs.Leaf.{Leaf}
use Rattle.kat_design.specs.declared.designs.Leaf.TheVariants.{Arg, Time, Replica, Zero, One, Pos, Neg, False, True}
use Rattle.kat_pseudocode.specs.Phrases.{say}
use Rattle.kat_pseudocode.specs.declared.phrases.Phrase.TheVariants as phrase
use Rattle.kat_pseudocode.specs.Keeping.{is_or}
use Rattle.kat_pseudocode.specs.Texts.{at_key, call_text, each_from, own, param_text, text_at, tuple}
use Rattle.kat_shape.specs.Forms.{CellForm}
use Rattle.kat_type.specs.Types.{OperationForm}
use Rattle.kat_type.specs.declared.types.Param.{Param}

-- what an operation with these parameters gives
abbrev pub leaf_text : List Param → Leaf → List ℕ
leaf_text params (Arg place) = param_text params place
leaf_text params Time = codes "time"
leaf_text params Replica = codes "replica"
leaf_text params Zero = codes "0"
leaf_text params One = codes "1"
leaf_text params (Pos place) = codes "max(" ++ param_text params place ++ codes ", 0)"
leaf_text params (Neg place) = codes "max(-" ++ param_text params place ++ codes ", 0)"
leaf_text params False = codes "false"
leaf_text params True = codes "true"

-- two values of a shape joined
abbrev pub join_word : CellForm → List ℕ
join_word shape = if is_chain shape then codes "max(" else codes "join("

unfoldable pub joined_text : CellForm → List ℕ → List ℕ → List ℕ
joined_text shape left right =
    if is_or shape then left ++ codes " or " ++ right else join_word shape ++ left ++ codes ", " ++ right ++ codes ")"

-- leaves are joined to what is at a place
abbrev pub value_line : CellForm → List Param → List ℕ → List Leaf → List ℕ
value_line shape params place leaves =
    say phrase.Deep ++ place ++ codes " = " ++ joined_text shape place (tuple (map (leaf_text params) leaves)) ++ codes "\n"

-- a key is added to a set
abbrev pub member_line : List Param → List ℕ → ℕ → List ℕ
member_line params place key = say phrase.Deep ++ place ++ codes ".add(" ++ param_text params key ++ codes ")\n"

-- a weight is added to the replica's own sum
abbrev pub weight_line : List Param → List ℕ → Leaf → List ℕ
weight_line params place weight = say phrase.Deep ++ place ++ say phrase.OwnSum ++ leaf_text params weight ++ codes "\n"

-- the same for what an operation does to a component of this name, if anything
abbrev pub cell_effect : CellForm → List Param → List ℕ → Option (List Leaf) → List ℕ
cell_effect shape params name None = []
cell_effect shape params name (Some leaves) = value_line shape params (own name) leaves

abbrev pub table_effect : CellForm → List Param → List ℕ → Option (ℕ × List Leaf) → List ℕ
table_effect shape params name None = []
table_effect shape params name (Some effect) = value_line shape params (at_key (own name) (param_text params effect.0)) effect.1

abbrev pub set_effect : List Param → List ℕ → Option ℕ → List ℕ
set_effect params name None = []
set_effect params name (Some key) = member_line params (own name) key

abbrev pub tally_effect : List Param → List ℕ → Option Leaf → List ℕ
tally_effect params name None = []
tally_effect params name (Some weight) = weight_line params (own name) weight

abbrev pub tallies_effect : List Param → List ℕ → Option (ℕ × Leaf) → List ℕ
tallies_effect params name None = []
tallies_effect params name (Some effect) = weight_line params (at_key (own name) (param_text params effect.0)) effect.1

-- what the operation with a number does to a component
abbrev pub effect_text : List Param → ℕ → List ℕ → ComponentForm → List ℕ
effect_text params op name (a_cell shape starts effects) = cell_effect shape params name (option_flatten (slice_get effects op))
effect_text params op name (a_table key shape starts effects) = table_effect shape params name (option_flatten (slice_get effects op))
effect_text params op name (a_set key effects) = set_effect params name (option_flatten (slice_get effects op))
effect_text params op name (a_tally effects) = tally_effect params name (option_flatten (slice_get effects op))
effect_text params op name (tallies key effects) = tallies_effect params name (option_flatten (slice_get effects op))

-- what it does to all of them
abbrev pub effects_text : List (List ℕ) → List ComponentForm → List Param → ℕ → List ℕ
effects_text names components params op = each_from (λ place c. effect_text params op (text_at names place) c) 0 components

abbrev pub or_nothing : List ℕ → List ℕ
or_nothing [] = say phrase.DoesNothing
or_nothing (byte ∷ bytes) = byte ∷ bytes

-- an operation with a number
abbrev pub op_text : List (List ℕ) → List ComponentForm → ℕ → OperationForm → List ℕ
op_text names components op o =
    codes "    " ++ call_text o.name o.params ++ codes ":\n" ++ or_nothing (effects_text names components o.params op)
