-- What an operation gives to the leaves of a cell, and to a set.
use Rattle.std.specs.Prelude.{true, false, List, [], ◌∷◌, map, Option, None, Some, slice_get, pos, neg_ℤ}
use Rattle.std.specs.declared.cmp.Ordering.{Ordering}
use Rattle.std.specs.Int.{int_max}
use Rattle.std.specs.Option.{option_flatten}
use Rattle.kat_num.specs.declared.values.Value.{Value}
use Rattle.kat_num.specs.declared.values.Value.TheVariants as value
use Rattle.kat_expr.specs.Evaluation.{number_of}
use Rattle.kat_expr.specs.Slots.{argument}
use Rattle.kat_lattice.specs.Sets.{sets_joined}
use Rattle.kat_shape.specs.Flats.{filled_with}
use Rattle.kat_shape.specs.Forms.{CellForm}
use Rattle.kat_shape.specs.Values.{Filled, joined}
use Rattle.kat_type.specs.declared.done.Done.{Done}
use Rattle.kat_design.specs.Meanings.{Effects}
use Rattle.kat_design.specs.declared.designs.Leaf.{Leaf}
use Rattle.kat_design.specs.declared.designs.Leaf.TheVariants as leaf

-- the value of a leaf for an operation: how far an argument is above or below 0 is at least 0
abbrev pub leaf_value : Done → Leaf → Value
leaf_value done (leaf.Arg place) = argument done.args place
leaf_value done leaf.Time = value.Num (pos done.time)
leaf_value done leaf.Replica = value.Num (pos done.replica)
leaf_value done leaf.Zero = value.Num (pos 0)
leaf_value done leaf.One = value.Num (pos 1)
leaf_value done (leaf.Pos place) = value.Num (int_max (number_of (argument done.args place)) (pos 0))
leaf_value done (leaf.Neg place) = value.Num (int_max (neg_ℤ (number_of (argument done.args place))) (pos 0))
leaf_value done leaf.False = value.Bool false
leaf_value done leaf.True = value.Bool true

-- the effect of an operation, if it has one
abbrev pub effect_of : {A : Type 0} → List (Option A) → Done → Option A
effect_of effects done = option_flatten (slice_get effects done.op)

-- what an operation gives to a cell: a value for each leaf, or the start if it has no effect
abbrev pub cell_effect : CellForm → List Value → Option (List Leaf) → Done → Filled
cell_effect shape starts None done = filled_with shape starts
cell_effect shape starts (Some leaves) done = filled_with shape (map (leaf_value done) leaves)

abbrev pub cell_effects : CellForm → List Value → List (Option (List Leaf)) → Effects Filled
cell_effects shape starts effects = record {
  start = filled_with shape starts;
  joined = joined;
  effect = λ done. cell_effect shape starts (effect_of effects done) done;
}

-- what an operation gives to a set: the key that it adds, or none
abbrev pub key_alone : {K : Type 0} → Option K → List K
key_alone None = []
key_alone (Some key) = key ∷ []

abbrev pub set_effects : {K : Type 0} → (K → K → Ordering) → (Done → Option K) → Effects (List K)
set_effects order key_of = record { start = []; joined = sets_joined order; effect = λ done. key_alone (key_of done) }
