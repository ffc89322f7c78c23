-- Situations: a state of a sequential type and one of a design side by side, and the last operation; how an operation changes them.
use Rattle.std.specs.Prelude.{ℕ, ℤ, pos, ◌+ℤ◌, Bool, false, ◌||◌, List, Option, None, Some, slice_get, if◌then◌else◌}
use Rattle.kat_num.specs.declared.values.Value.{Value}
use Rattle.kat_num.specs.declared.values.Value.TheVariants as value
use Rattle.kat_expr.specs.Slots.{argument, entry_at, is_same}
use Rattle.kat_expr.specs.declared.expressions.Slot.{Slot}
use Rattle.kat_expr.specs.declared.expressions.Slot.TheVariants.{Plain, Keyed}
use Rattle.kat_type.specs.Ranks.{rank_of}
use Rattle.kat_type.specs.Types.{TypeForm}
use Rattle.kat_type.specs.declared.done.Done.{Done}
use Rattle.kat_seq.specs.States.{started, stepped}
use Rattle.kat_shape.specs.Flats.{filled_with}
use Rattle.kat_shape.specs.Values.{Filled}
use Rattle.kat_design.specs.Answers.{leaf_of}
use Rattle.kat_design.specs.Denotations.{cell_added, weight_of}
use Rattle.kat_design.specs.Designs.{ComponentForm, DesignForm}
use Rattle.kat_design.specs.Designs.ComponentForm.{a_cell, a_table, a_set, a_tally, tallies}
use Rattle.kat_design.specs.Effects.{effect_of}

-- what a component holds at one key: a cell, whether the key is in the set, or the sum of a tally over all replicas
pub data Held : Type 0 where
  cell : Filled → Held
  member : Bool → Held
  total : ℤ → Held

-- the last operation: the elements of its rank, its time and its replica
pub record Last : Type 0 where
  pub rank : List Value
  pub time : ℕ
  pub replica : ℕ

-- A state of the type; what each component of the design holds at each key, where a component without keys is read at
-- the key `absent`; and the last operation, if there was one.
pub record Situation : Type 0 where
  pub state : List Slot
  pub held : ℕ → Value → Held
  pub last : Option Last

-- the leaf of what is held; a set and a tally have one leaf
abbrev pub leaf_in : Held → ℕ → Value
leaf_in (cell c) place = leaf_of c place
leaf_in (member b) place = value.Bool b
leaf_in (total z) place = value.Num z

-- what a field has: its value, or that of a table at the key
abbrev pub slot_value : Value → Slot → Value
slot_value key (Plain v) = v
slot_value key (Keyed start entries) = entry_at key start entries

-- what a component holds at first, at each key
abbrev pub held_start : ComponentForm → Held
held_start (a_cell shape starts effects) = cell (filled_with shape starts)
held_start (a_table key shape starts effects) = cell (filled_with shape starts)
held_start (a_set key effects) = member false
held_start (a_tally effects) = total (pos 0)
held_start (tallies key effects) = total (pos 0)

abbrev pub starts_of : Option ComponentForm → Held
starts_of None = member false
starts_of (Some component) = held_start component

-- the situation before all operations
abbrev pub start_of : TypeForm → DesignForm → Situation
start_of ty d = record { state = started ty; held = λ component key. starts_of (slice_get d.components component); last = None }

-- what an operation gives at a key: its effect if the key is the argument that the effect names
abbrev pub given_at : {A : Type 0} → Value → Done → Option (ℕ × A) → Option A
given_at key done None = None
given_at key done (Some effect) = if is_same key (argument done.args effect.0) then Some effect.1 else None

-- whether an operation adds a key to a set
abbrev pub is_added : Value → Done → Option ℕ → Bool
is_added key done None = false
is_added key done (Some place) = is_same key (argument done.args place)

-- What a component holds at a key after an operation: a cell joined with the effect, a set with the key that is
-- added, a sum grown by the weight.
abbrev pub held_after : ComponentForm → Done → Value → Held → Held
held_after (a_cell shape starts effects) done key (cell c) = cell (cell_added shape c (effect_of effects done) done)
held_after (a_table sort shape starts effects) done key (cell c) = cell (cell_added shape c (given_at key done (effect_of effects done)) done)
held_after (a_set sort effects) done key (member b) = member (b || is_added key done (effect_of effects done))
held_after (a_tally effects) done key (total z) = total (z +ℤ pos (weight_of (effect_of effects done) done))
held_after (tallies sort effects) done key (total z) = total (z +ℤ pos (weight_of (given_at key done (effect_of effects done)) done))
held_after component done key held = held

abbrev pub part_after : Option ComponentForm → Done → Value → Held → Held
part_after None done key held = held
part_after (Some component) done key held = held_after component done key held

-- The situation after an operation, which becomes the last one.
abbrev pub after : TypeForm → DesignForm → Done → Situation → Situation
after ty d done s = record {
  state = stepped ty s.state done;
  held = λ component key. part_after (slice_get d.components component) done key (s.held component key);
  last = Some (record { rank = rank_of ty done; time = done.time; replica = done.replica });
}
