-- What a sequential type keeps, how an operation changes it, and what a query answers.
use Rattle.std.specs.Prelude.{ℕ, List, [], ◌∷◌, map, slice_set}
use Rattle.std.specs.List.{slice_index_or}
use Rattle.kat_num.specs.declared.values.Sort.TheVariants as sort
use Rattle.kat_num.specs.declared.values.Value.{Value}
use Rattle.kat_expr.specs.Evaluation.{value_of}
use Rattle.kat_expr.specs.Puts.{with_value}
use Rattle.kat_expr.specs.Slots.{absent, argument, slot_at}
use Rattle.kat_expr.specs.Terms.Term.{constant}
use Rattle.kat_expr.specs.declared.expressions.Slot.{Slot}
use Rattle.kat_expr.specs.declared.expressions.Slot.TheVariants.{Plain, Keyed}
use Rattle.kat_seq.specs.declared.changes.Change.{Change}
use Rattle.kat_seq.specs.declared.changes.Change.TheVariants as change
use Rattle.kat_type.specs.Types.{Assigned, OperationForm, QueryForm, TypeForm}
use Rattle.kat_type.specs.Types.Assigned.{to_field, to_entry, to_start}
use Rattle.kat_type.specs.declared.done.Done.{Done}
use Rattle.kat_type.specs.declared.types.Field.{Field}
use Rattle.kat_type.specs.declared.types.Field.TheVariants as field

-- each field at first has its start, a table at every key
abbrev pub start_slot : Field → Slot
start_slot (field.Plain name s start) = Plain start
start_slot (field.Keyed name key s start) = Keyed start []

abbrev pub started : TypeForm → List Slot
started ty = map start_slot ty.fields

-- what is assigned, in a state with arguments: a value for a field, or for a table at a key; or a table that is cleared
abbrev pub change_of : List Slot → List Value → Assigned → Change
change_of state args (to_field place right) = change.Plain place (value_of right state args)
change_of state args (to_entry place key right) = change.Keyed place (argument args key) (value_of right state args)
change_of state args (to_start place) = change.Cleared place

-- the slot of a field with another value, and that of a table with another value at a key
abbrev pub with_plain : Value → Slot → Slot
with_plain value (Plain old) = Plain value
with_plain value (Keyed start entries) = Keyed start entries

abbrev pub with_keyed : Value → Value → Slot → Slot
with_keyed key value (Plain old) = Plain old
with_keyed key value (Keyed start entries) = Keyed start (with_value key value entries)

-- a table that is cleared has its start at every key
abbrev pub with_start : Slot → Slot
with_start (Plain old) = Plain old
with_start (Keyed start entries) = Keyed start []

abbrev pub changed : List Slot → Change → List Slot
changed state (change.Plain place value) = slice_set state place (with_plain value (slot_at state place))
changed state (change.Keyed place key value) = slice_set state place (with_keyed key value (slot_at state place))
changed state (change.Cleared place) = slice_set state place (with_start (slot_at state place))

abbrev pub changed_by : List Slot → List Change → List Slot
changed_by state [] = state
changed_by state (first ∷ changes) = changed_by (changed state first) changes

-- the operation and the query with a number; if there is none, one that assigns nothing, and one that answers
-- `false`
abbrev pub operation_at : TypeForm → ℕ → OperationForm
operation_at ty op = slice_index_or ty.ops op (record { name = 0; params = []; ranks = []; assigned = [] })

abbrev pub query_at : TypeForm → ℕ → QueryForm
query_at ty query = slice_index_or ty.queries query (record { name = 0; params = []; sort = sort.Bool; right = constant absent })

-- the state after an operation: all right sides are taken in the old state, and then assigned, and tables cleared
abbrev pub stepped : TypeForm → List Slot → Done → List Slot
stepped ty state done = changed_by state (map (change_of state done.args) (operation_at ty done.op).assigned)

-- the state after operations, one after the other
abbrev pub stepped_by : TypeForm → List Slot → List Done → List Slot
stepped_by ty state [] = state
stepped_by ty state (done ∷ dones) = stepped_by ty (stepped ty state done) dones

abbrev pub state_after : TypeForm → List Done → List Slot
state_after ty dones = stepped_by ty (started ty) dones

-- the answer of a query in a state
abbrev pub answer_of : TypeForm → List Slot → ℕ → List Value → Value
answer_of ty state query args = value_of (query_at ty query).right state args
