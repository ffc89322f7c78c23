-- Used inside only.
-- A change is taken back.
use Rattle.std.specs.Prelude.{ℕ, List, Option, None, Some, slice_set}
use Rattle.kat_num.specs.declared.values.Value.{Value}
use Rattle.kat_expr.specs.Entries.{AreAscending}
use Rattle.kat_expr.specs.Puts.{IsInside, taken_back}
use Rattle.kat_expr.specs.Slots.{slot_at}
use Rattle.kat_expr.specs.declared.entries.Undo.{Undo}
use Rattle.kat_expr.specs.declared.expressions.Slot.{Slot}
use Rattle.kat_expr.specs.declared.expressions.Slot.TheVariants.{Plain, Keyed}
use Rattle.kat_seq.specs.States.{changed}
use Rattle.kat_seq.specs.declared.changes.Change.TheVariants as change

-- the value that a field had is given back, if there was one
abbrev pub plain_back : ℕ → Option Value → List Slot → List Slot
plain_back place None state = state
plain_back place (Some value) state = changed state (change.Plain place value)

-- a step on the entries of a table is taken back
abbrev pub with_undone : Undo → Slot → Slot
with_undone undo (Plain value) = Plain value
with_undone undo (Keyed start entries) = Keyed start (taken_back undo entries)

abbrev pub keyed_back : ℕ → Undo → List Slot → List Slot
keyed_back place undo state = slice_set state place (with_undone undo (slot_at state place))

-- the entries that a table had are given back
abbrev pub with_entries : List (Value × Value) → Slot → Slot
with_entries old (Plain value) = Plain value
with_entries old (Keyed start entries) = Keyed start old

abbrev pub table_back : ℕ → Option (List (Value × Value)) → List Slot → List Slot
table_back place None state = state
table_back place (Some old) state = slice_set state place (with_entries old (slot_at state place))

abbrev pub IsUndoable : Undo → Slot → Type 0
IsUndoable undo (Plain value) = Unit {0}
IsUndoable undo (Keyed start entries) = IsInside undo entries × AreAscending (taken_back undo entries)
