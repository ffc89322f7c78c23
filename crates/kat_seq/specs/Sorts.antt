-- What a state keeps and what queries answer have their sorts.
use Rattle.std.specs.Prelude.{◌≡◌, ℕ, List, ◌++◌, map, Some, slice_get, All}
use Rattle.kat_num.specs.Values.{HasSort}
use Rattle.kat_num.specs.declared.values.Value.{Value}
use Rattle.kat_expr.specs.Slots.{argument, slot_at}
use Rattle.kat_expr.specs.Sorts.{FitsKept, Kept}
use Rattle.kat_expr.specs.declared.expressions.Slot.{Slot}
use Rattle.kat_seq.specs.States.{answer_of, state_after, stepped_by}
use Rattle.kat_type.specs.Alike.{FitsType}
use Rattle.kat_type.specs.Fits.{IsWellSorted, kept_of}
use Rattle.kat_type.specs.Types.{QueryForm, TypeForm}
use Rattle.kat_type.specs.declared.done.Done.{Done}
use Rattle.kat_type.specs.declared.types.Param.{Param}

-- each slot keeps what its field is to keep: a value of the field's sort, or such values at keys of the key sort
abbrev pub KeepsFields : TypeForm → List Slot → Type 0
KeepsFields ty state = (place : ℕ) (kept : Kept) → slice_get (map kept_of ty.fields) place ≡ Some kept → FitsKept kept (slot_at state place)

-- so it is after operations of a well-sorted type, done with arguments of their sorts
abbrev pub StatesKeepSorts : Type 0
StatesKeepSorts = (ty : TypeForm) (dones : List Done) → IsWellSorted ty → All (FitsType ty) dones → KeepsFields ty (state_after ty dones)

-- the answer of a query with arguments of their sorts has the query's sort
abbrev pub AnswersHaveSorts : Type 0
AnswersHaveSorts = (ty : TypeForm) (state : List Slot) (query : ℕ) (q : QueryForm) (args : List Value) → IsWellSorted ty → KeepsFields ty state
    → slice_get ty.queries query ≡ Some q → ((place : ℕ) (p : Param) → slice_get q.params place ≡ Some p → HasSort p.sort (argument args place))
    → HasSort q.sort (answer_of ty state query args)

-- operations done after others go on from what these left
abbrev pub RunsGoOn : Type 0
RunsGoOn = (ty : TypeForm) (dones more : List Done) → state_after ty (dones ++ more) ≡ stepped_by ty (state_after ty dones) more
