-- Legal situations, and operations that may follow.
use Rattle.std.specs.Prelude.{◌≡◌, ◌≢◌, ℕ, ◌≤◌, List, length, MatchOption, None, Some, pos, slice_get}
use Rattle.std.specs.declared.cmp.Ordering.TheVariants.{Less}
use Rattle.kat_num.specs.declared.values.Value.{Value}
use Rattle.kat_num.specs.declared.values.Value.TheVariants as value
use Rattle.kat_expr.specs.Slots.{read_plain, read_table, slot_at}
use Rattle.kat_expr.specs.declared.expressions.Slot.{Slot}
use Rattle.kat_expr.specs.declared.expressions.Slot.TheVariants.{Plain, Keyed}
use Rattle.kat_type.specs.Alike.{FitsType, element_kind}
use Rattle.kat_type.specs.Ranks.{kind_of, rank_cmp, rank_of}
use Rattle.kat_type.specs.Types.{OperationForm, TypeForm}
use Rattle.kat_type.specs.declared.done.Done.{Done}
use Rattle.kat_type.specs.declared.types.Param.{Param}
use Rattle.kat_type.specs.declared.types.Rank.{Rank}
use Rattle.kat_type.specs.declared.types.Rank.TheVariants.{Digit, Time, Replica, Arg}
use Rattle.kat_seq.specs.Sorts.{KeepsFields}
use Rattle.kat_seq.specs.States.{started}
use Rattle.kat_shape.specs.Values.{shape_of}
use Rattle.kat_design.specs.Designs.{ComponentForm, DesignForm}
use Rattle.kat_design.specs.Designs.ComponentForm.{a_cell, a_table, a_set, a_tally, tallies}
use Rattle.kat_design.specs.Sorted.{AreMatched}
use Rattle.kat_claims.specs.States.{field_start}
use Rattle.kat_invariant.specs.Situations.{Held, Last, Situation, held_start}
use Rattle.kat_invariant.specs.Situations.Held.{cell, member, total}

-- a component holds what its kind holds: a cell of its shape, whether a set has the key, or a sum
abbrev pub FitsHeld : ComponentForm → Held → Type 0
FitsHeld (a_cell shape starts effects) (cell c) = shape_of c ≡ shape
FitsHeld (a_table key shape starts effects) (cell c) = shape_of c ≡ shape
FitsHeld (a_set key effects) (member b) = Unit {0}
FitsHeld (a_tally effects) (total z) = Unit {0}
FitsHeld (tallies key effects) (total z) = Unit {0}
FitsHeld _ _ = ⊥

abbrev pub HoldsParts : DesignForm → (ℕ → Value → Held) → Type 0
HoldsParts d held = (place : ℕ) (component : ComponentForm) → slice_get d.components place ≡ Some component → (key : Value) → FitsHeld component (held place key)

-- every field and every part has its start, at every key
pub record IsAtStart (ty : TypeForm) (d : DesignForm) (s : Situation) : Type 0 where
  pub fields : (place : ℕ) → read_plain (slot_at s.state place) ≡ read_plain (slot_at (started ty) place)
  pub tables : (place : ℕ) (key : Value) → read_table key (slot_at s.state place) ≡ read_table key (slot_at (started ty) place)
  pub parts : (place : ℕ) (component : ComponentForm) → slice_get d.components place ≡ Some component → (key : Value) → s.held place key ≡ held_start component

-- the last rank has at this place the digit, the last time or the last replica; if the rank has a parameter, any
-- value of the parameter's kind
abbrev pub HasElement : Last → List Param → Value → Rank → Type 0
HasElement last params v (Digit n) = v ≡ value.Num (pos n)
HasElement last params v Time = v ≡ value.Num (pos last.time)
HasElement last params v Replica = v ≡ value.Num (pos last.replica)
HasElement last params v (Arg place) = kind_of v ≡ element_kind params (Arg place)

-- the last operation has a time and a replica from 1 on, and its rank is that of some operation of the type
pub record IsLegalLast (ty : TypeForm) (last : Last) : Type 0 where
  pub time : 1 ≤ last.time
  pub replica : 1 ≤ last.replica
  pub op : ℕ
  pub operation : OperationForm
  pub there : slice_get ty.ops op ≡ Some operation
  pub shape : AreMatched (HasElement last operation.params) last.rank operation.ranks

-- a table has this start
abbrev pub StartsAt : Value → Slot → Type 0
StartsAt v (Plain old) = Unit {0}
StartsAt v (Keyed start entries) = start ≡ v

-- There is a slot for each field, tables have their fields' starts, fields and parts have what they may have (so a natural number is at least 0, at every key), before the first
-- operation all have their starts, and the last operation is a legal one.
pub record IsLegal (ty : TypeForm) (d : DesignForm) (s : Situation) : Type 0 where
  pub whole : length s.state ≡ length ty.fields
  pub fields : KeepsFields ty s.state
  pub starts : (place : ℕ) → StartsAt (field_start (slice_get ty.fields place)) (slot_at s.state place)
  pub parts : HoldsParts d s.held
  pub fresh : s.last ≡ None → IsAtStart ty d s
  pub last : MatchOption s.last (Unit {0}) (IsLegalLast ty)

-- an operation comes after another: its rank isn't smaller, and it has another time or replica
pub record ComesBehind (ty : TypeForm) (done : Done) (last : Last) : Type 0 where
  pub ranked : rank_cmp (rank_of ty done) last.rank ≢ Less
  pub other : (done.time ≡ last.time) × (done.replica ≡ last.replica) → ⊥

-- An operation of the type may follow: its arguments fit, its time and replica are at least 1, and it comes after the
-- last one.
pub record MayFollow (ty : TypeForm) (done : Done) (s : Situation) : Type 0 where
  pub fits : FitsType ty done
  pub time : 1 ≤ done.time
  pub replica : 1 ≤ done.replica
  pub behind : MatchOption s.last (Unit {0}) (ComesBehind ty done)
