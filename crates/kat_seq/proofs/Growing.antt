-- How great the numbers of a state grow.
use Rattle.std.proofs.Common.{◌≡◌, ℕ, zero, suc, ◌+◌, ◌*◌, List, [], ◌∷◌, length, get_or, subst, arith}
use Rattle.std.specs.Prelude.{All, map}
use Rattle.std.proofs.lemmas.List.Elements.{All-cons, All-head, All-tail, All-set}
use Rattle.kat_num.specs.declared.values.TheConstants.{NUMBER_LIMIT}
use Rattle.kat_num.specs.declared.values.Value.{Value}
use Rattle.kat_num.specs.declared.values.Value.TheVariants.{Bool as Truth, Num, Name}
use Rattle.kat_expr.specs.Evaluation.{value_of}
use Rattle.kat_expr.specs.Limits.{IsAtMost, IsSlotAtMost}
use Rattle.kat_expr.specs.Puts.{with_value}
use Rattle.kat_expr.specs.Slots.{absent, argument, slot_at}
use Rattle.kat_expr.specs.declared.expressions.Slot.{Slot}
use Rattle.kat_expr.specs.declared.expressions.Slot.TheVariants.{Plain, Keyed}
use Rattle.kat_expr.proofs.Bounds.{at_most_size, weight_bound}
use Rattle.kat_expr.proofs.Limits.{more_slot}
use Rattle.kat_expr.proofs.Putting.{all_with}
use Rattle.kat_seq.specs.Sizes.{HaveSmallArguments, most_after}
use Rattle.kat_seq.specs.States.{change_of, changed, changed_by, operation_at, start_slot, started, state_after, stepped, stepped_by, with_keyed, with_plain, with_start}
use Rattle.kat_type.specs.Types.{Assigned, OperationForm, TypeForm}
use Rattle.kat_type.specs.Types.Assigned.{to_field, to_entry, to_start}
use Rattle.kat_type.specs.Within.{IsLimitedRight, IsLimitedStart, IsWithinLimits, right_of}
use Rattle.kat_type.specs.declared.done.Done.{Done}
use Rattle.kat_type.specs.declared.types.Field.{Field}
use Rattle.kat_type.specs.declared.types.Field.TheVariants as field

-- what holds of all elements and of the default holds at each place
pub read_all : {X : Type 0} (P : X → Type 0) (xs : List X) (i : ℕ) (d : X) → All P xs → P d → P (get_or xs i d)
read_all P [] i d all h = h
read_all P (x ∷ xs) zero d all h = all 0 x (omega arith)
read_all P (x ∷ xs) (suc i) d all h = read_all P xs i d (λ k e l. all (suc k) e (omega arith)) h

slot_small : (most : ℕ) (state : List Slot) (place : ℕ) → All (IsSlotAtMost most) state → IsSlotAtMost most (slot_at state place)
slot_small most state place all = read_all (IsSlotAtMost most) state place (Plain absent) all tt

plain_small : (most : ℕ) (value : Value) (slot : Slot) → IsAtMost most value → IsSlotAtMost most slot → IsSlotAtMost most (with_plain value slot)
plain_small most value (Plain old) v h = v
plain_small most value (Keyed start entries) v h = h

kept_small : (most : ℕ) (key value : Value) (entries : List (Value × Value)) → IsAtMost most value → All (λ (e : Value × Value). IsAtMost most e.1) entries
    → All (λ (e : Value × Value). IsAtMost most e.1) (with_value key value entries)
kept_small most (Truth b) value entries v h = h
kept_small most (Num x) value entries v h = all_with (λ (e : Value × Value). IsAtMost most e.1) (Num x) value entries h v
kept_small most (Name x) value entries v h = all_with (λ (e : Value × Value). IsAtMost most e.1) (Name x) value entries h v

keyed_small : (most : ℕ) (key value : Value) (slot : Slot) → IsAtMost most value → IsSlotAtMost most slot → IsSlotAtMost most (with_keyed key value slot)
keyed_small most key value (Plain old) v h = h
keyed_small most key value (Keyed start entries) v h = (h.0, kept_small most key value entries v h.1)

start_again_small : (most : ℕ) (slot : Slot) → IsSlotAtMost most slot → IsSlotAtMost most (with_start slot)
start_again_small most (Plain old) h = h
start_again_small most (Keyed start entries) h = (h.0, λ k d l. absurd (omega arith))

-- a change with a small value keeps the numbers small
changed_small : (most : ℕ) (old : List Slot) (args : List Value) (a : Assigned) (state : List Slot) → IsAtMost most (value_of (right_of a) old args)
    → All (IsSlotAtMost most) state → All (IsSlotAtMost most) (changed state (change_of old args a))
changed_small most old args (to_field place right) state v all =
    All-set (IsSlotAtMost most) state place (with_plain (value_of right old args) (slot_at state place))
    (plain_small most (value_of right old args) (slot_at state place) v (slot_small most state place all)) all
changed_small most old args (to_entry place key right) state v all =
    All-set (IsSlotAtMost most) state place (with_keyed (argument args key) (value_of right old args) (slot_at state place))
    (keyed_small most (argument args key) (value_of right old args) (slot_at state place) v (slot_small most state place all)) all
changed_small most old args (to_start place) state v all =
    All-set (IsSlotAtMost most) state place (with_start (slot_at state place))
    (start_again_small most (slot_at state place) (slot_small most state place all)) all

all_changed_small : (most : ℕ) (old : List Slot) (args : List Value) (assigned : List Assigned) (state : List Slot)
    → All (λ (a : Assigned). IsAtMost most (value_of (right_of a) old args)) assigned → All (IsSlotAtMost most) state
    → All (IsSlotAtMost most) (changed_by state (map (change_of old args) assigned))
all_changed_small most old args [] state v all = all
all_changed_small most old args (a ∷ assigned) state v all =
    all_changed_small most old args assigned (changed state (change_of old args a))
    (All-tail (λ (x : Assigned). IsAtMost most (value_of (right_of x) old args)) a assigned v)
    (changed_small most old args a state (All-head (λ (x : Assigned). IsAtMost most (value_of (right_of x) old args)) a assigned v) all)

value_small : (most : ℕ) (state : List Slot) (args : List Value) (a : Assigned) → All (IsSlotAtMost most) state → All (IsAtMost NUMBER_LIMIT) args
    → IsLimitedRight a → IsAtMost (most + 400 * NUMBER_LIMIT) (value_of (right_of a) state args)
value_small most state args a s v h =
    at_most_size (most + 400 * NUMBER_LIMIT) (value_of (right_of a) state args)
    (weight_bound most NUMBER_LIMIT (right_of a) state args s v h.limited.constants h.weight h.limited.nodes)

light_operation : (ty : TypeForm) (op : ℕ) → IsWithinLimits ty
    → All IsLimitedRight (operation_at ty op).assigned
light_operation ty op small =
    read_all (λ (o : OperationForm). All IsLimitedRight o.assigned) ty.ops op
    (record { name = 0; params = []; ranks = []; assigned = [] }) small.operations (λ k d l. absurd (omega arith))

pub stepped_small : (most : ℕ) (ty : TypeForm) (state : List Slot) (done : Done) → IsWithinLimits ty → All (IsSlotAtMost most) state
    → All (IsAtMost NUMBER_LIMIT) done.args → All (IsSlotAtMost (most + 400 * NUMBER_LIMIT)) (stepped ty state done)
stepped_small most ty state done small s v =
    all_changed_small (most + 400 * NUMBER_LIMIT) state done.args (operation_at ty done.op).assigned state
    (λ k d l. value_small most state done.args (get_or (operation_at ty done.op).assigned k d) s v (light_operation ty done.op small k d l))
    (λ k d l. more_slot most (most + 400 * NUMBER_LIMIT) (get_or state k d) (omega arith) (s k d l))

one_more : (most n : ℕ) → most + 400 * NUMBER_LIMIT + n * (400 * NUMBER_LIMIT) ≡ most + suc n * (400 * NUMBER_LIMIT)
one_more most n = omega arith

no_more : (most : ℕ) → most ≡ most + 0 * (400 * NUMBER_LIMIT)
no_more most = omega arith

pub all_stepped_small : (most : ℕ) (ty : TypeForm) (state : List Slot) (dones : List Done) → IsWithinLimits ty → All (IsSlotAtMost most) state
    → HaveSmallArguments dones → All (IsSlotAtMost (most + length dones * (400 * NUMBER_LIMIT))) (stepped_by ty state dones)
all_stepped_small most ty state [] small s v = subst (λ (m : ℕ). All (IsSlotAtMost m) state) (no_more most) s
all_stepped_small most ty state (done ∷ dones) small s v =
    subst (λ (m : ℕ). All (IsSlotAtMost m) (stepped_by ty (stepped ty state done) dones)) (one_more most (length dones))
    (all_stepped_small (most + 400 * NUMBER_LIMIT) ty (stepped ty state done) dones small
    (stepped_small most ty state done small s (All-head (λ (d : Done). All (IsAtMost NUMBER_LIMIT) d.args) done dones v))
    (All-tail (λ (d : Done). All (IsAtMost NUMBER_LIMIT) d.args) done dones v))

start_small : (f : Field) → IsLimitedStart f → IsSlotAtMost NUMBER_LIMIT (start_slot f)
start_small (field.Plain name s start) h = h
start_small (field.Keyed name key s start) h = (h, λ k d l. absurd (omega arith))

starts_small : (fields : List Field) → All IsLimitedStart fields → All (IsSlotAtMost NUMBER_LIMIT) (map start_slot fields)
starts_small [] h = λ k d l. absurd (omega arith)
starts_small (f ∷ fields) h =
    All-cons (IsSlotAtMost NUMBER_LIMIT) (start_slot f) (map start_slot fields) (start_small f (All-head IsLimitedStart f fields h))
    (starts_small fields (All-tail IsLimitedStart f fields h))

pub state_small : (ty : TypeForm) (dones : List Done) → IsWithinLimits ty → HaveSmallArguments dones
    → All (IsSlotAtMost (most_after (length dones))) (state_after ty dones)
state_small ty dones small v = all_stepped_small NUMBER_LIMIT ty (started ty) dones small (starts_small ty.fields small.starts) v
