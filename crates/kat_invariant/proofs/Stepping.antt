-- What a field has after assignments: the last one's change of what the earlier ones leave.
use Rattle.std.proofs.Common.{◌≡◌, ◌≢◌, ℕ, ◌<◌, zero, suc, List, [], ◌∷◌, ◌++◌, length, refl, ap, subst, ◌∙◌}
use Rattle.std.specs.Prelude.{map, reverse, slice_set}
use Rattle.std.proofs.lemmas.List.{get_or-set_other, get_or-set_same, length-set, reverse-append}
use Rattle.kat_num.specs.declared.values.Value.{Value}
use Rattle.kat_expr.specs.Evaluation.{value_of}
use Rattle.kat_expr.specs.Slots.{absent, argument, slot_at}
use Rattle.kat_expr.specs.declared.expressions.Slot.{Slot}
use Rattle.kat_expr.specs.declared.expressions.Slot.TheVariants.{Plain, Keyed}
use Rattle.kat_invariant.specs.Legal.{StartsAt}
use Rattle.kat_type.specs.Types.{Assigned}
use Rattle.kat_type.specs.Types.Assigned.{to_field, to_entry, to_start}
use Rattle.kat_seq.specs.States.{change_of, changed, changed_by, with_keyed, with_plain, with_start}

abbrev pub place_assigned : Assigned → ℕ
place_assigned (to_field place right) = place
place_assigned (to_entry place key right) = place
place_assigned (to_start place) = place

-- a slot with what is assigned to it
abbrev pub written : List Slot → List Value → Assigned → Slot → Slot
written old args (to_field place right) slot = with_plain (value_of right old args) slot
written old args (to_entry place key right) slot = with_keyed (argument args key) (value_of right old args) slot
written old args (to_start place) slot = with_start slot

length_changed : (old : List Slot) (args : List Value) (a : Assigned) (state : List Slot) → length (changed state (change_of old args a)) ≡ length state
length_changed old args (to_field place right) state = length-set state place _
length_changed old args (to_entry place key right) state = length-set state place _
length_changed old args (to_start place) state = length-set state place _

pub length_after : (old : List Slot) (args : List Value) (assigned : List Assigned) (state : List Slot) → length (changed_by state (map (change_of old args) assigned)) ≡ length state
length_after old args [] state = refl
length_after old args (a ∷ assigned) state = length_after old args assigned (changed state (change_of old args a)) ∙ length_changed old args a state

-- the field that is assigned, and another field
pub written_there : (old : List Slot) (args : List Value) (a : Assigned) (state : List Slot) → place_assigned a < length state → slot_at (changed state (change_of old args a)) (place_assigned a) ≡ written old args a (slot_at state (place_assigned a))
written_there old args (to_field place right) state within = get_or-set_same state place _ (Plain absent) within
written_there old args (to_entry place key right) state within = get_or-set_same state place _ (Plain absent) within
written_there old args (to_start place) state within = get_or-set_same state place _ (Plain absent) within

pub written_elsewhere : (old : List Slot) (args : List Value) (a : Assigned) (state : List Slot) (f : ℕ) → f ≢ place_assigned a → slot_at (changed state (change_of old args a)) f ≡ slot_at state f
written_elsewhere old args (to_field place right) state f other = get_or-set_other state place f _ (Plain absent) other
written_elsewhere old args (to_entry place key right) state f other = get_or-set_other state place f _ (Plain absent) other
written_elsewhere old args (to_start place) state f other = get_or-set_other state place f _ (Plain absent) other

-- the state after assignments, given last first
abbrev pub state_behind : List Slot → List Value → List Assigned → List Slot
state_behind old args [] = old
state_behind old args (a ∷ more) = changed (state_behind old args more) (change_of old args a)

changed_append : (old : List Slot) (args : List Value) (xs ys : List Assigned) (state : List Slot) → changed_by state (map (change_of old args) (xs ++ ys)) ≡ changed_by (changed_by state (map (change_of old args) xs)) (map (change_of old args) ys)
changed_append old args [] ys state = refl
changed_append old args (x ∷ xs) ys state = changed_append old args xs ys (changed state (change_of old args x))

pub behind_is : (old : List Slot) (args : List Value) (more : List Assigned) → changed_by old (map (change_of old args) (reverse more)) ≡ state_behind old args more
behind_is old args [] = refl
behind_is old args (a ∷ more) =
    ap (λ (as' : List Assigned). changed_by old (map (change_of old args) as')) (reverse-append (a ∷ []) more)
    ∙ changed_append old args (reverse more) (a ∷ []) old
    ∙ ap (λ (state : List Slot). changed state (change_of old args a)) (behind_is old args more)

pub length_behind : (old : List Slot) (args : List Value) (more : List Assigned) → length (state_behind old args more) ≡ length old
length_behind old args [] = refl
length_behind old args (a ∷ more) = length_changed old args a (state_behind old args more) ∙ length_behind old args more

-- tables keep their starts
plain_starts : (v u : Value) (slot : Slot) → StartsAt v slot → StartsAt v (with_plain u slot)
plain_starts v u (Plain old) h = tt
plain_starts v u (Keyed start entries) h = h

keyed_starts : (v key u : Value) (slot : Slot) → StartsAt v slot → StartsAt v (with_keyed key u slot)
keyed_starts v key u (Plain old) h = tt
keyed_starts v key u (Keyed start entries) h = h

cleared_starts : (v : Value) (slot : Slot) → StartsAt v slot → StartsAt v (with_start slot)
cleared_starts v (Plain old) h = tt
cleared_starts v (Keyed start entries) h = h

set_starts : (v : Value) (state : List Slot) (place : ℕ) (new : Slot) (f : ℕ) → StartsAt v (slot_at state f) → (f ≡ place → StartsAt v new) → StartsAt v (slot_at (slice_set state place new) f)
set_starts v [] place new f h k = h
set_starts v (x ∷ state) zero new zero h k = k refl
set_starts v (x ∷ state) zero new (suc f) h k = h
set_starts v (x ∷ state) (suc place) new zero h k = h
set_starts v (x ∷ state) (suc place) new (suc f) h k = set_starts v state place new f h (λ is. k (ap suc is))

changed_starts : (old : List Slot) (args : List Value) (v : Value) (f : ℕ) (a : Assigned) (state : List Slot) → StartsAt v (slot_at state f) → StartsAt v (slot_at (changed state (change_of old args a)) f)
changed_starts old args v f (to_field place right) state h =
    set_starts v state place (with_plain (value_of right old args) (slot_at state place)) f h
    (λ is. plain_starts v (value_of right old args) (slot_at state place) (subst (λ n. StartsAt v (slot_at state n)) is h))
changed_starts old args v f (to_entry place key right) state h =
    set_starts v state place (with_keyed (argument args key) (value_of right old args) (slot_at state place)) f h
    (λ is. keyed_starts v (argument args key) (value_of right old args) (slot_at state place) (subst (λ n. StartsAt v (slot_at state n)) is h))
changed_starts old args v f (to_start place) state h =
    set_starts v state place (with_start (slot_at state place)) f h (λ is. cleared_starts v (slot_at state place) (subst (λ n. StartsAt v (slot_at state n)) is h))

pub starts_behind : (old : List Slot) (args : List Value) (v : Value) (f : ℕ) → StartsAt v (slot_at old f) → (more : List Assigned) → StartsAt v (slot_at (state_behind old args more) f)
starts_behind old args v f h [] = h
starts_behind old args v f h (a ∷ more) = changed_starts old args v f a (state_behind old args more) (starts_behind old args v f h more)
