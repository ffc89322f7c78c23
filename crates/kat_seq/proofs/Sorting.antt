-- States keep their sorts, and answers have theirs.
use Rattle.std.proofs.Common.{◌≡◌, ℕ, zero, suc, List, [], ◌∷◌, ◌++◌, Option, Some, None, All, get_or, ⊎_elim, inl, inr, refl, sym, ap, subst}
use Rattle.std.specs.Prelude.{◌⊎◌, map, slice_get, slice_set, MatchOption}
use Rattle.std.proofs.lemmas.List.Elements.{All-nil, All-head, All-tail}
use Rattle.kat_num.specs.Values.{HasSort}
use Rattle.kat_num.specs.declared.values.Sort.{Sort}
use Rattle.kat_num.specs.declared.values.Value.{Value}
use Rattle.kat_num.specs.declared.values.Value.TheVariants.{Bool as Truth, Num, Name}
use Rattle.kat_expr.specs.Evaluation.{value_of}
use Rattle.kat_expr.specs.Puts.{with_value}
use Rattle.kat_expr.specs.Slots.{argument, slot_at}
use Rattle.kat_expr.specs.Sorts.{FitsKept, FitsScope, Kept, Scope}
use Rattle.kat_expr.specs.Sorts.Kept.{one, each}
use Rattle.kat_expr.specs.Terms.{Term}
use Rattle.kat_expr.specs.declared.expressions.Slot.{Slot}
use Rattle.kat_expr.specs.declared.expressions.Slot.TheVariants.{Plain, Keyed}
use Rattle.kat_expr.proofs.Putting.{all_with}
use Rattle.kat_expr.proofs.Sorted.{value_has_sort}
use Rattle.kat_seq.specs.Sorts.{AnswersHaveSorts, KeepsFields, RunsGoOn, StatesKeepSorts}
use Rattle.kat_seq.specs.States.{change_of, changed, changed_by, operation_at, query_at, start_slot, started, stepped, stepped_by, with_keyed, with_plain, with_start}
use Rattle.kat_type.specs.Alike.{FitsType}
use Rattle.kat_type.specs.Fits.{AssignedFits, FitsEntry, FitsPlain, IsWellSorted, OperationFits, QueryFits, StartFits, kept_of, sorts_of}
use Rattle.kat_type.specs.Types.{Assigned, OperationForm, QueryForm, TypeForm}
use Rattle.kat_type.specs.Types.Assigned.{to_field, to_entry, to_start}
use Rattle.kat_type.specs.declared.done.Done.{Done}
use Rattle.kat_type.specs.declared.types.Field.{Field}
use Rattle.kat_type.specs.declared.types.Field.TheVariants as field
use Rattle.kat_type.specs.declared.types.Param.{Param}

-- what is got of a list is there, and has what all elements have
got : {X : Type 0} (xs : List X) (i : ℕ) (x d : X) → slice_get xs i ≡ Some x → get_or xs i d ≡ x
got [] i x d e = absurd (cc)
got (y ∷ ys) zero x d e = cc
got (y ∷ ys) (suc i) x d e = got ys i x d e

got_of_all : {X : Type 0} (P : X → Type 0) (xs : List X) (i : ℕ) (x : X) → All P xs → slice_get xs i ≡ Some x → P x
got_of_all P [] i x all e = absurd (cc)
got_of_all P (y ∷ ys) zero x all e = let is : y ≡ x = cc in subst P is (All-head P y ys all)
got_of_all P (y ∷ ys) (suc i) x all e = got_of_all P ys i x (All-tail P y ys all) e

-- what is got of a list of what was made of others was made of the one at its place
pub got_made : {X Y : Type 0} (f : X → Y) (xs : List X) (i : ℕ) (y : Y) → slice_get (map f xs) i ≡ Some y → (x : X) × (slice_get xs i ≡ Some x) × (f x ≡ y)
got_made f [] i y e = absurd (cc)
got_made f (x ∷ xs) zero y e = (x, refl, cc)
got_made f (x ∷ xs) (suc i) y e = got_made f xs i y e

-- at a place of a state in which one slot was replaced is the new slot or what was there
slot_set : (state : List Slot) (place : ℕ) (slot : Slot) (other : ℕ)
    → (slot_at (slice_set state place slot) other ≡ slot_at state other) ⊎ ((other ≡ place) × (slot_at (slice_set state place slot) other ≡ slot))
slot_set [] place slot other = inl refl
slot_set (s ∷ state) zero slot zero = inr (refl, refl)
slot_set (s ∷ state) zero slot (suc other) = inl refl
slot_set (s ∷ state) (suc place) slot zero = inl refl
slot_set (s ∷ state) (suc place) slot (suc other) = ⊎_elim
    (λ (as_it_was : slot_at (slice_set state place slot) other ≡ slot_at state other). inl as_it_was)
    (λ (new : (other ≡ place) × (slot_at (slice_set state place slot) other ≡ slot)). inr (ap suc new.0, new.1))
    (slot_set state place slot other)

-- a slot that fits replaces another
abbrev Keeps : List Kept → List Slot → Type 0
Keeps fields state = (place : ℕ) (kept : Kept) → slice_get fields place ≡ Some kept → FitsKept kept (slot_at state place)

keeps_set : (fields : List Kept) (state : List Slot) (place : ℕ) (slot : Slot) → ((kept : Kept) → slice_get fields place ≡ Some kept → FitsKept kept slot)
    → Keeps fields state → Keeps fields (slice_set state place slot)
keeps_set fields state place slot fits keeps other kept at = ⊎_elim
    (λ (as_it_was : slot_at (slice_set state place slot) other ≡ slot_at state other). subst (FitsKept kept) (sym as_it_was) (keeps other kept at))
    (λ (new : (other ≡ place) × (slot_at (slice_set state place slot) other ≡ slot)).
    subst (FitsKept kept) (sym new.1) (fits kept (subst (λ (i : ℕ). slice_get fields i ≡ Some kept) new.0 at)))
    (slot_set state place slot other)

-- a value of its sort in a field, and in a table at a key of its sort
plain_fits : (s : Sort) (value : Value) (slot : Slot) → HasSort s value → FitsKept (one s) slot → FitsKept (one s) (with_plain value slot)
plain_fits s value (Plain old) v fits = v
plain_fits s value (Keyed start entries) v fits = absurd fits

entries_fit : (key s : Sort) (at value : Value) (entries : List (Value × Value)) → HasSort key at → HasSort s value
    → All (λ (e : Value × Value). HasSort key e.0 × HasSort s e.1) entries → All (λ (e : Value × Value). HasSort key e.0 × HasSort s e.1) (with_value at value entries)
entries_fit key s (Truth b) value entries k v all = all
entries_fit key s (Num x) value entries k v all = all_with (λ (e : Value × Value). HasSort key e.0 × HasSort s e.1) (Num x) value entries all (k, v)
entries_fit key s (Name x) value entries k v all = all_with (λ (e : Value × Value). HasSort key e.0 × HasSort s e.1) (Name x) value entries all (k, v)

keyed_fits : (key s : Sort) (at value : Value) (slot : Slot) → HasSort key at → HasSort s value → FitsKept (each key s) slot → FitsKept (each key s) (with_keyed at value slot)
keyed_fits key s at value (Plain old) k v fits = absurd fits
keyed_fits key s at value (Keyed start entries) k v fits = (fits.0, entries_fit key s at value entries k v fits.1)

start_again_fits : (slot : Slot) (kept : Kept) → FitsKept kept slot → FitsKept kept (with_start slot)
start_again_fits (Plain value) kept fits = fits
start_again_fits (Keyed start entries) (one s) fits = absurd fits
start_again_fits (Keyed start entries) (each key s) fits = (fits.0, All-nil (λ (e : Value × Value). HasSort key e.0 × HasSort s e.1))

-- what is assigned to a place fits what is kept there
plain_assigned : (scope : Scope) (old : List Slot) (args : List Value) (right : Term) (slot : Slot) (kept : Kept) → FitsScope scope old args → FitsPlain scope right kept
    → FitsKept kept slot → FitsKept kept (with_plain (value_of right old args) slot)
plain_assigned scope old args right slot (one s) in' right_fits fits = plain_fits s (value_of right old args) slot (value_has_sort scope old args in' right s right_fits) fits
plain_assigned scope old args right slot (each key s) in' right_fits fits = absurd right_fits

entry_assigned : (scope : Scope) (old : List Slot) (args : List Value) (key : ℕ) (right : Term) (slot : Slot) (kept : Kept) → FitsScope scope old args
    → FitsEntry scope key right kept → FitsKept kept slot → FitsKept kept (with_keyed (argument args key) (value_of right old args) slot)
entry_assigned scope old args key right slot (one s) in' right_fits fits = absurd right_fits
entry_assigned scope old args key right slot (each wanted s) in' right_fits fits =
    keyed_fits wanted s (argument args key) (value_of right old args) slot (in'.params key wanted right_fits.0) (value_has_sort scope old args in' right s right_fits.1) fits

-- what an option says, if it is there
where_some : {X : Type 0} (o : Option X) (x : X) (P : X → Type 0) → o ≡ Some x → MatchOption o ⊥ P → P x
where_some None x P e h = absurd (cc)
where_some (Some y) x P e h = let is : y ≡ x = cc in subst P is h

change_keeps : (scope : Scope) (old : List Slot) (args : List Value) (a : Assigned) (state : List Slot) → FitsScope scope old args → AssignedFits scope a
    → Keeps scope.fields state → Keeps scope.fields (changed state (change_of old args a))
change_keeps scope old args (to_field place right) state in' fits keeps =
    keeps_set scope.fields state place (with_plain (value_of right old args) (slot_at state place))
    (λ kept at. plain_assigned scope old args right (slot_at state place) kept in' (where_some (slice_get scope.fields place) kept (FitsPlain scope right) at fits) (keeps place kept at)) keeps
change_keeps scope old args (to_entry place key right) state in' fits keeps =
    keeps_set scope.fields state place (with_keyed (argument args key) (value_of right old args) (slot_at state place))
    (λ kept at. entry_assigned scope old args key right (slot_at state place) kept in' (where_some (slice_get scope.fields place) kept (FitsEntry scope key right) at fits) (keeps place kept at)) keeps
change_keeps scope old args (to_start place) state in' fits keeps =
    keeps_set scope.fields state place (with_start (slot_at state place)) (λ kept at. start_again_fits (slot_at state place) kept (keeps place kept at)) keeps

changes_keep : (scope : Scope) (old : List Slot) (args : List Value) (assigned : List Assigned) (state : List Slot) → FitsScope scope old args → All (AssignedFits scope) assigned
    → Keeps scope.fields state → Keeps scope.fields (changed_by state (map (change_of old args) assigned))
changes_keep scope old args [] state in' fits keeps = keeps
changes_keep scope old args (a ∷ assigned) state in' fits keeps =
    changes_keep scope old args assigned (changed state (change_of old args a)) in' (All-tail (AssignedFits scope) a assigned fits)
    (change_keeps scope old args a state in' (All-head (AssignedFits scope) a assigned fits) keeps)

-- arguments of their sorts and a state that keeps its fields fit the scope
in_scope : (ty : TypeForm) (params : List Param) (state : List Slot) (args : List Value) → KeepsFields ty state
    → ((place : ℕ) (p : Param) → slice_get params place ≡ Some p → HasSort p.sort (argument args place)) → FitsScope (sorts_of ty.fields params) state args
in_scope ty params state args keeps fit = record {
  fields = keeps;
  params = λ place s at. let found = got_made (λ (p : Param). p.sort) params place s at in subst (λ (t : Sort). HasSort t (argument args place)) found.2 (fit place found.0 found.1);
}

step_keeps : (ty : TypeForm) (state : List Slot) (done : Done) → IsWellSorted ty → FitsType ty done → KeepsFields ty state → KeepsFields ty (stepped ty state done)
step_keeps ty state done sorted fits keeps =
    let o = fits.operation in
    let is : operation_at ty done.op ≡ o = got ty.ops done.op o _ fits.there in
    let all = (got_of_all (OperationFits ty.fields) ty.ops done.op o sorted.operations fits.there).assigned in
    subst (λ (p : OperationForm). KeepsFields ty (changed_by state (map (change_of state done.args) p.assigned))) (sym is)
    (changes_keep (sorts_of ty.fields o.params) state done.args o.assigned state (in_scope ty o.params state done.args keeps fits.args) all keeps)

steps_keep : (ty : TypeForm) (state : List Slot) (dones : List Done) → IsWellSorted ty → All (FitsType ty) dones → KeepsFields ty state → KeepsFields ty (stepped_by ty state dones)
steps_keep ty state [] sorted fits keeps = keeps
steps_keep ty state (done ∷ dones) sorted fits keeps =
    steps_keep ty (stepped ty state done) dones sorted (All-tail (FitsType ty) done dones fits) (step_keeps ty state done sorted (All-head (FitsType ty) done dones fits) keeps)

-- starts have their sorts
start_fits : (f : Field) → StartFits f → FitsKept (kept_of f) (start_slot f)
start_fits (field.Plain name s start) fits = fits
start_fits (field.Keyed name key s start) fits = (fits, All-nil (λ (e : Value × Value). HasSort key e.0 × HasSort s e.1))

starts_fit : (fields : List Field) → All StartFits fields → (place : ℕ) (kept : Kept) → slice_get (map kept_of fields) place ≡ Some kept
    → FitsKept kept (slot_at (map start_slot fields) place)
starts_fit [] fits place kept at = absurd (cc)
starts_fit (f ∷ fields) fits zero kept at =
    let is : kept_of f ≡ kept = cc in subst (λ (k : Kept). FitsKept k (start_slot f)) is (start_fits f (All-head StartFits f fields fits))
starts_fit (f ∷ fields) fits (suc place) kept at = starts_fit fields (All-tail StartFits f fields fits) place kept at

pub states_keep_sorts : StatesKeepSorts
states_keep_sorts ty dones sorted fits = steps_keep ty (started ty) dones sorted fits (starts_fit ty.fields sorted.starts)

pub answers_have_sorts : AnswersHaveSorts
answers_have_sorts ty state query q args sorted keeps there fit =
    let is : query_at ty query ≡ q = got ty.queries query q _ there in
    subst (λ (p : QueryForm). HasSort q.sort (value_of p.right state args)) (sym is)
    (value_has_sort (sorts_of ty.fields q.params) state args (in_scope ty q.params state args keeps fit) q.right q.sort
    (got_of_all (QueryFits ty.fields) ty.queries query q sorted.queries there).right)

-- operations done after others
pub runs_on : (ty : TypeForm) (state : List Slot) (dones more : List Done) → stepped_by ty state (dones ++ more) ≡ stepped_by ty (stepped_by ty state dones) more
runs_on ty state [] more = refl
runs_on ty state (done ∷ dones) more = runs_on ty (stepped ty state done) dones more

pub runs_go_on : RunsGoOn
runs_go_on ty dones more = runs_on ty (started ty) dones more
