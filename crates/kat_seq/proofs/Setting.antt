-- A slot of a state is changed and changed back.
use Rattle.std.proofs.Common.{◌≡◌, ℕ, ◌<◌, List, length, get_or, set, sym, ◌∙◌, ap, subst}
use Rattle.std.specs.Prelude.{Option, None, Some, MatchOption, IfOk, Result, Ok, Err}
use Rattle.std.proofs.lemmas.List.{set-set, set-get_or, get_or-set_same, get_or_default}
use Rattle.kat_num.specs.declared.values.Value.{Value}
use Rattle.kat_expr.specs.Slots.{absent, slot_at}
use Rattle.kat_expr.specs.declared.entries.Undo.{Undo}
use Rattle.kat_expr.specs.declared.expressions.Slot.{Slot}
use Rattle.kat_expr.specs.declared.expressions.Slot.TheVariants.{Plain}
use Rattle.kat_seq.specs.States.{with_plain}
use Rattle.kat_seq.specs.Undone.{IsUndoable, keyed_back, plain_back, table_back, with_entries, with_undone}

-- a slot that is written twice, at last as it was
pub set_back : (state : List Slot) (place : ℕ) (between back : Slot) → place < length state → back ≡ slot_at state place
    → set (set state place between) place back ≡ state
set_back state place between back h e =
    set-set state place between back ∙ ap (λ (x : Slot). set state place x) e ∙ set-get_or state place (Plain absent)

pub plain_returns : (state : List Slot) (place : ℕ) (old new : Slot) (told : Option Value) → place < length state → old ≡ slot_at state place
    → MatchOption told (new ≡ old) (λ value. with_plain value new ≡ old) → plain_back place told (set state place new) ≡ state
plain_returns state place old new None h e m = ap (λ (x : Slot). set state place x) (m ∙ e) ∙ set-get_or state place (Plain absent)
plain_returns state place old new (Some value) h e m =
    let there : slot_at (set state place new) place ≡ new = get_or-set_same state place new (Plain absent) h in
    set_back state place new (with_plain value (slot_at (set state place new) place)) h (ap (λ (x : Slot). with_plain value x) there ∙ m ∙ e)

pub table_returns : (state : List Slot) (place : ℕ) (old new : Slot) (told : Option (List (Value × Value))) → place < length state → old ≡ slot_at state place
    → MatchOption told (new ≡ old) (λ entries. with_entries entries new ≡ old) → table_back place told (set state place new) ≡ state
table_returns state place old new None h e m = ap (λ (x : Slot). set state place x) (m ∙ e) ∙ set-get_or state place (Plain absent)
table_returns state place old new (Some entries) h e m =
    let there : slot_at (set state place new) place ≡ new = get_or-set_same state place new (Plain absent) h in
    set_back state place new (with_entries entries (slot_at (set state place new) place)) h (ap (λ (x : Slot). with_entries entries x) there ∙ m ∙ e)

pub keyed_returns : (state : List Slot) (place : ℕ) (old new : Slot) (undo : Undo) → place < length state → old ≡ slot_at state place
    → IsUndoable undo new × (with_undone undo new ≡ old) → IsUndoable undo (slot_at (set state place new) place) × (keyed_back place undo (set state place new) ≡ state)
keyed_returns state place old new undo h e m =
    let there : slot_at (set state place new) place ≡ new = get_or-set_same state place new (Plain absent) h in (
      subst (λ (x : Slot). IsUndoable undo x) (sym there) m.0,
      set_back state place new (with_undone undo (slot_at (set state place new) place)) h (ap (λ (x : Slot). with_undone undo x) there ∙ m.1 ∙ e),
    )

pub keyed_put : {E : Type 0} (state : List Slot) (place : ℕ) (old new : Slot) (r : Result Undo E) → place < length state → old ≡ slot_at state place
    → IfOk r (λ undo. IsUndoable undo new × (with_undone undo new ≡ old))
    → IfOk r (λ undo. IsUndoable undo (slot_at (set state place new) place) × (keyed_back place undo (set state place new) ≡ state))
keyed_put state place old new (Ok undo) h e m = keyed_returns state place old new undo h e m
keyed_put state place old new (Err x) h e m = tt

-- a slot that is read is the one at its place
pub place_read : (state : List Slot) (place : ℕ) (slot : Slot) → place < length state → slot ≡ get_or state place slot → slot ≡ slot_at state place
place_read state place slot h e = e ∙ get_or_default state place slot (Plain absent) h
