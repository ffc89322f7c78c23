-- The side after an operation.
use Rattle.std.specs.Prelude.{ℕ, pos, nat_eq, Bool, true, false, if◌then◌else◌, List, [], ◌∷◌, reverse, Option, None, Some, slice_get}
use Rattle.kat_num.specs.declared.values.Value.{Value}
use Rattle.kat_expr.specs.Terms.{Term}
use Rattle.kat_linear.specs.Rows.{Form}
use Rattle.kat_form.specs.Facts.Fact.{known}
use Rattle.kat_design.specs.Designs.{DesignForm}
use Rattle.kat_type.specs.Types.{Assigned, OperationForm, TypeForm}
use Rattle.kat_type.specs.Types.Assigned.{to_field, to_entry, to_start}
use Rattle.kat_type.specs.declared.types.Rank.{Rank}
use Rattle.kat_type.specs.declared.types.Rank.TheVariants as rank
use Rattle.kat_claims.specs.Effects.{if_read, leaf_after, leaves_of, same_key_read}
use Rattle.kat_symbols.specs.Readers.{Reader, Symbol, read_name, read_once}
use Rattle.kat_symbols.specs.Readers.Symbol.{number, truth}
use Rattle.kat_symbols.specs.Sides.{Side}
use Rattle.kat_claims.specs.States.{field_start, is_truth_field, old_side}
use Rattle.kat_symbols.specs.Sums.{numeral}
use Rattle.kat_symbols.specs.Symbols.{symbol_of}
use Rattle.kat_symbols.specs.Terms.{number_read, truth_read}
use Rattle.kat_symbols.specs.declared.names.Instance.{Instance}
use Rattle.kat_symbols.specs.declared.names.Instance.TheVariants.{Argument}
use Rattle.kat_symbols.specs.declared.names.Name.TheVariants.{Key, Kept, Replica, Time}
use Rattle.kat_symbols.specs.declared.names.Place.{Place}
use Rattle.kat_symbols.specs.declared.names.Place.TheVariants.{Field, Leaf}

-- an expression of the operation, as a truth value or else as a number
abbrev pub right_read : Side → Bool → Term → Reader → Symbol × Reader
right_read old true right r = let x = truth_read old None right r in (truth x.0, x.1)
right_read old false right r = let x = number_read old None right r in (number x.0, x.1)

-- A field after assignments, the last one first in the list: what is assigned to it, in a table only at the key that is given;
-- its start if it is cleared; and otherwise what the earlier assignments leave there. Right sides are evaluated in the old
-- state.
abbrev pub field_after : Side → Bool → Value → ℕ → Option Instance → List Assigned → Reader → Symbol × Reader
field_after old is_truth start f at [] r = old.value (Field f) at r
field_after old is_truth start f at (to_field place right ∷ more) r = if nat_eq place f then right_read old is_truth right r else field_after old is_truth start f at more r
field_after old is_truth start f at (to_entry place key right ∷ more) r =
    if nat_eq place f then if_read (same_key_read at key r) (right_read old is_truth right) (field_after old is_truth start f at more)
    else field_after old is_truth start f at more r
field_after old is_truth start f at (to_start place ∷ more) r = if nat_eq place f then (symbol_of start, r) else field_after old is_truth start f at more r

abbrev pub value_after : TypeForm → DesignForm → ℕ → OperationForm → Place → Option Instance → Reader → Symbol × Reader
value_after ty design o op (Field f) at r = field_after (old_side ty design) (is_truth_field (slice_get ty.fields f)) (field_start (slice_get ty.fields f)) f at (reverse op.assigned) r
value_after ty design o op (Leaf c l) at r =
    leaf_after (leaves_of (old_side ty design) c at) op.params o c at (slice_get design.components c) l r

-- an element of the operation's rank
abbrev pub element_after : Option Rank → Reader → Form × Reader
element_after None r = (numeral (pos 0), r)
element_after (Some (rank.Digit n)) r = (numeral (pos n), r)
element_after (Some rank.Time) r = read_name Time r
element_after (Some rank.Replica) r = read_name Replica r
element_after (Some (rank.Arg j)) r = read_name (Key (Argument j)) r

-- after the operation with a number, each value is read once, and the operation is the last one
abbrev pub after_side : TypeForm → DesignForm → ℕ → OperationForm → Side
after_side ty design o op = record {
  value = λ place at r. read_once (Kept place at) (value_after ty design o op place at) r;
  begun = λ r. (known true, r);
  element = λ j r. element_after (slice_get op.ranks j) r;
}
