-- The sides at the start and before an operation.
use Rattle.std.specs.Prelude.{ℕ, pos, Bool, true, false, Option, None, Some, slice_get}
use Rattle.kat_num.specs.declared.values.Sort.{Sort}
use Rattle.kat_num.specs.declared.values.Sort.TheVariants as sort
use Rattle.kat_num.specs.declared.values.Value.{Value}
use Rattle.kat_num.specs.declared.values.Value.TheVariants as value
use Rattle.kat_expr.specs.Slots.{absent, argument}
use Rattle.kat_form.specs.Facts.Fact.{known}
use Rattle.kat_design.specs.Designs.{ComponentForm, DesignForm}
use Rattle.kat_design.specs.Designs.ComponentForm.{a_cell, a_table, a_set, a_tally, tallies}
use Rattle.kat_design.specs.Kinds.{leaf_kind}
use Rattle.kat_design.specs.declared.kinds.Kind.{Kind}
use Rattle.kat_design.specs.declared.kinds.Kind.TheVariants as kind
use Rattle.kat_type.specs.Types.{TypeForm}
use Rattle.kat_type.specs.declared.types.Field.{Field as TypeField}
use Rattle.kat_type.specs.declared.types.Field.TheVariants as field
use Rattle.kat_symbols.specs.Readers.{read_flag, read_name}
use Rattle.kat_symbols.specs.Sides.{Side}
use Rattle.kat_symbols.specs.Symbols.{read_variable, symbol_of}
use Rattle.kat_symbols.specs.declared.names.Name.TheVariants.{Begun, Element, Kept}
use Rattle.kat_symbols.specs.declared.names.Place.{Place}
use Rattle.kat_symbols.specs.declared.names.Place.TheVariants.{Field, Leaf}

-- the start of a field, at every key, and of a leaf: a set is empty and sums are 0
abbrev pub field_start : Option TypeField → Value
field_start None = absent
field_start (Some (field.Plain name s start)) = start
field_start (Some (field.Keyed name key s start)) = start

abbrev pub leaf_start : Option ComponentForm → ℕ → Value
leaf_start None l = absent
leaf_start (Some (a_cell shape starts effects)) l = argument starts l
leaf_start (Some (a_table key shape starts effects)) l = argument starts l
leaf_start (Some (a_set key effects)) l = value.Bool false
leaf_start (Some (a_tally effects)) l = value.Num (pos 0)
leaf_start (Some (tallies key effects)) l = value.Num (pos 0)

abbrev pub start_at : TypeForm → DesignForm → Place → Value
start_at ty design (Field f) = field_start (slice_get ty.fields f)
start_at ty design (Leaf c l) = leaf_start (slice_get design.components c) l

-- what is kept at the place is a truth value
abbrev pub is_truth_sort : Sort → Bool
is_truth_sort sort.Bool = true
is_truth_sort sort.Int = false
is_truth_sort sort.Nat = false
is_truth_sort sort.Name = false

abbrev pub is_truth_field : Option TypeField → Bool
is_truth_field None = false
is_truth_field (Some (field.Plain name s start)) = is_truth_sort s
is_truth_field (Some (field.Keyed name key s start)) = is_truth_sort s

abbrev pub is_truth_kind : Option Kind → Bool
is_truth_kind None = false
is_truth_kind (Some kind.Number) = false
is_truth_kind (Some kind.Name) = false
is_truth_kind (Some kind.Truth) = true

abbrev pub is_truth_at : TypeForm → DesignForm → Place → Bool
is_truth_at ty design (Field f) = is_truth_field (slice_get ty.fields f)
is_truth_at ty design (Leaf c l) = is_truth_kind (leaf_kind (slice_get design.components c) l)

-- at the start everything is known, and there is no last operation
abbrev pub start_side : TypeForm → DesignForm → Side
start_side ty design = record {
  value = λ place at r. (symbol_of (start_at ty design place), r);
  begun = λ r. (known false, r);
  element = λ j r. read_name (Element j) r;
}

-- before an operation everything has a variable of its own
abbrev pub old_side : TypeForm → DesignForm → Side
old_side ty design = record {
  value = λ place at r. read_variable (is_truth_at ty design place) (Kept place at) r;
  begun = λ r. read_flag Begun r;
  element = λ j r. read_name (Element j) r;
}
