-- What a value says of a signature and a design, read at the places of its parts. What doesn't have the form says anything.
use Rattle.std.specs.Prelude.{List, Option, Some, None, ℕ, zero, suc, unwrap_or, [], false, option_map, slice_get}
use Rattle.kat_type.specs.declared.signatures.OpSig.{OpSig}
use Rattle.serde_json.specs.Data.{Data, null, boolean, number, string, array, object, Items, no_items, item}
use Rattle.kat_design_json.specs.DesignFaults.{name_in}
use Rattle.kat_json.specs.Parts.{part_said, list_said, sort_said, key_sort_said, key_said, value_said, leaf_said, pair_said, effects_said, number_said}
use Rattle.kat_json.specs.Lists.{elements_of, elements, tag_of}
use Rattle.kat_type.specs.declared.signatures.QuerySig.{QuerySig}
use Rattle.kat_type.specs.declared.signatures.Signature.{Signature}
use Rattle.kat_shape.specs.Forms.{CellForm, numbers, lex, pair}
use Rattle.kat_design_json.specs.declared.tags.ShapeTag.{ShapeTag}
use Rattle.kat_design_json.specs.Words.{joint_words, shape_words, component_words, ask_words}
use Rattle.kat_json.specs.Words.{spelled}
use Rattle.kat_design.specs.Designs.{ComponentForm, AskForm}
use Rattle.kat_design.specs.Designs.ComponentForm.{a_cell, a_table, a_set, a_tally, tallies}
use Rattle.kat_design_json.specs.declared.tags.ComponentTag.{ComponentTag}
use Rattle.kat_design.specs.Designs.AskForm.{leaf as a_leaf, parameter, constant, negation, both, either, less, sum, difference}
use Rattle.kat_design_json.specs.declared.tags.AskTag.{AskTag}
use Rattle.kat_design_json.specs.declared.tags.ShapeTag.TheVariants as joint
use Rattle.kat_design_json.specs.declared.tags.ComponentTag.TheVariants as component
use Rattle.kat_num.specs.declared.values.Value.TheVariants as value
use Rattle.kat_design_json.specs.declared.tags.AskTag.TheVariants as ask

abbrev pub operation_parts_said : List Data → OpSig
operation_parts_said parts = record { name = name_in parts; sorts = part_said (list_said sort_said) 1 parts }

abbrev pub operation_said : Data → OpSig
operation_said d = operation_parts_said (elements_of d)

abbrev pub query_parts_said : List Data → QuerySig
query_parts_said parts = record { name = name_in parts; sorts = part_said (list_said sort_said) 1 parts; sort = part_said sort_said 2 parts }

abbrev pub query_said : Data → QuerySig
query_said d = query_parts_said (elements_of d)

abbrev pub signature_parts_said : List Data → Signature
signature_parts_said parts = record { ops = part_said (list_said operation_said) 0 parts; queries = part_said (list_said query_said) 1 parts }

abbrev pub signature_said : Data → Signature
signature_said d = signature_parts_said (elements_of d)

-- shapes
abbrev pub joined_shape : Option ShapeTag → CellForm → CellForm → CellForm
joined_shape None a b = numbers
joined_shape (Some joint.Lex) a b = lex a b
joined_shape (Some joint.Pair) a b = pair a b

abbrev mutual
  pub shape_said : Data → CellForm
  shape_said null = numbers
  shape_said (boolean b) = numbers
  shape_said (number n) = numbers
  shape_said (string s) = unwrap_or (spelled shape_words s) numbers
  shape_said (array ds) = joined_shape (spelled joint_words (tag_of (elements ds))) (shape_said_at ds 1) (shape_said_at ds 2)
  shape_said (object ms) = numbers

  pub shape_said_at : Items → ℕ → CellForm
  shape_said_at no_items place = numbers
  shape_said_at (item d ds) zero = shape_said d
  shape_said_at (item d ds) (suc place) = shape_said_at ds place

abbrev pub component_parts_said : Option ComponentTag → List Data → ComponentForm
component_parts_said None parts = a_tally []
component_parts_said (Some component.Cell) parts =
    a_cell (part_said shape_said 1 parts) (part_said (list_said value_said) 2 parts) (part_said (effects_said (list_said leaf_said)) 3 parts)
component_parts_said (Some component.Table) parts =
    a_table (part_said key_sort_said 1 parts) (part_said shape_said 2 parts) (part_said (list_said value_said) 3 parts)
    (part_said (effects_said (pair_said (list_said leaf_said))) 4 parts)
component_parts_said (Some component.Set) parts = a_set (part_said key_sort_said 1 parts) (part_said (effects_said key_said) 2 parts)
component_parts_said (Some component.Tally) parts = a_tally (part_said (effects_said leaf_said) 1 parts)
component_parts_said (Some component.Tallies) parts = tallies (part_said key_sort_said 1 parts) (part_said (effects_said (pair_said leaf_said)) 2 parts)

abbrev pub component_said : Data → ComponentForm
component_said d = component_parts_said (spelled component_words (tag_of (elements_of d))) (elements_of d)

-- an ask that is a list, given what the first and the second part say as asks
abbrev pub ask_parts_said : Option AskTag → List Data → AskForm → AskForm → AskForm
ask_parts_said None parts first second = constant (value.Bool false)
ask_parts_said (Some ask.Leaf) parts first second = a_leaf (part_said number_said 1 parts) (part_said number_said 2 parts) (option_map number_said (slice_get parts 3))
ask_parts_said (Some ask.Param) parts first second = parameter (part_said number_said 1 parts)
ask_parts_said (Some ask.Not) parts first second = negation first
ask_parts_said (Some ask.And) parts first second = both first second
ask_parts_said (Some ask.Or) parts first second = either first second
ask_parts_said (Some ask.Less) parts first second = less first second
ask_parts_said (Some ask.Plus) parts first second = sum first second
ask_parts_said (Some ask.Minus) parts first second = difference first second

abbrev mutual
  pub ask_said : Data → AskForm
  ask_said null = constant (value_said null)
  ask_said (boolean b) = constant (value_said (boolean b))
  ask_said (number n) = constant (value_said (number n))
  ask_said (string s) = constant (value_said (string s))
  ask_said (array ds) = ask_parts_said (spelled ask_words (tag_of (elements ds))) (elements ds) (ask_said_at ds 1) (ask_said_at ds 2)
  ask_said (object ms) = constant (value_said (object ms))

  pub ask_said_at : Items → ℕ → AskForm
  ask_said_at no_items place = constant (value.Bool false)
  ask_said_at (item d ds) zero = ask_said d
  ask_said_at (item d ds) (suc place) = ask_said_at ds place

-- a design: its components and its asks
abbrev pub body_parts_said : List Data → List ComponentForm × List AskForm
body_parts_said parts = (part_said (list_said component_said) 0 parts, part_said (list_said ask_said) 1 parts)

abbrev pub body_said : Data → List ComponentForm × List AskForm
body_said d = body_parts_said (elements_of d)
