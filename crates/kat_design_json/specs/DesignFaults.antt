-- The places of a signature and a design that don't have the form, in the order of the text.
use Rattle.std.specs.Prelude.{◌+◌, List, ◌++◌, take, ℕ, unwrap_or, [], ◌∷◌, map, zero, suc, true, Option, Some, None}
use Rattle.kat_type.specs.Limits.{param_limit, item_limit}
use Rattle.kat_design.specs.Faults.{Path, each_faults, here_if, within}
use Rattle.serde_json.specs.Data.{Data, null, boolean, number, string, array, object, Items, no_items, item}
use Rattle.kat_json.specs.FormFaults.{past_faults, sort_faults, in_list, present, part_faults, faults_unless, list_of_faults, key_sort_faults, key_faults, value_faults, leaf_faults, pair_faults, effects_faults, optional_faults, number_faults}
use Rattle.kat_type.specs.Names.{is_among}
use Rattle.kat_json.specs.Words.{word_of, spelled, named, whole_of_number}
use Rattle.kat_json.specs.Lists.{at_place, elements_of, elements, tag_of}
use Rattle.kat_design_json.specs.Words.{joint_words, shape_words, component_words, ask_words}
use Rattle.kat_design_json.specs.declared.tags.ComponentTag.{ComponentTag}
use Rattle.kat_design_json.specs.declared.tags.AskTag.{AskTag}
use Rattle.kat_design_json.specs.declared.tags.ComponentTag.TheVariants as component
use Rattle.kat_design_json.specs.declared.tags.AskTag.TheVariants as ask

abbrev pub few_sorts_faults : List Data → List Path
few_sorts_faults ds = each_faults sort_faults 0 (take param_limit ds) ++ past_faults param_limit ds

abbrev pub sorts_faults : Data → List Path
sorts_faults d = in_list few_sorts_faults d

abbrev pub name_faults : List ℕ → Data → List Path
name_faults used d = present (λ code. here_if (is_among used code)) (word_of d)

abbrev pub operation_parts_faults : List ℕ → List Data → List Path
operation_parts_faults used parts = part_faults (name_faults used) 0 parts ++ part_faults sorts_faults 1 parts ++ past_faults 2 parts

abbrev pub operation_faults : List ℕ → Data → List Path
operation_faults used d = in_list (operation_parts_faults used) d

abbrev pub query_parts_faults : List ℕ → List Data → List Path
query_parts_faults used parts =
    part_faults (name_faults used) 0 parts ++ part_faults sorts_faults 1 parts ++ part_faults sort_faults 2 parts ++ past_faults 3 parts

abbrev pub query_faults : List ℕ → Data → List Path
query_faults used d = in_list (query_parts_faults used) d

-- the name of an operation or a query
abbrev pub name_in : List Data → ℕ
name_in parts = unwrap_or (word_of (at_place parts 0)) 0

abbrev pub item_name : Data → ℕ
item_name d = name_in (elements_of d)

-- operations or queries one after the other, given the names that were used before
abbrev pub items_faults : (List ℕ → Data → List Path) → List ℕ → ℕ → List Data → List Path
items_faults faults used index [] = []
items_faults faults used index (d ∷ ds) = within index (faults used d) ++ items_faults faults (used ++ item_name d ∷ []) (index + 1) ds

abbrev pub few_items_faults : (List ℕ → Data → List Path) → List ℕ → Data → List Path
few_items_faults faults used d = in_list (λ ds. items_faults faults used 0 (take item_limit ds) ++ past_faults item_limit ds) d

-- the names of operations
abbrev pub names_of : Data → List ℕ
names_of d = map item_name (elements_of d)

abbrev pub signature_parts_faults : List Data → List Path
signature_parts_faults parts =
    part_faults (few_items_faults operation_faults []) 0 parts ++ part_faults (few_items_faults query_faults (names_of (at_place parts 0))) 1 parts
    ++ past_faults 2 parts

abbrev pub signature_faults : Data → List Path
signature_faults d = in_list signature_parts_faults d

-- shapes: a word, or `lex` or `pair` with two shapes
abbrev mutual
  pub shape_faults : Data → List Path
  shape_faults null = here_if true
  shape_faults (boolean b) = here_if true
  shape_faults (number n) = here_if true
  shape_faults (string s) = faults_unless (spelled shape_words s)
  shape_faults (array ds) =
      within 0 (faults_unless (spelled joint_words (tag_of (elements ds)))) ++ within 1 (shape_faults_at ds 1) ++ within 2 (shape_faults_at ds 2)
      ++ past_faults 3 (elements ds)
  shape_faults (object ms) = here_if true

  pub shape_faults_at : Items → ℕ → List Path
  shape_faults_at no_items place = here_if true
  shape_faults_at (item d ds) zero = shape_faults d
  shape_faults_at (item d ds) (suc place) = shape_faults_at ds place

abbrev pub component_parts_faults : Option ComponentTag → List Data → List Path
component_parts_faults None parts = within 0 (here_if true)
component_parts_faults (Some component.Cell) parts =
    part_faults shape_faults 1 parts ++ part_faults (list_of_faults value_faults) 2 parts ++ part_faults (effects_faults (list_of_faults leaf_faults)) 3 parts
    ++ past_faults 4 parts
component_parts_faults (Some component.Table) parts =
    part_faults key_sort_faults 1 parts ++ part_faults shape_faults 2 parts ++ part_faults (list_of_faults value_faults) 3 parts
    ++ part_faults (effects_faults (pair_faults (list_of_faults leaf_faults))) 4 parts ++ past_faults 5 parts
component_parts_faults (Some component.Set) parts = part_faults key_sort_faults 1 parts ++ part_faults (effects_faults key_faults) 2 parts ++ past_faults 3 parts
component_parts_faults (Some component.Tally) parts = part_faults (effects_faults leaf_faults) 1 parts ++ past_faults 2 parts
component_parts_faults (Some component.Tallies) parts =
    part_faults key_sort_faults 1 parts ++ part_faults (effects_faults (pair_faults leaf_faults)) 2 parts ++ past_faults 3 parts

abbrev pub component_faults : Data → List Path
component_faults d = in_list (λ parts. component_parts_faults (spelled component_words (tag_of parts)) parts) d

-- the parts of an ask that is a list, given the faults of the first and the second part as asks
abbrev pub ask_parts_faults : Option AskTag → List Data → List Path → List Path → List Path
ask_parts_faults None parts first second = within 0 (here_if true)
ask_parts_faults (Some ask.Leaf) parts first second =
    part_faults number_faults 1 parts ++ part_faults number_faults 2 parts ++ optional_faults number_faults 3 parts ++ past_faults 4 parts
ask_parts_faults (Some ask.Param) parts first second = part_faults number_faults 1 parts ++ past_faults 2 parts
ask_parts_faults (Some ask.Not) parts first second = within 1 first ++ past_faults 2 parts
ask_parts_faults (Some ask.And) parts first second = within 1 first ++ within 2 second ++ past_faults 3 parts
ask_parts_faults (Some ask.Or) parts first second = within 1 first ++ within 2 second ++ past_faults 3 parts
ask_parts_faults (Some ask.Less) parts first second = within 1 first ++ within 2 second ++ past_faults 3 parts
ask_parts_faults (Some ask.Plus) parts first second = within 1 first ++ within 2 second ++ past_faults 3 parts
ask_parts_faults (Some ask.Minus) parts first second = within 1 first ++ within 2 second ++ past_faults 3 parts

abbrev mutual
  pub ask_faults : Data → List Path
  ask_faults null = here_if true
  ask_faults (boolean b) = []
  ask_faults (number n) = faults_unless (whole_of_number n)
  ask_faults (string s) = faults_unless (named s)
  ask_faults (array ds) = ask_parts_faults (spelled ask_words (tag_of (elements ds))) (elements ds) (ask_faults_at ds 1) (ask_faults_at ds 2)
  ask_faults (object ms) = here_if true

  pub ask_faults_at : Items → ℕ → List Path
  ask_faults_at no_items place = here_if true
  ask_faults_at (item d ds) zero = ask_faults d
  ask_faults_at (item d ds) (suc place) = ask_faults_at ds place

-- designs: components and asks
abbrev pub design_parts_faults : List Data → List Path
design_parts_faults parts = part_faults (list_of_faults component_faults) 0 parts ++ part_faults (list_of_faults ask_faults) 1 parts ++ past_faults 2 parts

abbrev pub design_faults : Data → List Path
design_faults d = in_list design_parts_faults d
