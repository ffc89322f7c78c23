-- A component without a fault of form is what is printed of what it says.
use Rattle.std.proofs.Common.{ℕ, List, codes, ◌≡◌, ◌<◌, ◌≤◌, length, Some, zero, suc, [], refl, ap, ◌∙◌, arith, Option, None}
use Rattle.std.specs.Prelude.{unwrap_or}
use Rattle.kat_design_json.specs.declared.tags.ShapeTag.{ShapeTag}
use Rattle.kat_shape.specs.Forms.{CellForm, numbers}
use Rattle.serde_json.specs.Data.{Data, null, boolean, number, string, array, object, Items, no_items, item}
use Rattle.kat_json.specs.Lists.{at_place, list, tag_of, elements, elements_of}
use Rattle.kat_design_json.specs.DesignParts.{joined_shape, shape_said, shape_said_at, component_parts_said, component_said}
use Rattle.kat_design_json.specs.PrintedDesigns.{shape_data, component_data}
use Rattle.kat_json.proofs.PartsBack.{list_three, none_four, word_known, effects_go_back, leaves_go_back, values_go_back, pair_goes_back, list_two, list_four, list_five, none_three, none_five}
use Rattle.kat_design.specs.Faults.{within}
use Rattle.kat_json.specs.FormFaults.{faults_unless, past_faults, effects_faults, key_faults, key_sort_faults, leaf_faults, list_of_faults, pair_faults, part_faults, value_faults}
use Rattle.kat_design_json.specs.DesignFaults.{shape_faults, shape_faults_at, component_parts_faults, component_faults}
use Rattle.kat_design_json.specs.Words.{joint_words, shape_words, component_words}
use Rattle.kat_json.specs.Words.{spelled}
use Rattle.kat_json.proofs.Backwards.{found_back, list_back, past_back, spelled_back, within_back, part_back, GoesBack, in_list_back}
use Rattle.kat_design_json.specs.declared.tags.ComponentTag.{ComponentTag}
use Rattle.kat_design.proofs.Accepted.{none_left, none_right}
use Rattle.kat_json.specs.Parts.{key_said, leaf_said, list_said, pair_said}
use Rattle.kat_json.specs.Printed.{key_data, keyed_data, leaf_data, leaves_data}
use Rattle.kat_json.proofs.AtomsBack.{key_goes_back, key_sort_goes_back, leaf_goes_back}
use Rattle.kat_design_json.specs.declared.tags.ShapeTag.TheVariants as joint
use Rattle.kat_design_json.specs.declared.tags.ComponentTag.TheVariants as component

-- shapes
abbrev joint_word : ShapeTag → List ℕ
joint_word joint.Lex = codes "lex"
joint_word joint.Pair = codes "pair"

joined_by : (d : Data) (ds : List Data) (tag : ShapeTag) (a b : CellForm) → d ≡ list ds → tag_of ds ≡ joint_word tag → 2 < length ds → length ds ≤ 3
    → shape_data a ≡ at_place ds 1 → shape_data b ≡ at_place ds 2 → shape_data (joined_shape (Some tag) a b) ≡ d
joined_by d ds joint.Lex a b is word more few first second = list_three d ds _ _ (shape_data a) (shape_data b) is word more few first second
joined_by d ds joint.Pair a b is word more few first second = list_three d ds _ _ (shape_data a) (shape_data b) is word more few first second

mutual
  pub shape_goes_back : (d : Data) → shape_faults d ≡ [] → shape_data (shape_said d) ≡ d
  shape_goes_back null none = absurd (cc)
  shape_goes_back (boolean b) none = absurd (cc)
  shape_goes_back (number n) none = absurd (cc)
  shape_goes_back (string s) none =
      spelled_back shape_data shape_words (refl, (refl, (refl, tt))) s (unwrap_or (spelled shape_words s) numbers) (found_back (spelled shape_words s) numbers none)
  shape_goes_back (array es) none =
      let ds = elements es in
      let tags = spelled joint_words (tag_of ds) in
      let tag = unwrap_or tags joint.Lex in
      let parts = none_four (within 0 (faults_unless tags)) (within 1 (shape_faults_at es 1)) (within 2 (shape_faults_at es 2)) (past_faults 3 ds) none in
      let known : tags ≡ Some tag = found_back tags joint.Lex (within_back 0 (faults_unless tags) parts.0) in
      let word = word_known joint_word joint_words (refl, (refl, tt)) (tag_of ds) tag known in
      let first = shape_at_back es 1 (within_back 1 (shape_faults_at es 1) parts.1) in
      let second = shape_at_back es 2 (within_back 2 (shape_faults_at es 2) parts.2) in
      ap (λ o. shape_data (joined_shape o (shape_said_at es 1) (shape_said_at es 2))) known
      ∙ joined_by (array es) ds tag (shape_said_at es 1) (shape_said_at es 2) (list_back (array es) ds refl) word second.0 (past_back 3 ds parts.3) first.1 second.1
  shape_goes_back (object ms) none = absurd (cc)

  shape_at_back : (ds : Items) (i : ℕ) → shape_faults_at ds i ≡ [] → (i < length (elements ds)) × (shape_data (shape_said_at ds i) ≡ at_place (elements ds) i)
  shape_at_back no_items i none = absurd (cc)
  shape_at_back (item d ds) zero none = (omega arith, shape_goes_back d none)
  shape_at_back (item d ds) (suc i) none = let rest = shape_at_back ds i none in let less : i < length (elements ds) = rest.0 in (omega arith, rest.1)

-- components
abbrev component_word : ComponentTag → List ℕ
component_word component.Cell = codes "cell"
component_word component.Table = codes "table"
component_word component.Set = codes "set"
component_word component.Tally = codes "tally"
component_word component.Tallies = codes "tallies"

component_by : (d : Data) (ds : List Data) (o : Option ComponentTag) → d ≡ list ds → spelled component_words (tag_of ds) ≡ o → component_parts_faults o ds ≡ [] → component_data (component_parts_said o ds) ≡ d
component_by d ds None is known none = absurd (cc)
component_by d ds (Some component.Cell) is known none =
    let word = word_known component_word component_words (refl, (refl, (refl, (refl, (refl, tt))))) (tag_of ds) component.Cell known in
    let parts = none_four (part_faults shape_faults 1 ds) (part_faults (list_of_faults value_faults) 2 ds) (part_faults (effects_faults (list_of_faults leaf_faults)) 3 ds) (past_faults 4 ds) none in
    let shape = part_back shape_faults 1 ds parts.0 in
    let starts = part_back (list_of_faults value_faults) 2 ds parts.1 in
    let effects = part_back (effects_faults (list_of_faults leaf_faults)) 3 ds parts.2 in
    list_four d ds _ _ _ _ _ is word effects.0 (past_back 4 ds parts.3) (shape_goes_back (at_place ds 1) shape.1) (values_go_back (at_place ds 2) starts.1)
    (effects_go_back (list_of_faults leaf_faults) (list_said leaf_said) leaves_data leaves_go_back (at_place ds 3) effects.1)
component_by d ds (Some component.Table) is known none =
    let word = word_known component_word component_words (refl, (refl, (refl, (refl, (refl, tt))))) (tag_of ds) component.Table known in
    let parts = none_five (part_faults key_sort_faults 1 ds) (part_faults shape_faults 2 ds) (part_faults (list_of_faults value_faults) 3 ds) (part_faults (effects_faults (pair_faults (list_of_faults leaf_faults))) 4 ds) (past_faults 5 ds) none in
    let key = part_back key_sort_faults 1 ds parts.0 in
    let shape = part_back shape_faults 2 ds parts.1 in
    let starts = part_back (list_of_faults value_faults) 3 ds parts.2 in
    let effects = part_back (effects_faults (pair_faults (list_of_faults leaf_faults))) 4 ds parts.3 in
    list_five d ds _ _ _ _ _ _ is word effects.0 (past_back 5 ds parts.4) (key_sort_goes_back (at_place ds 1) key.1) (shape_goes_back (at_place ds 2) shape.1) (values_go_back (at_place ds 3) starts.1)
    (effects_go_back (pair_faults (list_of_faults leaf_faults)) (pair_said (list_said leaf_said)) (keyed_data leaves_data) (pair_goes_back (list_of_faults leaf_faults) (list_said leaf_said) leaves_data leaves_go_back) (at_place ds 4) effects.1)
component_by d ds (Some component.Set) is known none =
    let word = word_known component_word component_words (refl, (refl, (refl, (refl, (refl, tt))))) (tag_of ds) component.Set known in
    let parts = none_three (part_faults key_sort_faults 1 ds) (part_faults (effects_faults key_faults) 2 ds) (past_faults 3 ds) none in
    let key = part_back key_sort_faults 1 ds parts.0 in
    let effects = part_back (effects_faults key_faults) 2 ds parts.1 in
    list_three d ds _ _ _ _ is word effects.0 (past_back 3 ds parts.2) (key_sort_goes_back (at_place ds 1) key.1)
    (effects_go_back key_faults key_said key_data key_goes_back (at_place ds 2) effects.1)
component_by d ds (Some component.Tally) is known none =
    let word = word_known component_word component_words (refl, (refl, (refl, (refl, (refl, tt))))) (tag_of ds) component.Tally known in
    let effects = part_back (effects_faults leaf_faults) 1 ds (none_left (part_faults (effects_faults leaf_faults) 1 ds) (past_faults 2 ds) none) in
    list_two d ds _ _ _ is word effects.0 (past_back 2 ds (none_right (part_faults (effects_faults leaf_faults) 1 ds) (past_faults 2 ds) none))
    (effects_go_back leaf_faults leaf_said leaf_data leaf_goes_back (at_place ds 1) effects.1)
component_by d ds (Some component.Tallies) is known none =
    let word = word_known component_word component_words (refl, (refl, (refl, (refl, (refl, tt))))) (tag_of ds) component.Tallies known in
    let parts = none_three (part_faults key_sort_faults 1 ds) (part_faults (effects_faults (pair_faults leaf_faults)) 2 ds) (past_faults 3 ds) none in
    let key = part_back key_sort_faults 1 ds parts.0 in
    let effects = part_back (effects_faults (pair_faults leaf_faults)) 2 ds parts.1 in
    list_three d ds _ _ _ _ is word effects.0 (past_back 3 ds parts.2) (key_sort_goes_back (at_place ds 1) key.1)
    (effects_go_back (pair_faults leaf_faults) (pair_said leaf_said) (keyed_data leaf_data) (pair_goes_back leaf_faults leaf_said leaf_data leaf_goes_back) (at_place ds 2) effects.1)

pub component_goes_back : GoesBack component_faults component_said component_data
component_goes_back d none =
    let got = in_list_back (λ parts. component_parts_faults (spelled component_words (tag_of parts)) parts) d none in
    component_by d (elements_of d) (spelled component_words (tag_of (elements_of d))) got.0 refl got.1
