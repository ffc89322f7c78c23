-- Used inside only.
-- The parts of shapes and asks that are lists, by their places.
use Rattle.std.specs.Prelude.{List, ◌++◌, slice_get, Option, Bool, true, false}
use Rattle.kat_design.specs.Faults.{Path, within}
use Rattle.serde_json.specs.Data.{Data}
use Rattle.kat_json.specs.FormFaults.{faults_unless, part_faults, past_faults, present}
use Rattle.kat_design_json.specs.DesignFaults.{shape_faults, ask_faults, ask_parts_faults}
use Rattle.kat_json.specs.Lists.{tag_of}
use Rattle.kat_design_json.specs.Words.{joint_words}
use Rattle.kat_json.specs.Words.{spelled}
use Rattle.kat_shape.specs.Forms.{CellForm}
use Rattle.kat_design_json.specs.DesignParts.{joined_shape, shape_said, ask_parts_said, ask_said}
use Rattle.kat_json.specs.Parts.{part_said}
use Rattle.kat_design_json.specs.declared.tags.AskTag.{AskTag}
use Rattle.kat_design.specs.Designs.{AskForm}
use Rattle.kat_design_json.specs.declared.tags.AskTag.TheVariants as ask

abbrev pub joined_faults : List Data → List Path
joined_faults parts =
    within 0 (faults_unless (spelled joint_words (tag_of parts))) ++ part_faults shape_faults 1 parts ++ part_faults shape_faults 2 parts
    ++ past_faults 3 parts

abbrev pub joined_said : List Data → CellForm
joined_said parts = joined_shape (spelled joint_words (tag_of parts)) (part_said shape_said 1 parts) (part_said shape_said 2 parts)

abbrev pub list_ask_faults : Option AskTag → List Data → List Path
list_ask_faults tag parts = ask_parts_faults tag parts (present ask_faults (slice_get parts 1)) (present ask_faults (slice_get parts 2))

abbrev pub list_ask_said : Option AskTag → List Data → AskForm
list_ask_said tag parts = ask_parts_said tag parts (part_said ask_said 1 parts) (part_said ask_said 2 parts)

-- an operation on two asks
abbrev pub is_of_two : AskTag → Bool
is_of_two ask.Leaf = false
is_of_two ask.Param = false
is_of_two ask.Not = false
is_of_two ask.And = true
is_of_two ask.Or = true
is_of_two ask.Less = true
is_of_two ask.Plus = true
is_of_two ask.Minus = true
