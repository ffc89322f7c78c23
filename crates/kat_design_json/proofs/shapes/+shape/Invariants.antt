use Rattle.std.proofs.Common.{◌+◌, ◌*◌, map}
use Rattle.serde_json.specs.Data.{depth}
use Rattle.serde_json.specs.View.{view}
use Rattle.kat_design_json.proofs.Nesting.{list_depth}
use Rattle.kat_design_json.proofs.shapes.+shape.Given as goal

abbrev pub decreases-shape : goal.decreases-shape
decreases-shape l = 3 * depth (view l.value.now)

abbrev pub decreases-shape_of_parts : goal.decreases-shape_of_parts
decreases-shape_of_parts l = 3 * list_depth (map view l.parts.now) + 2

abbrev pub decreases-shape_part : goal.decreases-shape_part
decreases-shape_part l = 3 * list_depth (map view l.parts.now) + 1
