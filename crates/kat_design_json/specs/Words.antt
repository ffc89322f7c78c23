-- The words with which the parts of a design begin.
use Rattle.std.specs.Prelude.{ℕ, List, [], ◌∷◌, codes}
use Rattle.kat_design_json.specs.declared.tags.ComponentTag.{ComponentTag}
use Rattle.kat_shape.specs.Forms.{CellForm, numbers, names, truths}
use Rattle.kat_design_json.specs.declared.tags.ShapeTag.{ShapeTag}
use Rattle.kat_design_json.specs.declared.tags.AskTag.{AskTag}
use Rattle.kat_design_json.specs.declared.tags.ComponentTag.TheVariants as component
use Rattle.kat_design_json.specs.declared.tags.ShapeTag.TheVariants as joint
use Rattle.kat_design_json.specs.declared.tags.AskTag.TheVariants as ask

-- the words with which components begin
abbrev pub component_words : List (List ℕ × ComponentTag)
component_words =
    (codes "cell", component.Cell) ∷ (codes "table", component.Table) ∷ (codes "set", component.Set) ∷ (codes "tally", component.Tally)
    ∷ (codes "tallies", component.Tallies) ∷ []

-- shapes without parts
abbrev pub shape_words : List (List ℕ × CellForm)
shape_words = (codes "max", numbers) ∷ (codes "name", names) ∷ (codes "or", truths) ∷ []

-- the words with which shapes of two parts begin
abbrev pub joint_words : List (List ℕ × ShapeTag)
joint_words = (codes "lex", joint.Lex) ∷ (codes "pair", joint.Pair) ∷ []

-- the words with which asks begin that are lists
abbrev pub ask_words : List (List ℕ × AskTag)
ask_words =
    (codes "leaf", ask.Leaf) ∷ (codes "p", ask.Param) ∷ (codes "not", ask.Not) ∷ (codes "and", ask.And)
    ∷ (codes "or", ask.Or) ∷ (codes "<", ask.Less) ∷ (codes "+", ask.Plus) ∷ (codes "-", ask.Minus) ∷ []
