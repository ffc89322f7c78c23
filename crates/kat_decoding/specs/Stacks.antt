-- Used inside only.
-- What a program's stacks hold, the last element first.
use Rattle.std.specs.Prelude.{◌≡◌, Bool, true, false, List, [], ◌∷◌, map, reverse, Option, None, Some}
use Rattle.kat_shape.specs.Forms.{CellForm, form_of, lex, pair}
use Rattle.kat_shape.specs.declared.shapes.Shape.{Shape}
use Rattle.kat_design.specs.Designs.{AskForm, ComponentForm, ask_form, component_form}
use Rattle.kat_design.specs.Designs.AskForm.{both, either, less, sum, difference}
use Rattle.kat_design.specs.declared.designs.Ask.{Ask}
use Rattle.kat_design.specs.declared.designs.Component.{Component}
use Rattle.kat_decoding.specs.Decoded.{ReadParts, Grouped}
use Rattle.kat_decoding.specs.declared.groups.Groups.{Groups}
use Rattle.kat_decoding.specs.declared.parts.Reading.{Reading}
use Rattle.kat_decoding.specs.declared.asks.Joining.{Joining}
use Rattle.kat_decoding.specs.declared.asks.Joining.TheVariants as joining

abbrev pub asks_in : List Ask → List AskForm
asks_in asks = reverse (map ask_form asks)

-- what joins two asks
abbrev pub joined : Joining → AskForm → AskForm → AskForm
joined joining.And a b = both a b
joined joining.Or a b = either a b
joined joining.Less a b = less a b
joined joining.Plus a b = sum a b
joined joining.Minus a b = difference a b

-- the first was taken off, or there was none
abbrev pub PopsAsk : List AskForm → List AskForm → Option Ask → Type 0
PopsAsk old new None = (old ≡ []) × (new ≡ [])
PopsAsk old new (Some a) = old ≡ ask_form a ∷ new

abbrev pub shapes_in : List Shape → List CellForm
shapes_in shapes = reverse (map form_of shapes)

abbrev pub components_in : List Component → List ComponentForm
components_in components = reverse (map component_form components)

abbrev pub PopsShape : List CellForm → List CellForm → Option Shape → Type 0
PopsShape old new None = (old ≡ []) × (new ≡ [])
PopsShape old new (Some s) = old ≡ form_of s ∷ new

-- what joins two shapes
abbrev pub paired : Bool → CellForm → CellForm → CellForm
paired true a b = lex a b
paired false a b = pair a b

abbrev pub groups_in : {A : Type 0} → Groups A → Grouped A
groups_in g = record { open_leaves = reverse g.leaves.items; effects = reverse g.effects.items }

-- what a program has read of components
abbrev pub read_parts : Reading → ReadParts
read_parts b = record {
  components = components_in b.components.items;
  shapes = shapes_in b.shapes.items;
  starts = reverse b.starts.items;
  parts = reverse b.parts.items;
  keys = reverse b.keys.items;
}
