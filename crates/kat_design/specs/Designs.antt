-- A design as plain data, without the places at which a program keeps its shapes and asks.
use Rattle.std.specs.Prelude.{ℕ, List, Option, map}
use Rattle.kat_num.specs.declared.values.Sort.{Sort}
use Rattle.kat_num.specs.declared.values.Value.{Value}
use Rattle.kat_shape.specs.Forms.{CellForm, form_of}
use Rattle.kat_type.specs.declared.signatures.Signature.{Signature}
use Rattle.kat_design.specs.declared.designs.Leaf.{Leaf}
use Rattle.kat_design.specs.declared.designs.Component.{Component}
use Rattle.kat_design.specs.declared.designs.Component.TheVariants as component
use Rattle.kat_design.specs.declared.designs.Ask.{Ask}
use Rattle.kat_design.specs.declared.designs.Ask.TheVariants.{Leaf as ReadLeaf, Arg, Const, Not', And', Or', Less', Plus', Minus'}
use Rattle.kat_design.specs.declared.designs.Design.{Design}

-- a component: what it keeps, and the effect of each operation
pub data ComponentForm : Type 0 where
  a_cell : (shape : CellForm) (starts : List Value) (effects : List (Option (List Leaf))) → ComponentForm
  a_table : (key : Sort) (shape : CellForm) (starts : List Value) (effects : List (Option (ℕ × List Leaf))) → ComponentForm
  a_set : (key : Sort) (effects : List (Option ℕ)) → ComponentForm
  a_tally : (effects : List (Option Leaf)) → ComponentForm
  tallies : (key : Sort) (effects : List (Option (ℕ × Leaf))) → ComponentForm

-- an ask: a leaf of a component, at a key parameter if it has keys, a parameter, a constant, or an operation
pub data AskForm : Type 0 where
  leaf : (component place : ℕ) (key : Option ℕ) → AskForm
  parameter : ℕ → AskForm
  constant : Value → AskForm
  negation : AskForm → AskForm
  both : AskForm → AskForm → AskForm
  either : AskForm → AskForm → AskForm
  less : AskForm → AskForm → AskForm
  sum : AskForm → AskForm → AskForm
  difference : AskForm → AskForm → AskForm

pub record DesignForm : Type 0 where
  pub sig : Signature
  pub components : List ComponentForm
  pub asks : List AskForm

-- what a component, an ask and a design of the program say
abbrev pub component_form : Component → ComponentForm
component_form (component.Cell shape starts effects) = a_cell (form_of shape) starts effects
component_form (component.Table key shape starts effects) = a_table key (form_of shape) starts effects
component_form (component.Set key effects) = a_set key effects
component_form (component.Tally effects) = a_tally effects
component_form (component.Tallies key effects) = tallies key effects

abbrev pub ask_form : Ask → AskForm
ask_form (ReadLeaf component place key) = leaf component place key
ask_form (Arg place) = parameter place
ask_form (Const value) = constant value
ask_form (Not' _ a) = negation (ask_form a)
ask_form (And' _ a _ b) = both (ask_form a) (ask_form b)
ask_form (Or' _ a _ b) = either (ask_form a) (ask_form b)
ask_form (Less' _ a _ b) = less (ask_form a) (ask_form b)
ask_form (Plus' _ a _ b) = sum (ask_form a) (ask_form b)
ask_form (Minus' _ a _ b) = difference (ask_form a) (ask_form b)

abbrev pub design_form : Design → DesignForm
design_form d = record { sig = d.sig; components = map component_form d.components; asks = map ask_form d.asks }
