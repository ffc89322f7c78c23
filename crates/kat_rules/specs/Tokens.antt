-- The token list of a design.
use Rattle.std.specs.Prelude.{ℕ, List, [], ◌∷◌, ◌++◌, map, Option, None, Some}
use Rattle.kat_num.specs.declared.values.Value.{Value}
use Rattle.kat_num.specs.declared.values.Value.TheVariants as value
use Rattle.kat_shape.specs.Forms.{CellForm, numbers, names, truths, lex, pair}
use Rattle.kat_design.specs.Designs.{ComponentForm, AskForm, DesignForm}
use Rattle.kat_design.specs.Designs.ComponentForm.{a_cell, a_table, a_set, a_tally, tallies}
use Rattle.kat_design.specs.Designs.AskForm.{leaf, parameter, constant, negation, both, either, less, sum, difference}
use Rattle.kat_design.specs.Kinds.{value_kind}
use Rattle.kat_design.specs.declared.designs.Leaf.{Leaf}
use Rattle.kat_design.specs.declared.designs.Leaf.TheVariants as given
use Rattle.kat_rules.specs.Constants.{of_kind, place_of}
use Rattle.kat_rules.specs.declared.constants.Constants.{Constants}
use Rattle.kat_rules.specs.declared.tokens.Token.{Token}
use Rattle.kat_rules.specs.declared.tokens.Token.TheVariants as token

-- a shape: each node before its parts
abbrev pub shape_tokens : CellForm → List Token
shape_tokens numbers = token.Max ∷ []
shape_tokens names = token.Name ∷ []
shape_tokens truths = token.Or ∷ []
shape_tokens (lex a b) = token.Lex ∷ (shape_tokens a ++ shape_tokens b)
shape_tokens (pair a b) = token.Pair ∷ (shape_tokens a ++ shape_tokens b)

-- a component's kind, its key sort if it has one, and its shape if it has one
abbrev pub head_tokens : ComponentForm → List Token
head_tokens (a_cell shape starts effects) = token.Cell ∷ shape_tokens shape
head_tokens (a_table key shape starts effects) = token.Table ∷ token.Keys key ∷ shape_tokens shape
head_tokens (a_set key effects) = token.Set ∷ token.Keys key ∷ []
head_tokens (a_tally effects) = token.Tally ∷ []
head_tokens (tallies key effects) = token.Tallies ∷ token.Keys key ∷ []

abbrev pub starts_of : ComponentForm → List Value
starts_of (a_cell shape starts effects) = starts
starts_of (a_table key shape starts effects) = starts
starts_of (a_set key effects) = []
starts_of (a_tally effects) = []
starts_of (tallies key effects) = []

-- a start is told by its place among the constants of its kind
abbrev pub start_token : Constants → Value → Token
start_token cs v = token.Start (place_of v (of_kind cs (value_kind v)))

-- the effect of each operation, if it has one: the key token, if the component has keys, and then the leaves; for a set the key alone
abbrev pub cell_effect : Option (List Leaf) → Option (List Token)
cell_effect None = None
cell_effect (Some leaves) = Some (map token.Effect leaves)

abbrev pub table_effect : Option (ℕ × List Leaf) → Option (List Token)
table_effect None = None
table_effect (Some e) = Some (token.At e.0 ∷ map token.Effect e.1)

abbrev pub set_effect : Option ℕ → Option (List Token)
set_effect None = None
set_effect (Some place) = Some (token.Effect (given.Arg place) ∷ [])

abbrev pub tally_effect : Option Leaf → Option (List Token)
tally_effect None = None
tally_effect (Some weight) = Some (token.Effect weight ∷ [])

abbrev pub tallies_effect : Option (ℕ × Leaf) → Option (List Token)
tallies_effect None = None
tallies_effect (Some e) = Some (token.At e.0 ∷ token.Effect e.1 ∷ [])

abbrev pub effects_of : ComponentForm → List (Option (List Token))
effects_of (a_cell shape starts effects) = map cell_effect effects
effects_of (a_table key shape starts effects) = map table_effect effects
effects_of (a_set key effects) = map set_effect effects
effects_of (a_tally effects) = map tally_effect effects
effects_of (tallies key effects) = map tallies_effect effects

abbrev pub effect_tokens : Option (List Token) → List Token
effect_tokens None = token.Nothing ∷ []
effect_tokens (Some tokens) = tokens

abbrev pub effects_tokens : List (Option (List Token)) → List Token
effects_tokens [] = []
effects_tokens (e ∷ es) = effect_tokens e ++ effects_tokens es

abbrev pub component_tokens : Constants → ComponentForm → List Token
component_tokens cs c = head_tokens c ++ (map (start_token cs) (starts_of c) ++ effects_tokens (effects_of c))

abbrev pub components_tokens : Constants → List ComponentForm → List Token
components_tokens cs [] = []
components_tokens cs (c ∷ more) = component_tokens cs c ++ components_tokens cs more

abbrev pub constant_token : Constants → Value → Token
constant_token cs (value.Num z) = token.NumberConstant (place_of (value.Num z) cs.numbers)
constant_token cs (value.Name code) = token.NameConstant (place_of (value.Name code) cs.names)
constant_token cs (value.Bool b) = token.Truth b

-- an ask: each node before its parts
abbrev pub ask_tokens : Constants → AskForm → List Token
ask_tokens cs (leaf component place key) = token.Read component place key ∷ []
ask_tokens cs (parameter place) = token.Arg place ∷ []
ask_tokens cs (constant v) = constant_token cs v ∷ []
ask_tokens cs (negation a) = token.Not ∷ ask_tokens cs a
ask_tokens cs (both a b) = token.And ∷ (ask_tokens cs a ++ ask_tokens cs b)
ask_tokens cs (either a b) = token.Either ∷ (ask_tokens cs a ++ ask_tokens cs b)
ask_tokens cs (less a b) = token.Less ∷ (ask_tokens cs a ++ ask_tokens cs b)
ask_tokens cs (sum a b) = token.Plus ∷ (ask_tokens cs a ++ ask_tokens cs b)
ask_tokens cs (difference a b) = token.Minus ∷ (ask_tokens cs a ++ ask_tokens cs b)

abbrev pub asks_tokens : Constants → List AskForm → List Token
asks_tokens cs [] = []
asks_tokens cs (a ∷ asks) = ask_tokens cs a ++ asks_tokens cs asks

-- the components one after the other, then the end, then each ask
abbrev pub design_tokens : Constants → DesignForm → List Token
design_tokens cs d = components_tokens cs d.components ++ token.End ∷ asks_tokens cs d.asks
