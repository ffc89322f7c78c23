-- Shapes as contracts see them, and which of them are chains.
use Rattle.std.specs.Prelude.{ℕ, ◌+◌, List, [], ◌∷◌, ◌++◌}
use Rattle.kat_num.specs.declared.values.Value.{Value}
use Rattle.kat_num.specs.declared.values.Value.TheVariants.{Bool as Truth, Num, Name}
use Rattle.kat_shape.specs.declared.shapes.Shape.{Shape, Max as MaxShape, Name as NameShape, Or as OrShape, Lex' as LexShape, Pair' as PairShape}

-- a shape: numbers, names, truth values, and pairs of two parts, joined by the first part first or part by part
pub data CellForm : Type 0 where
  numbers : CellForm
  names : CellForm
  truths : CellForm
  lex : CellForm → CellForm → CellForm
  pair : CellForm → CellForm → CellForm

-- the shape that a program holds
abbrev pub form_of : Shape → CellForm
form_of MaxShape = numbers
form_of NameShape = names
form_of OrShape = truths
form_of (LexShape _ a _ b) = lex (form_of a) (form_of b)
form_of (PairShape _ a _ b) = pair (form_of a) (form_of b)

-- a chain: of two values of the shape one is always at or below the other
abbrev pub IsChainForm : CellForm → Type 0
IsChainForm numbers = Unit {0}
IsChainForm names = Unit {0}
IsChainForm truths = Unit {0}
IsChainForm (lex a b) = IsChainForm a × IsChainForm b
IsChainForm (pair a b) = ⊥

-- the first part of each lexicographic pair is a chain
abbrev pub IsGoodForm : CellForm → Type 0
IsGoodForm numbers = Unit {0}
IsGoodForm names = Unit {0}
IsGoodForm truths = Unit {0}
IsGoodForm (lex a b) = IsChainForm a × IsGoodForm b
IsGoodForm (pair a b) = IsGoodForm a × IsGoodForm b

-- what a leaf holds
pub data LeafKind : Type 0 where
  number : LeafKind
  name : LeafKind
  truth : LeafKind

abbrev pub leaf_kind_of : Value → LeafKind
leaf_kind_of (Num z) = number
leaf_kind_of (Name code) = name
leaf_kind_of (Truth b) = truth

-- the kinds of the leaves, from the left
abbrev pub leaf_kinds_of : CellForm → List LeafKind
leaf_kinds_of numbers = number ∷ []
leaf_kinds_of names = name ∷ []
leaf_kinds_of truths = truth ∷ []
leaf_kinds_of (lex a b) = leaf_kinds_of a ++ leaf_kinds_of b
leaf_kinds_of (pair a b) = leaf_kinds_of a ++ leaf_kinds_of b

-- the number of leaves
abbrev pub width_of : CellForm → ℕ
width_of numbers = 1
width_of names = 1
width_of truths = 1
width_of (lex a b) = width_of a + width_of b
width_of (pair a b) = width_of a + width_of b

-- the number of the shape's nodes
abbrev pub nodes_of : CellForm → ℕ
nodes_of numbers = 1
nodes_of names = 1
nodes_of truths = 1
nodes_of (lex a b) = nodes_of a + nodes_of b + 1
nodes_of (pair a b) = nodes_of a + nodes_of b + 1
