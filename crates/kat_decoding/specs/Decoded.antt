-- Used inside only.
-- The design that a list of tokens stands for, read from its end. A list that is no design's gives anything.
use Rattle.std.specs.Prelude.{ℕ, ◌==◌, nat_lt, Bool, ◌&&◌, List, [], ◌∷◌, map, length, Option, None, Some, ◌^◌, if◌then◌else◌}
use Rattle.kat_num.specs.declared.values.Value.{Value}
use Rattle.kat_num.specs.declared.values.Value.TheVariants as value
use Rattle.kat_design.specs.Designs.{ComponentForm, AskForm, DesignForm}
use Rattle.kat_design.specs.Designs.ComponentForm.{a_cell, a_table, a_set, a_tally, tallies}
use Rattle.kat_design.specs.Designs.AskForm.{leaf, parameter, constant, negation, both, either, less, sum, difference}
use Rattle.kat_rules.specs.Constants.{of_kind, value_at}
use Rattle.kat_rules.specs.declared.constants.Constants.{Constants}
use Rattle.kat_rules.specs.declared.constants.Setting.{Setting}
use Rattle.kat_rules.specs.declared.tokens.Token.{Token}
use Rattle.std.specs.List.{zip}
use Rattle.kat_num.specs.declared.values.Sort.{Sort}
use Rattle.kat_num.specs.declared.values.Sort.TheVariants as sort
use Rattle.kat_shape.specs.Forms.{CellForm, lex, names, numbers, pair, truths}
use Rattle.kat_design.specs.Kinds.{kinds_of}
use Rattle.kat_design.specs.declared.designs.Leaf.{Leaf}
use Rattle.kat_design.specs.declared.designs.Leaf.TheVariants as given
use Rattle.kat_design.specs.declared.kinds.Kind.{Kind}
use Rattle.kat_rules.specs.declared.tokens.Token.TheVariants as token
use Rattle.kat_rules.specs.Tests.{is_word_of}

-- asks: an atom goes in front, an operator takes those that come first
abbrev pub one_taken : (AskForm → AskForm) → List AskForm → List AskForm
one_taken f [] = []
one_taken f (a ∷ asks) = f a ∷ asks

abbrev pub two_taken : (AskForm → AskForm → AskForm) → List AskForm → List AskForm
two_taken f (a ∷ b ∷ asks) = f a b ∷ asks
two_taken f asks = asks

-- a program's numbers of components and leaves have 32 bits
abbrev pub is_narrow : ℕ → Bool
is_narrow n = nat_lt n (2 ^ 32)

abbrev pub push_ask_read : ℕ → ℕ → Option ℕ → List AskForm → List AskForm
push_ask_read component place key asks = if is_narrow component && is_narrow place then leaf component place key ∷ asks else asks

abbrev pub push_ask : Constants → Token → List AskForm → List AskForm
push_ask cs (token.Read component place key) asks = push_ask_read component place key asks
push_ask cs (token.Arg place) asks = parameter place ∷ asks
push_ask cs (token.NumberConstant place) asks = constant (value_at cs.numbers place) ∷ asks
push_ask cs (token.NameConstant place) asks = constant (value_at cs.names place) ∷ asks
push_ask cs (token.Truth b) asks = constant (value.Bool b) ∷ asks
push_ask cs token.Not asks = one_taken negation asks
push_ask cs token.And asks = two_taken both asks
push_ask cs token.Either asks = two_taken either asks
push_ask cs token.Less asks = two_taken less asks
push_ask cs token.Plus asks = two_taken sum asks
push_ask cs token.Minus asks = two_taken difference asks
push_ask cs _ asks = asks

-- the asks that tokens stand for
abbrev pub decoded_asks : Constants → List Token → List AskForm
decoded_asks cs [] = []
decoded_asks cs (t ∷ w) = push_ask cs t (decoded_asks cs w)

-- what is read, from the end: whole components, and of one whose first token isn't read yet its shapes, starts, effects and
-- key sort
pub record ReadParts : Type 0 where
  pub components : List ComponentForm
  pub shapes : List CellForm
  pub starts : List ℕ
  pub parts : List Token
  pub keys : List Sort

abbrev pub shapes_taken : (CellForm → CellForm → CellForm) → List CellForm → List CellForm
shapes_taken f (a ∷ b ∷ shapes) = f a b ∷ shapes
shapes_taken f shapes = shapes

-- effects from their tokens: this many leaves each, after a key, or one token each
pub record Grouped (A : Type 0) : Type 0 where
  pub open_leaves : List Leaf
  pub effects : List A

abbrev pub more_leaves : {A : Type 0} → Leaf → Grouped A → Grouped A
more_leaves l g = record { open_leaves = l ∷ g.open_leaves; effects = g.effects }

abbrev pub more_effects : {A : Type 0} → A → Grouped A → Grouped A
more_effects e g = record { open_leaves = g.open_leaves; effects = e ∷ g.effects }

abbrev pub with_all : Grouped (Option (List Leaf)) → Grouped (Option (List Leaf))
with_all g = record { open_leaves = []; effects = Some g.open_leaves ∷ g.effects }

abbrev pub if_full : ℕ → Grouped (Option (List Leaf)) → Grouped (Option (List Leaf))
if_full n g = if length g.open_leaves == n then with_all g else g

abbrev pub with_leaf : ℕ → Leaf → Grouped (Option (List Leaf)) → Grouped (Option (List Leaf))
with_leaf n l g = if_full n (more_leaves l g)

abbrev pub with_key : ℕ → Grouped (Option (ℕ × List Leaf)) → Grouped (Option (ℕ × List Leaf))
with_key place g = record { open_leaves = []; effects = Some (place, g.open_leaves) ∷ g.effects }

abbrev pub cell_group : ℕ → Token → Grouped (Option (List Leaf)) → Grouped (Option (List Leaf))
cell_group n token.Nothing g = more_effects None g
cell_group n (token.Effect l) g = with_leaf n l g
cell_group n _ g = g

abbrev pub cell_groups : ℕ → List Token → Grouped (Option (List Leaf))
cell_groups n [] = record { open_leaves = []; effects = [] }
cell_groups n (t ∷ w) = cell_group n t (cell_groups n w)

abbrev pub table_group : Token → Grouped (Option (ℕ × List Leaf)) → Grouped (Option (ℕ × List Leaf))
table_group token.Nothing g = more_effects None g
table_group (token.Effect l) g = more_leaves l g
table_group (token.At place) g = with_key place g
table_group _ g = g

abbrev pub table_groups : List Token → Grouped (Option (ℕ × List Leaf))
table_groups [] = record { open_leaves = []; effects = [] }
table_groups (t ∷ w) = table_group t (table_groups w)

abbrev pub with_member : Leaf → List (Option ℕ) → List (Option ℕ)
with_member (given.Arg place) es = Some place ∷ es
with_member _ es = es

abbrev pub set_group : Token → List (Option ℕ) → List (Option ℕ)
set_group token.Nothing es = None ∷ es
set_group (token.Effect l) es = with_member l es
set_group _ es = es

abbrev pub set_groups : List Token → List (Option ℕ)
set_groups [] = []
set_groups (t ∷ w) = set_group t (set_groups w)

abbrev pub tally_group : Token → List (Option Leaf) → List (Option Leaf)
tally_group token.Nothing es = None ∷ es
tally_group (token.Effect l) es = Some l ∷ es
tally_group _ es = es

abbrev pub tally_groups : List Token → List (Option Leaf)
tally_groups [] = []
tally_groups (t ∷ w) = tally_group t (tally_groups w)

-- a key and the first of the leaves after it
abbrev pub first_weight : ℕ → List Leaf → List (Option (ℕ × Leaf)) → List (Option (ℕ × Leaf))
first_weight place [] es = es
first_weight place (l ∷ leaves) es = Some (place, l) ∷ es

abbrev pub with_weight : ℕ → Grouped (Option (ℕ × Leaf)) → Grouped (Option (ℕ × Leaf))
with_weight place g = record { open_leaves = []; effects = first_weight place g.open_leaves g.effects }

abbrev pub tallies_group : Token → Grouped (Option (ℕ × Leaf)) → Grouped (Option (ℕ × Leaf))
tallies_group token.Nothing g = more_effects None g
tallies_group (token.Effect l) g = more_leaves l g
tallies_group (token.At place) g = with_weight place g
tallies_group _ g = g

abbrev pub tallies_groups : List Token → Grouped (Option (ℕ × Leaf))
tallies_groups [] = record { open_leaves = []; effects = [] }
tallies_groups (t ∷ w) = tallies_group t (tallies_groups w)

-- the values at places among the constants of these kinds
abbrev pub start_value : Constants → Kind × ℕ → Value
start_value cs start = value_at (of_kind cs start.0) start.1

abbrev pub start_values : Constants → List Kind → List ℕ → List Value
start_values cs kinds places = map (start_value cs) (zip kinds places)

abbrev pub first_shape : List CellForm → CellForm
first_shape [] = numbers
first_shape (s ∷ shapes) = s

abbrev pub first_key : List Sort → Sort
first_key [] = sort.Int
first_key (s ∷ keys) = s

abbrev pub closed_cell : Constants → CellForm → ReadParts → ComponentForm
closed_cell cs shape b = a_cell shape (start_values cs (kinds_of shape) b.starts) (cell_groups (length (kinds_of shape)) b.parts).effects

abbrev pub closed_table : Constants → CellForm → ReadParts → ComponentForm
closed_table cs shape b = a_table (first_key b.keys) shape (start_values cs (kinds_of shape) b.starts) (table_groups b.parts).effects

-- a component is closed, and nothing is read yet of the one before it
abbrev pub with_component : ComponentForm → ReadParts → ReadParts
with_component c b = record { components = c ∷ b.components; shapes = []; starts = []; parts = []; keys = [] }

abbrev pub with_shapes : List CellForm → ReadParts → ReadParts
with_shapes shapes b = record { components = b.components; shapes = shapes; starts = b.starts; parts = b.parts; keys = b.keys }

abbrev pub with_part : Token → ReadParts → ReadParts
with_part t b = record { components = b.components; shapes = b.shapes; starts = b.starts; parts = t ∷ b.parts; keys = b.keys }

abbrev pub with_start : ℕ → ReadParts → ReadParts
with_start place b = record { components = b.components; shapes = b.shapes; starts = place ∷ b.starts; parts = b.parts; keys = b.keys }

abbrev pub with_key_sort : Sort → ReadParts → ReadParts
with_key_sort s b = record { components = b.components; shapes = b.shapes; starts = b.starts; parts = b.parts; keys = s ∷ b.keys }

abbrev pub push_part : Constants → Token → ReadParts → ReadParts
push_part cs token.Cell b = with_component (closed_cell cs (first_shape b.shapes) b) b
push_part cs token.Table b = with_component (closed_table cs (first_shape b.shapes) b) b
push_part cs token.Set b = with_component (a_set (first_key b.keys) (set_groups b.parts)) b
push_part cs token.Tally b = with_component (a_tally (tally_groups b.parts)) b
push_part cs token.Tallies b = with_component (tallies (first_key b.keys) (tallies_groups b.parts).effects) b
push_part cs (token.Keys s) b = with_key_sort s b
push_part cs token.Max b = with_shapes (numbers ∷ b.shapes) b
push_part cs token.Name b = with_shapes (names ∷ b.shapes) b
push_part cs token.Or b = with_shapes (truths ∷ b.shapes) b
push_part cs token.Lex b = with_shapes (shapes_taken lex b.shapes) b
push_part cs token.Pair b = with_shapes (shapes_taken pair b.shapes) b
push_part cs (token.Start place) b = with_start place b
push_part cs token.Nothing b = with_part token.Nothing b
push_part cs (token.At place) b = with_part (token.At place) b
push_part cs (token.Effect l) b = with_part (token.Effect l) b
push_part cs _ b = b

abbrev pub nothing_read : ReadParts
nothing_read = record { components = []; shapes = []; starts = []; parts = []; keys = [] }

-- the components that tokens stand for, with what was read of one whose first token isn't there
abbrev pub decoded_parts : Constants → List Token → ReadParts
decoded_parts cs [] = nothing_read
decoded_parts cs (t ∷ w) = push_part cs t (decoded_parts cs w)

-- a design's token list gives that design back: the law `designs_are_told_by_tokens`
abbrev pub decoded : Setting → List Token → DesignForm
decoded x w = record { sig = x.sig; components = (decoded_parts x.constants w).components; asks = decoded_asks x.constants w }

-- the list is that of a design of this size that keeps the rules
abbrev pub is_listed_word : Setting → ℕ → List Token → Bool
is_listed_word x n w = is_word_of x n w (decoded x w)
