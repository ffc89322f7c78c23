-- Values of a shape, and their join by cases.
use Rattle.std.specs.Prelude.{◌≡◌, ℕ, ℤ, max, Bool, ◌||◌, List, [], ◌∷◌, ◌++◌}
use Rattle.std.specs.Int.{int_max}
use Rattle.std.specs.declared.cmp.Ordering.{Ordering}
use Rattle.std.specs.declared.cmp.Ordering.TheVariants.{Less}
use Rattle.std.specs.Ordering.{int_cmp, nat_cmp, bool_cmp, ordering_then, match_ordering}
use Rattle.kat_num.specs.declared.values.Value.{Value}
use Rattle.kat_num.specs.declared.values.Value.TheVariants.{Bool as Truth, Num, Name}
use Rattle.kat_shape.specs.Forms.{CellForm, IsGoodForm, numbers, names, truths, lex, pair}

-- a shape with a value at each leaf
pub data Filled : Type 0 where
  a_number : ℤ → Filled
  a_name : ℕ → Filled
  a_truth : Bool → Filled
  a_lex : Filled → Filled → Filled
  a_pair : Filled → Filled → Filled

-- the shape
abbrev pub shape_of : Filled → CellForm
shape_of (a_number z) = numbers
shape_of (a_name n) = names
shape_of (a_truth b) = truths
shape_of (a_lex a b) = lex (shape_of a) (shape_of b)
shape_of (a_pair a b) = pair (shape_of a) (shape_of b)

-- the values at the leaves, from the left
abbrev pub leaves_of : Filled → List Value
leaves_of (a_number z) = Num z ∷ []
leaves_of (a_name n) = Name n ∷ []
leaves_of (a_truth b) = Truth b ∷ []
leaves_of (a_lex a b) = leaves_of a ++ leaves_of b
leaves_of (a_pair a b) = leaves_of a ++ leaves_of b

-- the order of a chain: that of numbers, of names by code, false below true, and lexicographic
abbrev pub cells_compared : Filled → Filled → Ordering
cells_compared (a_number x) (a_number y) = int_cmp x y
cells_compared (a_name x) (a_name y) = nat_cmp x y
cells_compared (a_truth x) (a_truth y) = bool_cmp x y
cells_compared (a_lex a b) (a_lex c d) = ordering_then (cells_compared a c) (cells_compared b d)
cells_compared _ _ = Less

-- The join of two values of one shape: the greater number or name; true if one is; of a lexicographic pair the
-- one with the greater first part, or that part with the second parts joined if the first parts are equal; of
-- a pair part by part.
abbrev pub joined : Filled → Filled → Filled
joined (a_number x) (a_number y) = a_number (int_max x y)
joined (a_name x) (a_name y) = a_name (max x y)
joined (a_truth x) (a_truth y) = a_truth (x || y)
joined (a_lex a b) (a_lex c d) = match_ordering (cells_compared a c) (a_lex c d) (a_lex a (joined b d)) (a_lex a b)
joined (a_pair a b) (a_pair c d) = a_pair (joined a c) (joined b d)
joined a _ = a

-- two values go together if they have one shape, in which the first part of each lexicographic pair is a chain
pub record OneShape (a b : Filled) : Type 0 where
  pub good : IsGoodForm (shape_of a)
  pub same : shape_of a ≡ shape_of b
