-- Used by kat_design, kat_embed, kat_invariant, kat_node, kat_replica, kat_step. A shape's leaves as one flat
-- list, and the value that they are.
use Rattle.std.specs.Prelude.{◌≡◌, ℕ, ℤ, pos, Bool, false, List, ◌∷◌, ◌++◌, map, take, drop}
use Rattle.kat_num.specs.declared.values.Value.{Value}
use Rattle.kat_num.specs.declared.values.Value.TheVariants.{Bool as Truth, Num, Name}
use Rattle.kat_shape.specs.Forms.{CellForm, numbers, names, truths, lex, pair, width_of, leaf_kind_of, leaf_kinds_of, IsGoodForm}
use Rattle.kat_shape.specs.Values.{Filled, a_number, a_name, a_truth, a_lex, a_pair}

-- the first leaf, as a number, a name or a truth value
abbrev pub first_number : List Value → ℤ
first_number (Num z ∷ vs) = z
first_number _ = pos 0

abbrev pub first_name : List Value → ℕ
first_name (Name n ∷ vs) = n
first_name _ = 0

abbrev pub first_truth : List Value → Bool
first_truth (Truth b ∷ vs) = b
first_truth _ = false

-- the shape filled from the beginning of the values
abbrev pub filled_with : CellForm → List Value → Filled
filled_with numbers vs = a_number (first_number vs)
filled_with names vs = a_name (first_name vs)
filled_with truths vs = a_truth (first_truth vs)
filled_with (lex a b) vs = a_lex (filled_with a (take (width_of a) vs)) (filled_with b (drop (width_of a) vs))
filled_with (pair a b) vs = a_pair (filled_with a (take (width_of a) vs)) (filled_with b (drop (width_of a) vs))

-- the values are one for each leaf, each of its kind
pub record Fits (f : CellForm) (vs : List Value) : Type 0 where
  pub kinds : map leaf_kind_of vs ≡ leaf_kinds_of f

-- the values are those of the first shape and then those of the second
pub record FitBoth (f g : CellForm) (vs : List Value) : Type 0 where
  pub kinds : map leaf_kind_of vs ≡ leaf_kinds_of f ++ leaf_kinds_of g

-- what a cell keeps
pub record IsFlat (f : CellForm) (vs : List Value) : Type 0 where
  pub good : IsGoodForm f
  pub fits : Fits f vs
