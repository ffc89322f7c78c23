-- Used inside only.
-- Cells by their leaves: a shape and its leaves are one cell, and the leaves of a join are those of the two, joined one by one.
use Rattle.std.specs.Prelude.{◌≡◌, Bool, if◌then◌else◌, List, [], ◌∷◌, ◌++◌, length, map, take, drop}
use Rattle.std.specs.Ordering.{is_lt}
use Rattle.std.specs.Cmp.Lexicographic.{slice_cmp}
use Rattle.kat_num.specs.declared.values.Value.{Value}
use Rattle.kat_shape.specs.Forms.{CellForm, IsChainForm, IsGoodForm, numbers, names, truths, lex, pair, leaf_kind_of, leaf_kinds_of, width_of}
use Rattle.kat_shape.specs.Leaves.{leaves_compared, leaves_joined}
use Rattle.kat_shape.specs.Values.{Filled, a_lex, shape_of, leaves_of, joined}

-- cells of one shape with the same leaves are one
abbrev pub LeavesDetermineCells : Type 0
LeavesDetermineCells = (a b : Filled) → shape_of a ≡ shape_of b → leaves_of a ≡ leaves_of b → a ≡ b

-- a value has a leaf for each of its shape's, of its kind
abbrev pub LeavesFitShapes : Type 0
LeavesFitShapes = (a : Filled) → (map leaf_kind_of (leaves_of a) ≡ leaf_kinds_of (shape_of a)) × (length (leaves_of a) ≡ width_of (shape_of a))

-- the first part of a lexicographic pair
abbrev pub first_of : Filled → Filled
first_of (a_lex a b) = a
first_of v = v

-- the first part of a join is the join of the first parts
abbrev pub JoinsFirstParts : Type 0
JoinsFirstParts = (a b c d : Filled) → IsChainForm (shape_of a) → shape_of a ≡ shape_of c → first_of (joined (a_lex a b) (a_lex c d)) ≡ joined a c

-- the leaves of a chain come before others in lexicographic order
abbrev pub is_before : List Value → List Value → Bool
is_before xs ys = is_lt (slice_cmp leaves_compared xs ys)

-- the leaves of the second part of a lexicographic pair: those of the one whose first part is greater, or both joined
abbrev pub second_leaves : (first_old first_new old new both : List Value) → List Value
second_leaves first_old first_new old new both =
    if is_before first_old first_new then new else (if is_before first_new first_old then old else both)

abbrev pub one_leaf : List Value → List Value → List Value
one_leaf (old ∷ _) (new ∷ _) = leaves_joined old new ∷ []
one_leaf _ _ = []

-- the leaves of a join, from the leaves of the old value and of what is joined to it
abbrev pub joined_leaves : CellForm → List Value → List Value → List Value
joined_leaves numbers old new = one_leaf old new
joined_leaves names old new = one_leaf old new
joined_leaves truths old new = one_leaf old new
joined_leaves (lex a b) old new =
    joined_leaves a (take (width_of a) old) (take (width_of a) new)
    ++ second_leaves (take (width_of a) old) (take (width_of a) new) (drop (width_of a) old) (drop (width_of a) new) (joined_leaves b (drop (width_of a) old) (drop (width_of a) new))
joined_leaves (pair a b) old new =
    joined_leaves a (take (width_of a) old) (take (width_of a) new) ++ joined_leaves b (drop (width_of a) old) (drop (width_of a) new)

-- a join joins leaf by leaf
abbrev pub JoinsLeafByLeaf : Type 0
JoinsLeafByLeaf = (a b : Filled) → IsGoodForm (shape_of a) → shape_of a ≡ shape_of b → leaves_of (joined a b) ≡ joined_leaves (shape_of a) (leaves_of a) (leaves_of b)
