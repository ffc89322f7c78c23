-- Used inside only.
-- What the order of a chain of shapes says.
use Rattle.std.specs.Prelude.{◌≡◌, ◌⊎◌, ◌↔◌, IsTrue}
use Rattle.std.specs.Ordering.{is_le}
use Rattle.std.specs.Cmp.Lexicographic.{slice_cmp}
use Rattle.kat_lattice.specs.JoinLaws.{IsBelow}
use Rattle.kat_shape.specs.Forms.{IsChainForm}
use Rattle.kat_shape.specs.Leaves.{leaves_compared}
use Rattle.kat_shape.specs.Values.{Filled, shape_of, leaves_of, cells_compared, joined}

-- the order of a chain compares its leaves lexicographically
abbrev pub ComparesLeaves : Type 0
ComparesLeaves = (a b : Filled) → IsChainForm (shape_of a) → shape_of a ≡ shape_of b → cells_compared a b ≡ slice_cmp leaves_compared (leaves_of a) (leaves_of b)

-- of two values of a chain one is at or below the other
abbrev pub OneIsBelow : Type 0
OneIsBelow = (a b : Filled) → IsChainForm (shape_of a) → shape_of a ≡ shape_of b → IsBelow joined a b ⊎ IsBelow joined b a

-- the order of a chain is that of its join
abbrev pub OrderIsOfJoin : Type 0
OrderIsOfJoin = (a b : Filled) → IsChainForm (shape_of a) → shape_of a ≡ shape_of b → IsTrue (is_le (cells_compared a b)) ↔ IsBelow joined a b
