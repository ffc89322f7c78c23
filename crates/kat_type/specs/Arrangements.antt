-- Arrangements of operations that were done.
use Rattle.std.specs.Prelude.{◌≡◌, ◌≢◌, List}
use Rattle.std.specs.List.{AllPairs}
use Rattle.std.specs.Ordering.{nat_cmp, ordering_then}
use Rattle.std.specs.declared.cmp.Ordering.{Ordering}
use Rattle.std.specs.declared.cmp.Ordering.TheVariants.{Less}
use Rattle.kat_type.specs.InOrder.{in_order}
use Rattle.kat_type.specs.Lists.{Has, HaveSame, IsOnce}
use Rattle.kat_type.specs.Ranks.{rank_cmp, rank_of}
use Rattle.kat_type.specs.Types.{TypeForm}
use Rattle.kat_type.specs.declared.done.Done.{Done}

-- the list has the members of the other and no others, each once
pub record Arranges (arranged ones : List Done) : Type 0 where
  pub once : IsOnce arranged
  pub same : HaveSame arranged ones

-- none comes before one of smaller rank
abbrev pub RespectsRanks : TypeForm → List Done → Type 0
RespectsRanks ty arranged = AllPairs (λ earlier later. rank_cmp (rank_of ty later) (rank_of ty earlier) ≢ Less) arranged

-- by rank, then time, then replica
abbrev pub canonical_cmp : TypeForm → Done → Done → Ordering
canonical_cmp ty left right =
    ordering_then (rank_cmp (rank_of ty left) (rank_of ty right)) (ordering_then (nat_cmp left.time right.time) (nat_cmp left.replica right.replica))

-- each is strictly before all later ones
abbrev pub IsAscending : TypeForm → List Done → Type 0
IsAscending ty arranged = AllPairs (λ earlier later. canonical_cmp ty earlier later ≡ Less) arranged

-- the arrangement of these operations by rank, then time, then replica
pub record IsCanonical (ty : TypeForm) (arranged ones : List Done) : Type 0 where
  pub arranges : Arranges arranged ones
  pub ascending : IsAscending ty arranged

-- the operations by rank, then time, then replica, each once
abbrev pub canonical : TypeForm → List Done → List Done
canonical ty ones = in_order (canonical_cmp ty) ones

-- time and replica tell operations apart
abbrev pub AreApart : List Done → Type 0
AreApart ones = (one other : Done) → Has ones one → Has ones other → one.replica ≡ other.replica → one.time ≡ other.time → one ≡ other
