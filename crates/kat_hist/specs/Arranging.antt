-- Used inside only.
-- The orders of operations that respect the ranks, and whether one shows that a design differs.
use Rattle.std.specs.Prelude.{Bool, not, ◌&&◌, List, filter, map}
use Rattle.std.specs.List.{list_any}
use Rattle.kat_design.specs.Answers as design
use Rattle.kat_design.specs.Designs.{DesignForm}
use Rattle.kat_type.specs.Unions.{is_same_value}
use Rattle.kat_design.specs.declared.states.Part.{Part}
use Rattle.kat_expr.specs.declared.expressions.Slot.{Slot}
use Rattle.kat_seq.specs.States.{state_after}
use Rattle.kat_seq.specs.States as sequential
use Rattle.kat_type.specs.Ranks.{rank_cmp, rank_of}
use Rattle.kat_type.specs.Types.{TypeForm}
use Rattle.kat_type.specs.declared.done.Done.{Done}
use Rattle.kat_histories.specs.Orders.{each_pair, is_less}
use Rattle.kat_histories.specs.declared.calls.Call.{Call}

-- the later one's rank isn't smaller
abbrev pub may_follow : TypeForm → Done → Done → Bool
may_follow ty earlier later = not (is_less (rank_cmp (rank_of ty later) (rank_of ty earlier)))

abbrev pub respects_ranks : TypeForm → List Done → Bool
respects_ranks ty arranged = each_pair (may_follow ty) arranged

-- the states of a type after those of these orders that respect the ranks
abbrev pub states_of : TypeForm → List (List Done) → List (List Slot)
states_of ty orders = map (state_after ty) (filter (respects_ranks ty) orders)

-- an ask has another answer in the state of the design than in that of the type
abbrev pub is_unlike : TypeForm → DesignForm → List Part → List Slot → Call → Bool
is_unlike ty d parts state ask =
    not (is_same_value (sequential.answer_of ty state ask.number ask.args) (design.answer_of d parts ask.number ask.args))

-- the order respects the ranks, and some ask has another answer after it
abbrev pub tells_apart : TypeForm → DesignForm → List Part → List Call → List Done → Bool
tells_apart ty d parts asks arranged = respects_ranks ty arranged && list_any (is_unlike ty d parts (state_after ty arranged)) asks
