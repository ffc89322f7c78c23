-- Ranks of operations that were done, and their order.
use Rattle.std.specs.Prelude.{ℕ, List, [], map, Option, None, Some, pos}
use Rattle.std.specs.Cmp.Lexicographic.{slice_cmp}
use Rattle.std.specs.List.{slice_get}
use Rattle.std.specs.Ordering.{int_cmp, nat_cmp}
use Rattle.std.specs.declared.cmp.Ordering.{Ordering}
use Rattle.kat_num.specs.declared.values.Value.{Value}
use Rattle.kat_num.specs.declared.values.Value.TheVariants.{Bool as Truth, Num, Name}
use Rattle.kat_expr.specs.Slots.{argument}
use Rattle.kat_type.specs.Types.{OperationForm, TypeForm}
use Rattle.kat_type.specs.declared.done.Done.{Done}
use Rattle.kat_type.specs.declared.types.Rank.{Rank}
use Rattle.kat_type.specs.declared.types.Rank.TheVariants.{Digit, Time, Replica, Arg}

-- the value of a rank's element, for an operation that was done
abbrev pub element_value : Done → Rank → Value
element_value done (Digit n) = Num (pos n)
element_value done Time = Num (pos done.time)
element_value done Replica = Num (pos done.replica)
element_value done (Arg place) = argument done.args place

-- the rank that an operation of the type states; one that the type doesn't have states nothing
abbrev pub stated_rank : Option OperationForm → List Rank
stated_rank None = []
stated_rank (Some o) = o.ranks

abbrev pub elements_of : TypeForm → ℕ → List Rank
elements_of ty op = stated_rank (slice_get ty.ops op)

-- the rank of an operation that was done: the values of the elements of its operation's rank
abbrev pub rank_of : TypeForm → Done → List Value
rank_of ty done = map (element_value done) (elements_of ty done.op)

abbrev pub kind_of : Value → ℕ
kind_of (Truth _) = 0
kind_of (Num _) = 1
kind_of (Name _) = 2

-- numbers compare by size, and names by their codes. At one place of the ranks of a type all are numbers
-- or all are names; elsewhere numbers come before names, and truth values, which no rank has, before both.
abbrev pub value_cmp : Value → Value → Ordering
value_cmp (Num x) (Num y) = int_cmp x y
value_cmp (Name x) (Name y) = nat_cmp x y
value_cmp x y = nat_cmp (kind_of x) (kind_of y)

-- ranks are compared lexicographically, from the first element on
abbrev pub rank_cmp : List Value → List Value → Ordering
rank_cmp a b = slice_cmp value_cmp a b
