-- Used inside only.
-- Two leaves of one kind: how they compare, and their join.
use Rattle.std.specs.Prelude.{max, ◌||◌}
use Rattle.std.specs.Int.{int_max}
use Rattle.std.specs.declared.cmp.Ordering.{Ordering}
use Rattle.std.specs.declared.cmp.Ordering.TheVariants.{Less}
use Rattle.std.specs.Ordering.{int_cmp, nat_cmp, bool_cmp}
use Rattle.kat_num.specs.declared.values.Value.{Value}
use Rattle.kat_num.specs.declared.values.Value.TheVariants.{Bool as Truth, Num, Name}

-- numbers, names by code, false below true
abbrev pub leaves_compared : Value → Value → Ordering
leaves_compared (Num x) (Num y) = int_cmp x y
leaves_compared (Name x) (Name y) = nat_cmp x y
leaves_compared (Truth x) (Truth y) = bool_cmp x y
leaves_compared _ _ = Less

-- the greater number or name; true if one is
abbrev pub leaves_joined : Value → Value → Value
leaves_joined (Num x) (Num y) = Num (int_max x y)
leaves_joined (Name x) (Name y) = Name (max x y)
leaves_joined (Truth x) (Truth y) = Truth (x || y)
leaves_joined v _ = v
