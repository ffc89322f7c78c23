-- The order of values, by which the keys of tables, sets and sums by key are sorted.
use Rattle.std.specs.declared.cmp.Ordering.{Ordering}
use Rattle.kat_num.specs.contracts.values.ValueOrd.TheImpl.{ghosts}
use Rattle.kat_num.specs.declared.values.Value.{Value}

-- truth values before numbers before names; `false` before `true`, numbers by size, names by their codes, which is the
-- order of their bytes
abbrev pub value_order : Value → Value → Ordering
value_order = ghosts.cmp
