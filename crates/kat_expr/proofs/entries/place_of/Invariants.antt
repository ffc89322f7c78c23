use Rattle.std.proofs.Common.{◌≡◌, ℕ, ◌-◌, ◌<◌, ◌≤◌, true, false, get_or, length, List}
use Rattle.kat_num.specs.declared.values.Value.{Value}
use Rattle.kat_expr.specs.Entries.{is_before}
use Rattle.kat_expr.proofs.entries.place_of.Given as goal

pub record Searched (entries : List (Value × Value)) (key : Value) (low high : ℕ) : Type 0 where
  pub ordered : low ≤ high
  pub within : high ≤ length entries
  pub before : (i : ℕ) (d : Value × Value) → i < low → is_before (get_or entries i d).0 key ≡ true
  pub behind : (i : ℕ) (d : Value × Value) → high ≤ i → i < length entries → is_before (get_or entries i d).0 key ≡ false

abbrev pub invariant-loop-low : goal.invariant-loop-low
invariant-loop-low l = Searched l.entries l.key l.low l.high

abbrev pub decreases-loop-low : goal.decreases-loop-low
decreases-loop-low l = l.high - l.low
