use Rattle.std.proofs.Common.{◌≡◌, drop, take}
use Rattle.kat_linear.specs.Rows.{forms}
use Rattle.kat_linear.specs.Sums.{AreNarrow}
use Rattle.kat_linear.specs.Widths.{widths_from, widths}
use Rattle.kat_linear.proofs.widths.wide_numbers.Given as goal

abbrev pub invariant-loop-i : goal.invariant-loop-i
invariant-loop-i l = record {
  left : widths_from (forms (take l.i l.rows)) (take l.i l.multipliers) (forms (drop l.i l.rows)) (drop l.i l.multipliers) ≡ widths (forms l.rows) l.multipliers;
  narrow : AreNarrow (forms (take l.i l.rows)) (take l.i l.multipliers);
}
