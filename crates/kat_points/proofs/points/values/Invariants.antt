use Rattle.std.proofs.Common.{◌≡◌, ◌≤◌, ◌++◌, drop, map}
use Rattle.kat_form.specs.Encodings.{sense_of}
use Rattle.kat_points.specs.Answers.{point_form}
use Rattle.kat_points.specs.Points.{values_from}
use Rattle.kat_points.proofs.points.values.Given as goal

abbrev pub invariant-loop-i : goal.invariant-loop-i
invariant-loop-i l = record {
  few : l.place ≤ l.i;
  values : l.values.items ++ values_from (point_form l.point) l.place (map sense_of (drop l.i l.meanings)) ≡ values_from (point_form l.point) 0 (map sense_of l.meanings);
}
