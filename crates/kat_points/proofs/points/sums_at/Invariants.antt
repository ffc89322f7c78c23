use Rattle.std.proofs.Common.{◌≡◌, drop, map, take}
use Rattle.kat_form.specs.Encodings.{sense_of}
use Rattle.kat_points.specs.Answers.{point_form}
use Rattle.kat_points.specs.Points.{some_pass, value_in}
use Rattle.kat_points.proofs.points.sums_at.Given as goal

abbrev pub invariant-loop-meaning : goal.invariant-loop-meaning
invariant-loop-meaning l = record {
  pass : some_pass (point_form l.point) (map sense_of (drop l.meaning-index l.meanings)) ≡ some_pass (point_form l.point) (map sense_of l.meanings);
  sums : l.sums.items ≡ map (value_in (point_form l.point)) (map sense_of (take l.meaning-index l.meanings));
}
