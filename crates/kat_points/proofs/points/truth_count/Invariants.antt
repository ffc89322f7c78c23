use Rattle.std.proofs.Common.{◌≡◌, ◌≤◌, drop, map}
use Rattle.kat_form.specs.Encodings.{sense_of}
use Rattle.kat_points.specs.Points.{end_place}
use Rattle.kat_points.proofs.points.truth_count.Given as goal

abbrev pub invariant-loop-meaning : goal.invariant-loop-meaning
invariant-loop-meaning l = record {
  few : l.place ≤ l.meaning-index;
  end : end_place l.place (map sense_of (drop l.meaning-index l.meanings)) ≡ end_place 0 (map sense_of l.meanings);
}
