use Rattle.kat_form.specs.Encodings.{sense_of}
use Rattle.std.proofs.Common.{map, rules, FitsSigned}
use Rattle.std.specs.Int.{w128}
use Rattle.std.proofs.lemmas.Int.{to_z-of_z}
use Rattle.kat_points.specs.Answers.{point_form}
use Rattle.kat_points.specs.Points.{values_from}
use Rattle.kat_points.proofs.PointValues.{values_more}
use Rattle.kat_points.proofs.points.values.Goals as goal

pub loop-i-preserved : goal.loop-i-preserved
loop-i-preserved c =
    let fits : FitsSigned w128 c.sum.result = search rules in
    let told = simp to_z-of_z at c.value.ensures in
    let more = values_more (point_form c.args.point.now) c.args.meanings.now c.args.sums.now c.loop-i.i c.index-meanings-i.result c.loop-i.place c.next_place-place.result c.sum.result c.value.result
    c.loop-i.values.items c.push.new.self.items (values_from (point_form c.args.point.now) 0 (map sense_of c.args.meanings.now))
    c.loop-i-test.true c.index-meanings-i.is c.requires c.sum.ensures told c.next_place-place.ensures c.in_ok-push.ensures.items c.loop-i.invariant.few c.loop-i.invariant.values in
    record { few = more.0; values = more.1 }
