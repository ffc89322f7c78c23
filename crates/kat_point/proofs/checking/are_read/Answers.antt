use Rattle.std.proofs.Common.{refl}
use Rattle.kat_form.specs.Encodings.{sense_of, senses_of}
use Rattle.kat_cases.proofs.Loops.{sense_here}
use Rattle.kat_point.specs.Values.{number_at}
use Rattle.kat_point.proofs.Decisive.{read_more}
use Rattle.kat_point.proofs.checking.are_read.Goals as goal

pub loop-i-preserved : goal.loop-i-preserved
loop-i-preserved c =
    let here = sense_here c.args.meanings.now c.loop-i.i c.index-meanings-i.result c.loop-i-test.true c.index-meanings-i.is in
    read_more (number_at c.args.nums.now) c.args.values.now (senses_of c.args.meanings.now) c.loop-i.i c.value.result (sense_of c.index-meanings-i.result) c.loop-i.invariant c.value.ensures here.1 (c.if-not-is_read.ensures refl)
