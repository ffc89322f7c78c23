use Rattle.std.proofs.Common.{arith, refl}
use Rattle.kat_judging.specs.Faults.{part_faults}
use Rattle.kat_judging.proofs.Flats.{flat_end, flat_next}
use Rattle.kat_type_file.proofs.ranks.elements_fault.Goals as goal

pub loop-part-preserved : goal.loop-part-preserved
loop-part-preserved c =
    flat_next (part_faults c.args.params.now) c.args.parts.now c.loop-part.part-index _ _ c.loop-part.first c.earlier-first.result c.element_fault.result
    c.loop-part.invariant c.loop-part-test.true refl c.element_fault.ensures c.earlier-first.ensures

pub returns : goal.returns
returns c = flat_end (part_faults c.args.params.now) c.args.parts.now c.loop-part.part-index c.loop-part.first c.loop-part.invariant (omega (arith, c.loop-part-test.false))
