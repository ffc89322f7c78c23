use Rattle.std.proofs.Common.{arith, ◌∙◌}
use Rattle.std.proofs.lemmas.Grind.{common_steps}
use Rattle.kat_num.specs.contracts.values.ValueOrd.TheImpl.Laws.{total-law}
use Rattle.kat_design.specs.Designs.{design_form}
use Rattle.kat_design.proofs.LowCells.{args_low}
use Rattle.kat_replica.proofs.Afterwards.{added_from, denotes_more}
use Rattle.kat_replica.proofs.Going.{added_goes}
use Rattle.kat_replica.proofs.Suits.{suits_in}
use Rattle.kat_replica.proofs.replicas.Replica.apply.Goals as goal

pub apply_each-applied-requires-clause-small : goal.apply_each-applied-requires-clause-small
apply_each-applied-requires-clause-small c = args_low c.args.design.now.sig c.args.done.now c.requires.fits

pub apply_each-applied-requires-clause-suits : goal.apply_each-applied-requires-clause-suits
apply_each-applied-requires-clause-suits c =
    suits_in c.args.design.now.sig c.args.done.now c.requires.fits c.args.design.now.components c.as_slice.result.now c.as_slice.ensures c.requires.sorted.components
    c.deref_mut.result.now c.args.self.now.state.parts (c.deref_mut.ensures.value ∙ c.take_parts-parts.ensures.parts) c.requires.kin c.requires.room

pub returns-clause-adds : goal.returns-clause-adds
returns-clause-adds c =
    added_from c.args.design.now.components c.as_slice.result.now c.deref_mut.result.now c.args.self.now.state.parts c.from_vec.result c.args.done.now c.as_slice.ensures
    (c.deref_mut.ensures.value ∙ c.take_parts-parts.ensures.parts) c.requires.kin (grind (arith, common_steps))

pub returns-clause-denotes : goal.returns-clause-denotes
returns-clause-denotes c = λ xs e.
    denotes_more (design_form c.args.design.now) (c.designs_mean.ensures (design_form c.args.design.now) c.requires.sorted) c.args.self.now.state.parts c.from_vec.result c.args.done.now (returns-clause-adds c) xs e

pub returns-clause-goes : goal.returns-clause-goes
returns-clause-goes c =
    let d = design_form c.args.design.now in
    added_goes total-law c.tells_values_apart.ensures d.sig.ops d.components c.requires.sorted.components c.args.self.now.state.parts c.from_vec.result c.args.done.now c.requires.kin (returns-clause-adds c)
