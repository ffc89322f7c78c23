use Rattle.std.proofs.Common.{◌∙◌}
use Rattle.kat_design.specs.Designs.{design_form}
use Rattle.kat_difference.proofs.Tolds.{begun_parts, kin_as, state_told}
use Rattle.kat_difference.proofs.states.state_difference.Goals as goal

pub returns : goal.returns
returns c = state_told (design_form c.args.design.now) c.args.known.now.parts c.args.whole.now.parts c.as_slice.result.now c.as_slice-2.result.now c.as_slice-3.result.now c.in_ok-told.told.items c.from_vec.result (c.as_slice.ensures ∙ c.in_ok-begun.ensures.state) c.as_slice-2.ensures c.as_slice-3.ensures c.requires.known c.requires.whole c.in_ok-told.ensures c.from_vec.ensures

pub parts_difference-requires-clause-begun : goal.parts_difference-requires-clause-begun
parts_difference-requires-clause-begun c = begun_parts (design_form c.args.design.now) c.as_slice.result.now (c.as_slice.ensures ∙ c.in_ok-begun.ensures.state)

pub parts_difference-requires-clause-known : goal.parts_difference-requires-clause-known
parts_difference-requires-clause-known c = kin_as _ c.args.known.now.parts c.as_slice.result.now c.as_slice-2.result.now (c.as_slice.ensures ∙ c.in_ok-begun.ensures.state) c.as_slice-2.ensures c.requires.known

pub parts_difference-requires-clause-whole : goal.parts_difference-requires-clause-whole
parts_difference-requires-clause-whole c = kin_as _ c.args.whole.now.parts c.as_slice.result.now c.as_slice-3.result.now (c.as_slice.ensures ∙ c.in_ok-begun.ensures.state) c.as_slice-3.ensures c.requires.whole
