use Rattle.std.proofs.Common.{◌^◌, List, subst, sym}
use Rattle.std.specs.Prelude.{All}
use Rattle.kat_num.specs.declared.values.Value.{Value}
use Rattle.kat_expr.specs.Limits.{IsAtMost}
use Rattle.kat_design.specs.Designs.{design_form}
use Rattle.kat_design.proofs.Converse.{no_faults}
use Rattle.kat_design.proofs.SmallDesigns.{small_design}
use Rattle.kat_embed.proofs.Answering.{asked_small}
use Rattle.kat_embed.proofs.steps.answer_value.Goals as goal

pub ask-requires-clause-small : goal.ask-requires-clause-small
ask-requires-clause-small c = small_design (design_form c.args.design.now) (no_faults (design_form c.args.design.now) c.requires.sorted)

pub ask-requires-clause-state : goal.ask-requires-clause-state
ask-requires-clause-state c = c.nodes_go_with_designs.ensures.small (design_form c.args.design.now) c.args.node.now c.requires.sorted c.requires.node

pub ask-requires-clause-args : goal.ask-requires-clause-args
ask-requires-clause-args c =
    subst (λ (args : List Value). All (IsAtMost (2 ^ 100)) args) (sym c.as_slice.ensures) (asked_small c.args.design.now.sig c.args.call.now c.requires.fits)
