use Rattle.kat_design.specs.Designs.{design_form}
use Rattle.kat_type.specs.Types.{operation_form, type_form}
use Rattle.kat_claims.specs.States.{old_side}
use Rattle.kat_vc.specs.Steps.{after_side}
use Rattle.kat_symbols.specs.Views.{reader_of}
use Rattle.kat_vc.proofs.Stated.{before_is}
use Rattle.kat_vc.proofs.statements.state_before.Goals as goal

pub returns : goal.returns
returns c =
    let ty = type_form c.args.after.now.old.ty.now in
    let design = design_form c.args.after.now.old.design.now in
    before_is c.state_kept.result ty design c.args.conjuncts.now c.args.key (after_side ty design c.args.after.now.number (operation_form c.args.after.now.op.now)) (old_side ty design)
    c.args.after.now.op.now.params c.as_slice-params.result.now c.args.after.now.op.now.ranks c.as_slice.result.now
    (reader_of c.args.reader.now) (reader_of c.state_known.new.reader) (reader_of c.state_order.new.reader) (reader_of c.state_kept.new.reader)
    c.as_slice-params.ensures c.as_slice.ensures c.in_ok-state_known.ensures c.in_ok-state_order.ensures c.state_kept.ensures
