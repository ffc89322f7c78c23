use Rattle.kat_design.specs.Designs.{design_form}
use Rattle.kat_form.specs.Facts.{fact_of}
use Rattle.kat_relation.specs.Keys.{conjunct_key}
use Rattle.kat_type.specs.Types.{operation_form, type_form}
use Rattle.kat_symbols.specs.Views.{reader_of}
use Rattle.kat_vc.proofs.Stated.{step_is}
use Rattle.kat_vc.proofs.statements.state_step.Goals as goal

pub returns : goal.returns
returns c =
    let ty = type_form c.args.after.now.old.ty.now in
    let design = design_form c.args.after.now.old.design.now in
    step_is c.state_denied.result ty design c.args.conjuncts.now c.args.after.now.number (operation_form c.args.after.now.op.now) c.args.claim.now
    (conjunct_key ty design.components c.args.claim.now) c.conjunct_key-key.result c.claim_at.result (fact_of c.in_ok-held.held)
    (reader_of c.args.reader.now) (reader_of c.state_before.new.reader) (reader_of c.claim_read.new.reader) (reader_of c.state_denied.new.reader)
    c.conjunct_key-key.ensures c.claim_at.ensures c.in_ok-state_before.ensures c.in_ok-held.ensures c.state_denied.ensures
