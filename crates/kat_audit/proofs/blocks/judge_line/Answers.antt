use Rattle.std.proofs.Common.{refl}
use Rattle.kat_design.specs.Designs.{design_form}
use Rattle.kat_said.specs.Sayings.{said_form}
use Rattle.kat_type.specs.Types.{type_form}
use Rattle.kat_due.proofs.Within.{read_as, told_due, told_fault, told_missing, told_none, told_wide, unread}
use Rattle.kat_audit.proofs.blocks.judge_line.Goals as goal

pub returns-in_default-clause-told : goal.returns-in_default-clause-told
returns-in_default-clause-told c = λ ask asked next. told_missing ask c.args.sig.now c.args.block.now.candidates.conjuncts c.args.block.now.dropped.items c.args.reading.now _ c.in_default.ensures refl

pub returns-in_default-2-clause-told : goal.returns-in_default-2-clause-told
returns-in_default-2-clause-told c = λ ask asked next.
    told_none ask c.args.sig.now c.args.block.now.candidates.conjuncts c.args.block.now.dropped.items c.in-Some.line.now c.args.reading.now c.cut_line.new.self _ c.in-Some.ensures (unread c.in-Some.line.now _ c.in_default-2.is c.in_ok-said.ensures) refl

pub returns-in-Due-clause-told : goal.returns-in-Due-clause-told
returns-in-Due-clause-told c = λ ask asked next.
    told_due ask (type_form c.args.ty.now) c.args.effort c.args.sig.now (design_form c.args.design.now) c.args.block.now.candidates.conjuncts c.args.block.now.dropped.items c.in-Some.line.now (said_form c.in-Some-2.said)
    c.args.reading.now c.cut_line.new.self _ asked next c.in-Some.ensures (read_as c.in-Some.line.now _ c.in-Some-2.said c.in-Some-2.is c.in_ok-said.ensures) c.in-Due.is c.in_ok-judge_said.ensures

pub returns-in-Fault-clause-told : goal.returns-in-Fault-clause-told
returns-in-Fault-clause-told c = λ ask asked next.
    told_fault ask (type_form c.args.ty.now) c.args.effort c.args.sig.now (design_form c.args.design.now) c.args.block.now.candidates.conjuncts c.args.block.now.dropped.items c.in-Some.line.now (said_form c.in-Some-2.said)
    c.args.reading.now c.cut_line.new.self _ _ asked next c.in-Some.ensures (read_as c.in-Some.line.now _ c.in-Some-2.said c.in-Some-2.is c.in_ok-said.ensures) c.in-Fault.is c.in_ok-judge_said.ensures refl

pub returns-in-Wide-clause-told : goal.returns-in-Wide-clause-told
returns-in-Wide-clause-told c = λ ask asked next.
    told_wide ask (type_form c.args.ty.now) c.args.effort c.args.sig.now (design_form c.args.design.now) c.args.block.now.candidates.conjuncts c.args.block.now.dropped.items c.in-Some.line.now (said_form c.in-Some-2.said)
    c.args.reading.now c.cut_line.new.self _ _ asked next c.in-Some.ensures (read_as c.in-Some.line.now _ c.in-Some-2.said c.in-Some-2.is c.in_ok-said.ensures) c.in-Wide.is c.in_ok-judge_said.ensures refl
