use Rattle.std.proofs.Common.{◌+◌, List, drop, sym, subst}
use Rattle.kat_design.specs.Designs.{design_form}
use Rattle.kat_num.specs.declared.values.Value.{Value}
use Rattle.kat_world.specs.Run.{kept}
use Rattle.kat_world.proofs.DesignLaws.{lawful, small_design}
use Rattle.kat_world.proofs.Going.{next_line}
use Rattle.kat_world.proofs.Replied.{Replied, ready_reply, replied_next, replied_none}
use Rattle.kat_world.proofs.replying.answers.Goals as goal

pub reply_line-requires-clause-small : goal.reply_line-requires-clause-small
reply_line-requires-clause-small c = small_design (design_form c.args.design.now) c.requires.sorted

pub reply_line-requires-clause-ready : goal.reply_line-requires-clause-ready
reply_line-requires-clause-ready c =
    ready_reply (design_form c.args.design.now) c.args.script.now.replicas c.as_slice-lines.result.now (drop c.loop-line.line-index c.as_slice-lines.result.now)
    (drop (c.loop-line.line-index + 1) c.as_slice-lines.result.now) c.line-item.result (kept c.loop-line.running) c.loop-line.answers.items
    (lawful (design_form c.args.design.now) c.requires.sorted) c.loop-line.invariant
    (next_line c.as_slice-lines.result.now c.loop-line.line-index c.line-item.result c.loop-line-test.true c.line-item.is)

pub loop-line-preserved : goal.loop-line-preserved
loop-line-preserved c =
    replied_next (design_form c.args.design.now) c.args.script.now.replicas c.as_slice-lines.result.now (drop c.loop-line.line-index c.as_slice-lines.result.now)
    (drop (c.loop-line.line-index + 1) c.as_slice-lines.result.now) c.line-item.result (kept c.loop-line.running) (kept c.reply_line.new.running) c.loop-line.answers.items
    c.reply_line.new.answers.items (lawful (design_form c.args.design.now) c.requires.sorted) c.loop-line.invariant
    (next_line c.as_slice-lines.result.now c.loop-line.line-index c.line-item.result c.loop-line-test.true c.line-item.is) c.in_ok-reply_line.ensures.followed
    c.in_ok-reply_line.ensures.answered

pub loop-line-init : goal.loop-line-init
loop-line-init c =
    subst (λ (answers : List Value). Replied (design_form c.args.design.now) c.args.script.now.replicas c.as_slice-lines.result.now c.as_slice-lines.result.now
    (kept c.in_ok-running.running) answers)
    (sym c.new-answers.ensures.items)
    (replied_none (design_form c.args.design.now) c.args.script.now c.as_slice-lines.result.now (kept c.in_ok-running.running) c.requires.judged
    c.as_slice-lines.ensures c.in_ok-running.ensures)
