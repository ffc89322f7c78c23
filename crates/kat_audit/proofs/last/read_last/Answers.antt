use Rattle.std.proofs.Common.{sym, refl}
use Rattle.kat_due.specs.Dues.{goes_to}
use Rattle.kat_due.specs.Dues.Phase.{at_design, finished}
use Rattle.kat_due.specs.Readings.{state_at}
use Rattle.kat_due.proofs.Coming.{comes_fault, met_cut, of_verdict}
use Rattle.kat_due.proofs.Ending.{is_nothing, is_something, last_end, last_met, last_more}
use Rattle.kat_audit.proofs.last.read_last.Goals as goal

pub returns-in-Some : goal.returns-in-Some
returns-in-Some c = λ ask sig is none.
    let s = state_at sig c.args.reading.now at_design in
    comes_fault ask s (goes_to s finished) c.args.reading.now.left.now c.expect.new.self.left.now c.expect.result c.in-Some.fault c.in-Some.is
    (last_met ask sig c.args.reading.now c.expect.new.self c.args.text.now c.expect.result is none c.expect.ensures)

pub returns-then-not-is_empty : goal.returns-then-not-is_empty
returns-then-not-is_empty c = λ ask sig is none.
    last_more ask sig c.args.reading.now c.expect.new.self c.args.text.now _ is none (met_cut c.args.reading.now c.expect.new.self c.args.text.now c.expect.result c.in_default.is c.expect.ensures)
    (is_something c.expect.new.self.left.now c.is_empty.result c.is_empty.ensures c.if-not-is_empty.true) refl

pub returns : goal.returns
returns c = λ ask sig is none.
    of_verdict ask (state_at sig c.args.reading.now at_design) c.args.reading.now.left.now _ c.verdict_of.result (sym c.verdict_of.ensures)
    (last_end ask sig c.args.reading.now c.expect.new.self c.args.text.now is none (met_cut c.args.reading.now c.expect.new.self c.args.text.now c.expect.result c.in_default.is c.expect.ensures)
    (is_nothing c.expect.new.self.left.now c.is_empty.result c.is_empty.ensures c.if-not-is_empty.false))
