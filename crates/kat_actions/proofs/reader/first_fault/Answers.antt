use Rattle.std.proofs.Common.{arith}
use Rattle.kat_lex.proofs.LineReading.{IsEndedLine, line_ended, line_lexes}
use Rattle.kat_script.proofs.Behind.{found_fault, found_none, passed_line}
use Rattle.kat_script.proofs.Streaming.{fault_told, line_alone}
use Rattle.kat_actions.proofs.reader.first_fault.Goals as goal

pub lines-preserved : goal.lines-preserved
lines-preserved c =
    let line = line_alone c.args.bytes.now c.lines.at _ _ _ c.clear.ensures.items (rw c.in-Ok-Some.field-0-is at c.in-Ok-Some.ensures.line) in
    passed_line c.args.bytes.now c.args.from c.lines.at c.in-Ok-Some.next c.line_tokens.new.into.items c.lines.invariant (line_ended _ _ _ _ line)

pub lines-smaller : goal.lines-smaller
lines-smaller c =
    let line = line_alone c.args.bytes.now c.lines.at _ _ _ c.clear.ensures.items (rw c.in-Ok-Some.field-0-is at c.in-Ok-Some.ensures.line) in
    let ended : IsEndedLine c.args.bytes.now c.lines.at c.line_tokens.new.into.items c.in-Ok-Some.next = line_ended _ _ _ _ line in
    omega (arith, ended.onward, ended.within)

pub returns-in-Ok-None : goal.returns-in-Ok-None
returns-in-Ok-None c =
    let line = line_alone c.args.bytes.now c.lines.at _ _ _ c.clear.ensures.items (rw c.in-Ok-None.field-0-is at c.in-Ok-None.ensures.line) in
    found_none c.args.bytes.now c.args.from c.lines.at c.args.error c.line_tokens.new.into.items c.lines.invariant (line_lexes _ _ _ line)

pub returns-in-Err : goal.returns-in-Err
returns-in-Err c =
    found_fault c.args.bytes.now c.args.from c.lines.at c.args.error c.from.result c.in-Err.fault c.lines.invariant
    (fault_told c.args.bytes.now c.lines.at c.in-Err.fault c.in-Err.ensures.fault) c.from.ensures
