use Rattle.std.proofs.Common.{arith}
use Rattle.kat_lex.proofs.LineReading.{IsEndedLine, line_ended, line_is_one, line_lexes}
use Rattle.kat_script.proofs.Streaming.{line_alone}
use Rattle.kat_picture.proofs.Noting.{faulty, noted_last, noting_next}
use Rattle.kat_picture.proofs.naming.names_in.Goals as goal

pub lines-preserved : goal.lines-preserved
lines-preserved c =
    let line = line_alone c.args.bytes.now c.lines.at _ _ _ c.clear.ensures.items (rw c.in-Ok-Some.field-0-is at c.in-Ok-Some.ensures.line) in (
      c.in_ok-note_line-in-Ok-Some.ensures.ops,
      c.in_ok-note_line-in-Ok-Some.ensures.queries,
      noting_next c.args.bytes.now c.lines.at c.in-Ok-Some.next c.line_tokens.new.into.items c.lines.found.words.items c.note_line.new.self.words.items
          c.lines.invariant.2 (line_is_one _ _ _ _ line) (line_ended _ _ _ _ line) (rw c.deref.ensures.value at c.in_ok-note_line-in-Ok-Some.ensures.words),
    )

pub lines-smaller : goal.lines-smaller
lines-smaller c =
    let line = line_alone c.args.bytes.now c.lines.at _ _ _ c.clear.ensures.items (rw c.in-Ok-Some.field-0-is at c.in-Ok-Some.ensures.line) in
    let ended : IsEndedLine c.args.bytes.now c.lines.at c.line_tokens.new.into.items c.in-Ok-Some.next = line_ended _ _ _ _ line in
    omega (arith, ended.onward, ended.within)

pub returns-in-Ok-None-clause-words : goal.returns-in-Ok-None-clause-words
returns-in-Ok-None-clause-words c =
    let line = line_alone c.args.bytes.now c.lines.at _ _ _ c.clear.ensures.items (rw c.in-Ok-None.field-0-is at c.in-Ok-None.ensures.line) in
    rw c.names.ensures.words
    (noted_last c.args.bytes.now c.lines.at c.line_tokens.new.into.items c.lines.found.words.items c.note_line-in-Ok-None.new.self.words.items
    c.lines.invariant.2 (line_is_one _ _ _ _ line) (line_lexes _ _ _ line) (rw c.deref-in-Ok-None.ensures.value at c.in_ok-note_line-in-Ok-None.ensures.words))

pub returns-in-Err-clause-words : goal.returns-in-Err-clause-words
returns-in-Err-clause-words c =
    faulty c.args.bytes.now c.lines.at c.in-Err.fault c.lines.found.words.items c.names_before.result c.lines.invariant.2 c.in-Err.ensures.fault
    c.names_before.ensures.fault
