use Rattle.std.proofs.Common.{arith}
use Rattle.kat_lex.proofs.LineReading.{IsEndedLine, line_ended, line_is_one, line_lexes}
use Rattle.kat_script.proofs.Streaming.{err_is, fault_told, line_alone}
use Rattle.kat_actions.specs.Texts.{TellsRefusal}
use Rattle.kat_actions.proofs.Streaming.{finished, reached_fault, reached_last_refused, reached_next, reached_refused, reached_start}
use Rattle.kat_actions.proofs.reader.read_calls.Goals as goal

pub lines-init : goal.lines-init
lines-init c = (
  reached_start c.args.verb c.args.sig.now c.args.bytes.now _ c.in_ok-with_capacity.ensures.items,
  c.new-line.ensures.items,
)

pub returns-in_err-next-clause-refusal : goal.returns-in_err-next-clause-refusal
returns-in_err-next-clause-refusal c =
    err_is c.from_residual-in_err-next.result _ (λ error. TellsRefusal c.args.verb c.args.sig.now c.args.bytes.now error) c.from_residual-in_err-next.ensures.1
    (reached_fault c.args.verb c.args.sig.now c.args.bytes.now c.lines.at c.lines.reader.calls.items c.lines.number c.in_err-next.field-0.0 c.lines.invariant.0
    (fault_told c.args.bytes.now c.lines.at c.in_err-next.field-0.0 c.in_err-next.ensures.fault))

pub returns-in-Err-clause-refusal : goal.returns-in-Err-clause-refusal
returns-in-Err-clause-refusal c =
    let line = line_alone c.args.bytes.now c.lines.at _ _ _ c.lines.invariant.1 (rw c.in-Some.is at c.in_ok-next.ensures.line) in
    reached_refused c.args.verb c.args.sig.now c.args.bytes.now c.lines.at c.in-Some.next c.lines.reader.calls.items c.lines.number c.line_tokens.new.into.items c.in-Err.error _
    c.lines.invariant.0 (line_is_one _ _ _ _ line) (line_ended _ _ _ _ line) c.in-Err.ensures.refuses c.first_fault.ensures

pub lines-preserved : goal.lines-preserved
lines-preserved c =
    let line = line_alone c.args.bytes.now c.lines.at _ _ _ c.lines.invariant.1 (rw c.in-Some.is at c.in_ok-next.ensures.line) in (
      reached_next c.args.verb c.args.sig.now c.args.bytes.now c.lines.at c.in-Some.next c.line_tokens.new.into.items c.lines.reader.calls.items c.take.new.self.calls.items c.lines.number
          c.lines.invariant.0 (line_is_one _ _ _ _ line) (line_ended _ _ _ _ line) c.in_default-take.ensures.takes,
      c.clear.ensures.items,
    )

pub returns-in_err-take-clause-refusal : goal.returns-in_err-take-clause-refusal
returns-in_err-take-clause-refusal c =
    let line = line_alone c.args.bytes.now c.lines.at _ _ _ c.lines.invariant.1 (rw c.in_default.is at c.in_ok-next.ensures.line) in
    err_is c.from_residual-in_err-take.result _ (λ error. TellsRefusal c.args.verb c.args.sig.now c.args.bytes.now error) c.from_residual-in_err-take.ensures.1
    (reached_last_refused c.args.verb c.args.sig.now c.args.bytes.now c.lines.at c.lines.reader.calls.items c.lines.number c.line_tokens.new.into.items c.in_err-take.field-0.0
    c.lines.invariant.0 (line_is_one _ _ _ _ line) (line_lexes _ _ _ line) c.in_err-take.ensures.refuses)

pub returns-clause-calls : goal.returns-clause-calls
returns-clause-calls c =
    let line = line_alone c.args.bytes.now c.lines.at _ _ _ c.lines.invariant.1 (rw c.in_default.is at c.in_ok-next.ensures.line) in
    finished c.args.verb c.args.sig.now c.args.bytes.now c.lines.at c.line_tokens.new.into.items c.lines.reader.calls.items c.take-2.new.self.calls.items c.lines.number
    c.lines.invariant.0 (line_is_one _ _ _ _ line) (line_lexes _ _ _ line) c.in_ok-take.ensures.takes

pub lines-smaller : goal.lines-smaller
lines-smaller c =
    let line = line_alone c.args.bytes.now c.lines.at _ _ _ c.lines.invariant.1 (rw c.in-Some.is at c.in_ok-next.ensures.line) in
    let ended : IsEndedLine c.args.bytes.now c.lines.at c.line_tokens.new.into.items c.in-Some.next = line_ended _ _ _ _ line in
    omega (arith, ended.onward, ended.within)
