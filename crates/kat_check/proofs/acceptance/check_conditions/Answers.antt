use Rattle.std.proofs.Common.{◌+◌, subst}
use Rattle.kat_refute.specs.Lines.{IsVerdict, lines_of}
use Rattle.kat_refute.specs.declared.Verdict.{Verdict}
use Rattle.kat_type.specs.Types.{type_form}
use Rattle.kat_wire.specs.FileForms.{file_form}
use Rattle.kat_check.specs.Acceptance.{encoding_at}
use Rattle.kat_check.proofs.Checking.{list_known, one_proved, open_answered, places_kept, refutes_unless}
use Rattle.kat_check.proofs.acceptance.check_conditions.Goals as goal

pub returns-in-Bad : goal.returns-in-Bad
returns-in-Bad c =
    let f = file_form c.args.file.now in
    let lookup = c.in-Some.ensures.lookup in
    let known = list_known c.args.file.now.proof c.as_slice-lists.result.now c.loop-i.i c.in-Some.lines.now c.as_slice.result.now c.as_slice-lists.ensures c.as_slice.ensures lookup.3.0 (lookup.3.1 c.in-Some.lines.now) in
    open_answered (type_form c.args.ty.now) f c.loop-i.i c.in_ok-count.count c.in-Bad.line (lines_of c.as_slice.result.now) c.requires c.in_ok-count.ensures.count c.loop-i-test.true c.loop-i.invariant known
    (subst (λ (v : Verdict). IsVerdict (encoding_at (type_form c.args.ty.now) f (c.loop-i.i + 1)) (lines_of c.as_slice.result.now) v) c.in-Bad.is c.in_ok-line.ensures)

pub loop-i-preserved : goal.loop-i-preserved
loop-i-preserved c =
    let f = file_form c.args.file.now in
    let e = encoding_at (type_form c.args.ty.now) f (c.loop-i.i + 1) in
    let lookup = c.in-Some.ensures.lookup in
    let known = list_known c.args.file.now.proof c.as_slice-lists.result.now c.loop-i.i c.in-Some.lines.now c.as_slice.result.now c.as_slice-lists.ensures c.as_slice.ensures lookup.3.0 (lookup.3.1 c.in-Some.lines.now) in
    one_proved (type_form c.args.ty.now) f c.loop-i.i (lines_of c.as_slice.result.now) c.loop-i.invariant
    (places_kept c.args.file.now.proof c.as_slice-lists.result.now c.loop-i.i c.as_slice-lists.ensures lookup.3.0) known
    (refutes_unless e (lines_of c.as_slice.result.now) c.in_ok-line.field-0 c.in_ok-line.ensures c.in_default-2.not-Bad)
