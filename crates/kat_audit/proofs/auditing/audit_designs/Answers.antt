use Rattle.std.proofs.Common.{List, ℕ, IfOk, refl, subst}
use Rattle.kat_type.specs.Types.{type_form}
use Rattle.kat_audit.specs.Audits.{IsAudited}
use Rattle.kat_audit.proofs.auditing.audit_designs.Goals as goal

pub judge_report-requires-clause-sig : goal.judge_report-requires-clause-sig
judge_report-requires-clause-sig c = c.in_ok-sig.ensures

pub judge_report-requires-clause-first : goal.judge_report-requires-clause-first
judge_report-requires-clause-first c =
    let first = c.new-reading.ensures in
    record { left = refl; lines = first.lines; count = first.count; cited = first.cited; passed = first.passed; hidden = first.hidden }

pub returns : goal.returns
returns c = subst (λ (text : List ℕ). IfOk c.judge_report.result (IsAudited (type_form c.args.ty.now) c.args.options.now text)) c.new-reading.ensures.left c.judge_report.ensures
