use Rattle.std.proofs.Common.{refl}
use Rattle.kat_said.specs.declared.judging.Audit.TheVariants.{Bad, Confirmed, NotShown, WidePoint}
use Rattle.kat_type.specs.Types.{type_form}
use Rattle.kat_cli.specs.declared.status.At.TheVariants.{Line}
use Rattle.kat_cli.proofs.AuditedReports.{audit_confirmed, audit_refused, audit_unread, says_so}
use Rattle.kat_cli.proofs.audit_command.judge_audit.Goals as goal

pub returns-in-Err-clause-judged : goal.returns-in-Err-clause-judged
returns-in-Err-clause-judged g c =
    rw c.refused_type.ensures (audit_unread c.args.options c.args.ty.now c.args.report.now (record {
      written = g.K.Sink.written c.args.out.now;
      written_after = g.K.Sink.written c.args.out.now;
      faults = g.K.Sink.faults c.args.out.now;
      faults_after = g.K.Sink.faults c.args.out.now;
    }) c.in-Err.error c.in-Err.ensures.refused refl)

pub returns-in-Ok-Confirmed-clause-judged : goal.returns-in-Ok-Confirmed-clause-judged
returns-in-Ok-Confirmed-clause-judged g c =
    audit_confirmed c.reports_are_confirmed.ensures.only c.args.options c.args.ty.now c.args.report.now (type_form c.in-Ok.ty) _ c.print.result c.in-Ok.ensures.says
    (says_so c.args.options c.bounds.result (type_form c.in-Ok.ty) c.args.report.now c.in-Ok-Confirmed.field-0 Confirmed c.bounds.ensures c.in-Ok-Confirmed.ensures c.in-Ok-Confirmed.field-0-is)
    c.print.ensures.prints

pub returns-in-Ok-Bad-clause-judged : goal.returns-in-Ok-Bad-clause-judged
returns-in-Ok-Bad-clause-judged g c =
    audit_refused c.args.options c.args.ty.now c.args.report.now (type_form c.in-Ok.ty) (record {
      written = g.K.Sink.written c.args.out.now;
      written_after = g.K.Sink.written c.args.out.now;
      faults = g.K.Sink.faults c.args.out.now;
      faults_after = g.K.Sink.faults c.args.out.now;
    }) (Bad c.in-Ok-Bad.line) (record { number = 25; at = Line c.in-Ok-Bad.line }) c.refused.result c.in-Ok.ensures.says
    (says_so c.args.options c.bounds.result (type_form c.in-Ok.ty) c.args.report.now c.in-Ok-Bad.field-0 (Bad c.in-Ok-Bad.line) c.bounds.ensures c.in-Ok-Bad.ensures c.in-Ok-Bad.field-0-is) refl c.refused.ensures refl

pub returns-in-Ok-NotShown-clause-judged : goal.returns-in-Ok-NotShown-clause-judged
returns-in-Ok-NotShown-clause-judged g c =
    audit_refused c.args.options c.args.ty.now c.args.report.now (type_form c.in-Ok.ty) (record {
      written = g.K.Sink.written c.args.out.now;
      written_after = g.K.Sink.written c.args.out.now;
      faults = g.K.Sink.faults c.args.out.now;
      faults_after = g.K.Sink.faults c.args.out.now;
    }) (NotShown c.in-Ok-NotShown.line) (record { number = 26; at = Line c.in-Ok-NotShown.line }) c.refused-in-Ok-NotShown.result c.in-Ok.ensures.says
    (says_so c.args.options c.bounds.result (type_form c.in-Ok.ty) c.args.report.now c.in-Ok-NotShown.field-0 (NotShown c.in-Ok-NotShown.line) c.bounds.ensures c.in-Ok-NotShown.ensures c.in-Ok-NotShown.field-0-is) refl c.refused-in-Ok-NotShown.ensures refl

pub returns-in-Ok-WidePoint-clause-judged : goal.returns-in-Ok-WidePoint-clause-judged
returns-in-Ok-WidePoint-clause-judged g c =
    audit_refused c.args.options c.args.ty.now c.args.report.now (type_form c.in-Ok.ty) (record {
      written = g.K.Sink.written c.args.out.now;
      written_after = g.K.Sink.written c.args.out.now;
      faults = g.K.Sink.faults c.args.out.now;
      faults_after = g.K.Sink.faults c.args.out.now;
    }) (WidePoint c.in-Ok-WidePoint.line) (record { number = 27; at = Line c.in-Ok-WidePoint.line }) c.refused-in-Ok-WidePoint.result c.in-Ok.ensures.says
    (says_so c.args.options c.bounds.result (type_form c.in-Ok.ty) c.args.report.now c.in-Ok-WidePoint.field-0 (WidePoint c.in-Ok-WidePoint.line) c.bounds.ensures c.in-Ok-WidePoint.ensures c.in-Ok-WidePoint.field-0-is) refl c.refused-in-Ok-WidePoint.ensures refl
