use Rattle.std.proofs.Common.{refl}
use Rattle.kat_type.specs.Types.{type_form}
use Rattle.kat_cli.specs.declared.status.Status.TheVariants.{Done, NoDesign, Undecided, Stopped}
use Rattle.kat_cli.proofs.Synthesized.{cut_ends, emitted_ends, none_ends, open_ends, synth_told, type_refused}
use Rattle.kat_cli.proofs.synth_command.judge_synth.Goals as goal

pub returns-in-Err-clause-judged : goal.returns-in-Err-clause-judged
returns-in-Err-clause-judged g c =
    rw c.refused_type.ensures (type_refused c.args.options c.args.ty.now (record {
      written = g.K.Sink.written c.args.out.now;
      written_after = g.K.Sink.written c.args.out.now;
      faults = g.K.Sink.faults c.args.out.now;
      faults_after = g.K.Sink.faults c.args.out.now;
    }) c.in-Err.error c.in-Err.ensures.refused refl)

pub returns-in-Ok-Emitted-clause-judged : goal.returns-in-Ok-Emitted-clause-judged
returns-in-Ok-Emitted-clause-judged g c =
    synth_told c.args.options c.args.ty.now c.in-Ok-Emitted.file.items c.deref.result.now (type_form c.in-Ok.ty) Done c.print.result _ c.in-Ok.ensures.says tt
    (emitted_ends c.args.options c.bounds.result (type_form c.in-Ok.ty) c.in-Ok-Emitted.field-0 _ c.in-Ok-Emitted.file c.bounds.ensures c.in-Ok-Emitted.ensures.verdict
    c.in-Ok-Emitted.field-0-is)
    c.deref.ensures.value c.print.ensures.prints

pub returns-in-Ok-NoDesign-clause-judged : goal.returns-in-Ok-NoDesign-clause-judged
returns-in-Ok-NoDesign-clause-judged g c =
    synth_told c.args.options c.args.ty.now c.in-Ok-NoDesign.report.items c.deref-in-Ok-NoDesign.result.now (type_form c.in-Ok.ty) NoDesign c.print-in-Ok-NoDesign.result _ c.in-Ok.ensures.says tt
    (none_ends c.args.options c.bounds.result (type_form c.in-Ok.ty) c.in-Ok-NoDesign.field-0 c.in-Ok-NoDesign.report c.bounds.ensures c.in-Ok-NoDesign.ensures.narrow c.in-Ok-NoDesign.field-0-is)
    c.deref-in-Ok-NoDesign.ensures.value c.print-in-Ok-NoDesign.ensures.prints

pub returns-in-Ok-Undecided-clause-judged : goal.returns-in-Ok-Undecided-clause-judged
returns-in-Ok-Undecided-clause-judged g c =
    synth_told c.args.options c.args.ty.now c.in-Ok-Undecided.report.items c.deref-in-Ok-Undecided.result.now (type_form c.in-Ok.ty) Undecided c.print-in-Ok-Undecided.result _ c.in-Ok.ensures.says tt
    (open_ends c.args.options c.bounds.result (type_form c.in-Ok.ty) c.in-Ok-Undecided.field-0 c.in-Ok-Undecided.report c.bounds.ensures c.in-Ok-Undecided.ensures.narrow c.in-Ok-Undecided.field-0-is)
    c.deref-in-Ok-Undecided.ensures.value c.print-in-Ok-Undecided.ensures.prints

pub returns-in-Ok-Stopped-clause-judged : goal.returns-in-Ok-Stopped-clause-judged
returns-in-Ok-Stopped-clause-judged g c =
    synth_told c.args.options c.args.ty.now c.in-Ok-Stopped.report.items c.deref-in-Ok-Stopped.result.now (type_form c.in-Ok.ty) Stopped c.print-in-Ok-Stopped.result _ c.in-Ok.ensures.says tt
    (cut_ends c.args.options c.bounds.result (type_form c.in-Ok.ty) c.in-Ok-Stopped.field-0 c.in-Ok-Stopped.report c.bounds.ensures c.in-Ok-Stopped.ensures.narrow c.in-Ok-Stopped.field-0-is)
    c.deref-in-Ok-Stopped.ensures.value c.print-in-Ok-Stopped.ensures.prints
