use Rattle.kat_script.proofs.Bridge.{scripts_are_judged}
use Rattle.kat_type.specs.Types.{type_form}
use Rattle.kat_wire.specs.FileForms.{file_form}
use Rattle.kat_embed.proofs.Answering.{few_calls_file, well_sorted_file}
use Rattle.kat_embed.proofs.Scripts.{ran}
use Rattle.kat_embed.proofs.running.run.Goals as goal

pub read_script-requires : goal.read_script-requires
read_script-requires c = few_calls_file c.args.design.now (file_form c.in-Ok.read.file) c.in-Ok.ensures.texts.is_file

pub lines-requires-clause-sorted : goal.lines-requires-clause-sorted
lines-requires-clause-sorted c = well_sorted_file c.args.design.now (file_form c.in-Ok.read.file) c.in-Ok.ensures.texts.is_file

pub lines-requires-clause-judged : goal.lines-requires-clause-judged
lines-requires-clause-judged c = scripts_are_judged c.in-Ok.read.file.design.sig c.args.script.now c.in-Ok-read_script.script c.in-Ok-read_script.ensures.script

pub returns-clause-ran : goal.returns-clause-ran
returns-clause-ran c =
    ran c.args.ty.now c.args.design.now c.args.script.now c.in_ok-text.text.items (type_form c.in-Ok.read.ty) (file_form c.in-Ok.read.file) c.in-Ok-read_script.script
    (record { texts = c.in-Ok.ensures.texts; accepted = c.in-Ok-accept.ensures.accepted }) c.in-Ok-read_script.ensures.script c.in_ok-text.ensures
