use Rattle.kat_type.specs.Types.{type_form}
use Rattle.kat_wire.specs.FileForms.{file_form}
use Rattle.kat_embed.proofs.Judging.{differ_so, type_refused}
use Rattle.kat_embed.proofs.accepting.read_typed.Goals as goal

pub returns-in-Err-clause-refused : goal.returns-in-Err-clause-refused
returns-in-Err-clause-refused c = rw c.refused_type.ensures (type_refused c.args.ty.now c.args.design.now c.in-Err.error c.in-Err.ensures.refused)

pub returns-then-not-agrees-clause-refused : goal.returns-then-not-agrees-clause-refused
returns-then-not-agrees-clause-refused c = record {
  ty = type_form c.in-Ok.ty;
  file = file_form c.in-Ok-read_file.file;
  says = c.in-Ok.ensures.says;
  is_file = c.in-Ok-read_file.ensures.read;
  differ = differ_so c.agrees.result c.agrees.ensures c.if-not-agrees.true;
}
