use Rattle.kat_type.specs.Types.{type_form}
use Rattle.kat_wire.specs.FileForms.{file_form}
use Rattle.kat_cli.proofs.CheckedFiles.{agree_so, design_refused, differ_so, signature_refused, type_refused}
use Rattle.kat_cli.proofs.typed_files.read_typed_file.Goals as goal

pub returns-in-Err-clause-refused : goal.returns-in-Err-clause-refused
returns-in-Err-clause-refused c =
    rw c.refused_type.ensures (type_refused c.args.ty.now c.args.design.now c.in-Err.error c.in-Err.ensures.refused)

pub returns-in-Err-read_file-clause-refused : goal.returns-in-Err-read_file-clause-refused
returns-in-Err-read_file-clause-refused c =
    rw c.refused_design.ensures (design_refused c.args.ty.now c.args.design.now (type_form c.in-Ok.ty) c.in-Err-read_file.error c.in-Ok.ensures.says c.in-Err-read_file.ensures.refused)

pub returns-then-not-agrees-clause-refused : goal.returns-then-not-agrees-clause-refused
returns-then-not-agrees-clause-refused c =
    signature_refused c.args.ty.now c.args.design.now (type_form c.in-Ok.ty) (file_form c.in-Ok-read_file.file) c.refused_signature.result
    c.in-Ok.ensures.says c.in-Ok-read_file.ensures.read (differ_so c.agrees.result c.agrees.ensures c.if-not-agrees.true) c.refused_signature.ensures

pub returns-clause-files : goal.returns-clause-files
returns-clause-files c = record {
  says = c.in-Ok.ensures.says;
  is_file = c.in-Ok-read_file.ensures.read;
  agree = agree_so c.agrees.result c.agrees.ensures c.if-not-agrees.false;
}
