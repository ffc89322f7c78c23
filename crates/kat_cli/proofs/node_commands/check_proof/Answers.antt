use Rattle.std.proofs.Common.{subst}
use Rattle.kat_check.specs.Acceptance.{IsChecked}
use Rattle.kat_check.specs.declared.acceptance.Checked.{Checked}
use Rattle.kat_type.specs.Types.{type_form}
use Rattle.kat_wire.specs.FileForms.{file_form}
use Rattle.kat_cli.proofs.node_commands.check_proof.Goals as goal

pub returns-in-Ok-Accepted-clause-accepted : goal.returns-in-Ok-Accepted-clause-accepted
returns-in-Ok-Accepted-clause-accepted c =
    subst (λ (checked : Checked). IsChecked (type_form c.args.ty.now) (file_form c.args.file.now) checked) c.in-Ok-Accepted.field-0-is c.in-Ok-Accepted.ensures

pub returns-in-Ok-Refused-clause-refused : goal.returns-in-Ok-Refused-clause-refused
returns-in-Ok-Refused-clause-refused c =
    subst (λ (checked : Checked). IsChecked (type_form c.args.ty.now) (file_form c.args.file.now) checked) c.in-Ok-Refused.field-0-is c.in-Ok-Refused.ensures
