use Rattle.std.proofs.Common.{subst}
use Rattle.kat_check.specs.Migration.{IsMigrated}
use Rattle.kat_check.specs.declared.migration.Migrated.{Migrated}
use Rattle.kat_check.proofs.Faults.{accepted_without}
use Rattle.kat_type.specs.Types.{type_form}
use Rattle.kat_wire.specs.FileForms.{file_form}
use Rattle.kat_search.proofs.files.with_hints.Goals as goal

pub unreachable-requires : goal.unreachable-requires
unreachable-requires c =
    accepted_without (type_form c.args.ty.now) (file_form c.args.file.now) c.in-Refused.condition c.in-Refused.line c.requires.accepted
    (subst (λ (m : Migrated). IsMigrated (type_form c.args.ty.now) (file_form c.args.file.now) m) c.in-Refused.is c.in_ok-hinted.ensures)
