use Rattle.std.proofs.Common.{refl, sym, ap, ◌∙◌, subst}
use Rattle.kat_check.specs.Migration.{IsMigrated}
use Rattle.kat_check.specs.declared.migration.Migrated.{Migrated}
use Rattle.kat_check.proofs.Migrating.{migrated_nonzero, migrated_of_two}
use Rattle.kat_design.specs.Faults.{faults_of}
use Rattle.kat_design_json.specs.Signatures.{IsSignature}
use Rattle.kat_type.specs.Types.{type_form}
use Rattle.kat_wire.specs.FileForms.{AreOfVersion, FileForm, HaveNoZero, file_form}
use Rattle.kat_cli.proofs.MigratedFiles.{migrate_judged}
use Rattle.kat_cli.proofs.migrate_command.migrate_typed.Goals as goal

pub write_migrated-requires-clause-signature : goal.write_migrated-requires-clause-signature
write_migrated-requires-clause-signature g c =
    let migrated = subst (λ (m : Migrated). IsMigrated (type_form c.args.ty.now) (file_form c.args.file.now) m) c.in-Ok-Done.field-0-is c.in-Ok-Done.ensures in
    subst (λ (f : FileForm). IsSignature f.design.sig) (sym migrated.1) c.requires.signature

pub write_migrated-requires-clause-accepted : goal.write_migrated-requires-clause-accepted
write_migrated-requires-clause-accepted g c =
    let migrated = subst (λ (m : Migrated). IsMigrated (type_form c.args.ty.now) (file_form c.args.file.now) m) c.in-Ok-Done.field-0-is c.in-Ok-Done.ensures in
    ap (λ (f : FileForm). faults_of f.design) migrated.1 ∙ c.requires.accepted

pub write_migrated-requires-clause-literals : goal.write_migrated-requires-clause-literals
write_migrated-requires-clause-literals g c =
    let migrated = subst (λ (m : Migrated). IsMigrated (type_form c.args.ty.now) (file_form c.args.file.now) m) c.in-Ok-Done.field-0-is c.in-Ok-Done.ensures in
    subst (λ (f : FileForm). HaveNoZero f.proof) (sym migrated.1) (migrated_nonzero (type_form c.args.ty.now) (file_form c.args.file.now) c.requires.literals)

pub write_migrated-requires-clause-version : goal.write_migrated-requires-clause-version
write_migrated-requires-clause-version g c =
    let migrated = subst (λ (m : Migrated). IsMigrated (type_form c.args.ty.now) (file_form c.args.file.now) m) c.in-Ok-Done.field-0-is c.in-Ok-Done.ensures in
    ap (λ (f : FileForm). f.version) migrated.1

pub write_migrated-requires-clause-lines : goal.write_migrated-requires-clause-lines
write_migrated-requires-clause-lines g c =
    let migrated = subst (λ (m : Migrated). IsMigrated (type_form c.args.ty.now) (file_form c.args.file.now) m) c.in-Ok-Done.field-0-is c.in-Ok-Done.ensures in
    subst (λ (f : FileForm). AreOfVersion 2 f.proof) (sym migrated.1) (migrated_of_two (type_form c.args.ty.now) (file_form c.args.file.now))

pub returns-in-Ok-Done-clause-judged : goal.returns-in-Ok-Done-clause-judged
returns-in-Ok-Done-clause-judged g c first second is =
    migrate_judged first second (record { ty = type_form c.args.ty.now; file = file_form c.args.file.now }) (file_form c.in-Ok-Done.file) _ c.write_migrated.result
    is
    (subst (λ (m : Migrated). IsMigrated (type_form c.args.ty.now) (file_form c.args.file.now) m) c.in-Ok-Done.field-0-is c.in-Ok-Done.ensures)
    c.write_migrated.ensures.writes

pub returns-in-Ok-Refused-clause-judged : goal.returns-in-Ok-Refused-clause-judged
returns-in-Ok-Refused-clause-judged g c first second is = (
  record {
    inputs = record { ty = type_form c.args.ty.now; file = file_form c.args.file.now };
    accepted = is;
    fails =
        subst (λ (m : Migrated). IsMigrated (type_form c.args.ty.now) (file_form c.args.file.now) m) c.in-Ok-Refused.field-0-is c.in-Ok-Refused.ensures;
  },
  refl,
)
