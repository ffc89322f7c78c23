use Rattle.std.proofs.Common.{◌≡◌, ap, ◌∙◌, sym, subst}
use Rattle.std.specs.Prelude.{IfOk}
use Rattle.kat_check.specs.Acceptance.{IsAcceptedFile}
use Rattle.kat_check.specs.Migration.{IsMigrated}
use Rattle.kat_check.specs.declared.migration.Migrated.{Migrated}
use Rattle.kat_check.proofs.Migrating.{migrated_accepted, migrated_nonzero, migrated_of_two}
use Rattle.kat_design.specs.Designs.{DesignForm}
use Rattle.kat_design.specs.Faults.{faults_of}
use Rattle.kat_type.specs.Types.{type_form}
use Rattle.kat_wire.specs.FileForms.{AreOfVersion, FileForm, HaveNoZero, file_form}
use Rattle.kat_by_hand.specs.Answers.{IsProof}
use Rattle.kat_by_hand.proofs.files.hinted_file.Goals as goal

pub written_file-requires-clause-accepted : goal.written_file-requires-clause-accepted
written_file-requires-clause-accepted c =
    let migrated = subst (λ (m : Migrated). IsMigrated (type_form c.args.ty.now) (file_form c.args.file.now) m) c.in-Done.is c.in_ok-hinted.ensures in
    ap (λ (f : FileForm). faults_of f.design) migrated.1 ∙ c.requires.accepted

pub written_file-requires-clause-agrees : goal.written_file-requires-clause-agrees
written_file-requires-clause-agrees c =
    let migrated = subst (λ (m : Migrated). IsMigrated (type_form c.args.ty.now) (file_form c.args.file.now) m) c.in-Done.is c.in_ok-hinted.ensures in
    c.requires.agrees ∙ sym (ap (λ (f : FileForm). f.design.sig) migrated.1)

pub written_file-requires-clause-version : goal.written_file-requires-clause-version
written_file-requires-clause-version c =
    let migrated = subst (λ (m : Migrated). IsMigrated (type_form c.args.ty.now) (file_form c.args.file.now) m) c.in-Done.is c.in_ok-hinted.ensures in
    ap (λ (f : FileForm). f.version) migrated.1

pub written_file-requires-clause-lines : goal.written_file-requires-clause-lines
written_file-requires-clause-lines c =
    let migrated = subst (λ (m : Migrated). IsMigrated (type_form c.args.ty.now) (file_form c.args.file.now) m) c.in-Done.is c.in_ok-hinted.ensures in
    subst (λ (f : FileForm). AreOfVersion 2 f.proof) (sym migrated.1) (migrated_of_two (type_form c.args.ty.now) (file_form c.args.file.now))

pub written_file-requires-clause-literals : goal.written_file-requires-clause-literals
written_file-requires-clause-literals c =
    let migrated = subst (λ (m : Migrated). IsMigrated (type_form c.args.ty.now) (file_form c.args.file.now) m) c.in-Done.is c.in_ok-hinted.ensures in
    subst (λ (f : FileForm). HaveNoZero f.proof) (sym migrated.1) (migrated_nonzero (type_form c.args.ty.now) (file_form c.args.file.now) c.requires.literals)

pub written_file-requires-clause-proved : goal.written_file-requires-clause-proved
written_file-requires-clause-proved c =
    let migrated = subst (λ (m : Migrated). IsMigrated (type_form c.args.ty.now) (file_form c.args.file.now) m) c.in-Done.is c.in_ok-hinted.ensures in
    subst (λ (f : FileForm). IsAcceptedFile (type_form c.args.ty.now) f) (sym migrated.1) (migrated_accepted (type_form c.args.ty.now) (file_form c.args.file.now) migrated.0)

pub returns-in-Done : goal.returns-in-Done
returns-in-Done c =
    let migrated = subst (λ (m : Migrated). IsMigrated (type_form c.args.ty.now) (file_form c.args.file.now) m) c.in-Done.is c.in_ok-hinted.ensures in
    record { proof = subst (λ (d : DesignForm). IfOk c.written_file.result (IsProof (type_form c.args.ty.now) d)) (ap (λ (f : FileForm). f.design) migrated.1) c.written_file.ensures.proof }
