use Rattle.std.proofs.Common.{◌≡◌, inr, List, ℕ, IfOk, Vec, sym, ap, ◌∙◌, subst}
use Rattle.std.specs.Global.{Global}
use Rattle.kat_check.proofs.Migrating.{migrated_nonzero, migrated_of_two}
use Rattle.kat_design.specs.Faults.{faults_of}
use Rattle.kat_design_json.specs.Signatures.{IsSignature}
use Rattle.kat_type.specs.Types.{type_form}
use Rattle.kat_wire.specs.FileForms.{AreOfVersion, FileForm, HaveNoZero, file_form}
use Rattle.kat_wire.specs.Files.{IsFileText}
use Rattle.kat_wire.specs.Printed.{file_text}
use Rattle.kat_search.proofs.files.hinted_text.Goals as goal

pub write_file-requires-clause-signature : goal.write_file-requires-clause-signature
write_file-requires-clause-signature c = subst IsSignature (sym (ap (λ (f : FileForm). f.design.sig) c.in_ok-hinted.ensures ∙ c.requires.signature)) c.requires.words

pub write_file-requires-clause-accepted : goal.write_file-requires-clause-accepted
write_file-requires-clause-accepted c = ap (λ (f : FileForm). faults_of f.design) c.in_ok-hinted.ensures ∙ c.requires.no_faults

pub write_file-requires-clause-literals : goal.write_file-requires-clause-literals
write_file-requires-clause-literals c =
    subst (λ (g : FileForm). HaveNoZero g.proof) (sym c.in_ok-hinted.ensures) (migrated_nonzero (type_form c.args.ty.now) (file_form c.args.file.now) c.requires.literals)

pub write_file-requires-clause-version : goal.write_file-requires-clause-version
write_file-requires-clause-version c = inr (ap (λ (f : FileForm). f.version) c.in_ok-hinted.ensures)

pub write_file-requires-clause-lines : goal.write_file-requires-clause-lines
write_file-requires-clause-lines c =
    subst (λ (f : FileForm). AreOfVersion f.version f.proof) (sym c.in_ok-hinted.ensures) (migrated_of_two (type_form c.args.ty.now) (file_form c.args.file.now))

pub returns-clause-text : goal.returns-clause-text
returns-clause-text c =
    subst (λ (g : FileForm). IfOk c.write_file.result (λ (text : Vec ℕ Global). text.items ≡ file_text g c.args.passed.now)) c.in_ok-hinted.ensures c.write_file.ensures.text

pub returns-clause-read : goal.returns-clause-read
returns-clause-read c = subst (λ (g : FileForm). IfOk c.write_file.result (λ (text : Vec ℕ Global). IsFileText text.items g)) c.in_ok-hinted.ensures c.write_file.ensures.read
