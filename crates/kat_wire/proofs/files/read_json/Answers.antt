use Rattle.std.proofs.Common.{map, subst, List}
use Rattle.serde_json.specs.Data.{Data}
use Rattle.serde_json.specs.View.{view}
use Rattle.kat_wire.specs.FileForms.{file_form}
use Rattle.kat_wire.specs.Files.{refusal_of}
use Rattle.kat_wire.specs.Refused.{IsRefusalOf}
use Rattle.kat_wire.proofs.FilesBack.{handed_refusal, json_refused, text_of_file}
use Rattle.kat_wire.proofs.files.read_json.Goals as goal

pub returns-in_err-file-clause-refused : goal.returns-in_err-file-clause-refused
returns-in_err-file-clause-refused c =
    let d = view c.in_ok-value.value in
    let e = c.in_err-file.field-0.0 in
    let refused = subst (λ (ds : List Data). IsRefusalOf (refusal_of ds) e) c.elements_of.ensures c.in_err-file.ensures.refused in
    handed_refusal c.from_residual-in_err-file.result e c.args.bytes.now c.from_residual-in_err-file.ensures.1
    (json_refused c.args.bytes.now d e c.requires c.in_ok-value.ensures.json refused)

pub returns-clause-read : goal.returns-clause-read
returns-clause-read c =
    let d = view c.in_ok-value.value in
    let read = c.in_ok-file.ensures.read in
    text_of_file c.args.bytes.now d (map view c.elements_of.result.now) (file_form c.in_ok-file.file) c.in_ok-value.ensures.json c.elements_of.ensures read.0 read.1
