use Rattle.std.proofs.Common.{◌≡◌, map, true, rules}
use Rattle.serde_json.specs.View.{view}
use Rattle.kat_wire.specs.FileForms.{file_form}
use Rattle.kat_wire.specs.Files.{is_katara}
use Rattle.kat_wire.specs.Versions.{has_version}
use Rattle.kat_wire.proofs.FilesBack.{checked_read, checked_refused}
use Rattle.kat_wire.proofs.files.accepted.Goals as goal

pub returns-clause-read : goal.returns-clause-read
returns-clause-read c =
    let ds = map view c.args.parts.now in
    let katara : is_katara ds ≡ true = search rules in
    let version : has_version ds ≡ true = search rules in
    checked_read c.checked.result c.in_ok-file.file ds katara version c.in_ok-file.ensures.said.0 c.in_ok-file.ensures.said.1 c.checked.ensures.same

pub returns-clause-refused : goal.returns-clause-refused
returns-clause-refused c =
    let ds = map view c.args.parts.now in
    let katara : is_katara ds ≡ true = search rules in
    let version : has_version ds ≡ true = search rules in
    checked_refused c.checked.result ds (file_form c.in_ok-file.file) katara version c.in_ok-file.ensures.said.0 c.in_ok-file.ensures.said.1 c.checked.ensures.refused
