use Rattle.std.proofs.Common.{◌++◌, map}
use Rattle.serde_json.specs.View.{view}
use Rattle.kat_design_json.specs.DesignFaults.{design_faults, signature_faults}
use Rattle.kat_json.specs.FormFaults.{part_faults}
use Rattle.kat_wire.specs.FileFaults.{rest_faults}
use Rattle.kat_json.proofs.Refusing.{handed, refused_front}
use Rattle.kat_wire.proofs.files.file.Goals as goal

pub returns-in_err-design-clause-refused : goal.returns-in_err-design-clause-refused
returns-in_err-design-clause-refused c =
    let ds = map view c.args.parts.now in
    let e = c.in_err-design.field-0.0 in
    handed c.from_residual.result e _ c.from_residual.ensures.1
    (refused_front (part_faults signature_faults 2 ds ++ part_faults design_faults 3 ds) (rest_faults ds) e c.in_err-design.ensures.refused)
