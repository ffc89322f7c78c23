use Rattle.std.proofs.Common.{map}
use Rattle.serde_json.specs.View.{view}
use Rattle.kat_design_json.specs.DesignFaults.{design_faults, signature_faults}
use Rattle.kat_json.specs.FormFaults.{part_faults}
use Rattle.kat_json.proofs.Refusing.{handed, refused_behind, refused_front}
use Rattle.kat_wire.proofs.files.design.Goals as goal

pub returns-in_err-sig-clause-refused : goal.returns-in_err-sig-clause-refused
returns-in_err-sig-clause-refused c =
    let ds = map view c.args.parts.now in
    let e = c.in_err-sig.field-0.0 in
    handed c.from_residual.result e _ c.from_residual.ensures.1
    (refused_front (part_faults signature_faults 2 ds) (part_faults design_faults 3 ds) e c.in_err-sig.ensures.refused)

pub returns-in_err-components-clause-refused : goal.returns-in_err-components-clause-refused
returns-in_err-components-clause-refused c =
    let ds = map view c.args.parts.now in
    let e = c.in_err-components.field-0.0 in
    handed c.from_residual-in_err-components.result e _ c.from_residual-in_err-components.ensures.1
    (refused_behind (part_faults signature_faults 2 ds) (part_faults design_faults 3 ds) e c.in_ok-sig.ensures.said.0 c.in_err-components.ensures.refused)
