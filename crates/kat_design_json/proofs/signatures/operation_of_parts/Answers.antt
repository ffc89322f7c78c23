use Rattle.std.proofs.Common.{map}
use Rattle.serde_json.specs.View.{view}
use Rattle.kat_design_json.specs.DesignFaults.{name_faults, sorts_faults}
use Rattle.kat_json.specs.FormFaults.{part_faults, past_faults}
use Rattle.kat_json.proofs.Refusing.{handed, refused_second}
use Rattle.kat_design_json.proofs.signatures.operation_of_parts.Goals as goal

pub returns-in_err-sorts-clause-refused : goal.returns-in_err-sorts-clause-refused
returns-in_err-sorts-clause-refused c =
    let ds = map view c.args.parts.now in
    let e = c.in_err-sorts.field-0.0 in
    handed c.from_residual-in_err-sorts.result e _ c.from_residual-in_err-sorts.ensures.1
    (refused_second (part_faults (name_faults c.args.used.now) 0 ds) (part_faults sorts_faults 1 ds) (past_faults 2 ds) e c.in_ok-name.ensures.said.0 c.in_err-sorts.ensures.refused)
