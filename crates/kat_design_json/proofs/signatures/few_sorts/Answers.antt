use Rattle.std.proofs.Common.{◌≡◌, map, take, rules, sym}
use Rattle.serde_json.specs.View.{view}
use Rattle.kat_design.specs.Faults.{each_faults}
use Rattle.kat_json.specs.FormFaults.{past_faults, sort_faults}
use Rattle.kat_json.proofs.Refusing.{handed, refused_front}
use Rattle.kat_design_json.proofs.signatures.few_sorts.Goals as goal

pub returns-in_err-sorts-clause-refused : goal.returns-in_err-sorts-clause-refused
returns-in_err-sorts-clause-refused c =
    let ds = map view c.args.values.now in
    let e = c.in_err-sorts.field-0.0 in
    let taken : map view c.front.result.now ≡ take 4 ds = search rules in
    handed c.from_residual.result e _ c.from_residual.ensures.1
    (refused_front (each_faults sort_faults 0 (take 4 ds)) (past_faults 4 ds) e (rw (sym taken) c.in_err-sorts.ensures.refused))
