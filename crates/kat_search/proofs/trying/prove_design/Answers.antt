use Rattle.std.proofs.Common.{List, subst, sym}
use Rattle.kat_drop.specs.Certificates.{drops_of}
use Rattle.kat_drop.specs.declared.drops.Drop1.{Drop1}
use Rattle.kat_design.specs.Designs.{design_form}
use Rattle.kat_prove.specs.Provings.{IsProving}
use Rattle.kat_prove.specs.declared.provings.Proving.{Proving}
use Rattle.kat_cases.specs.Answers.{answer_of}
use Rattle.kat_type.specs.Types.{type_form}
use Rattle.kat_telling.specs.Evidence.{Stands}
use Rattle.kat_telling.specs.Reasons.{ending_of, evidence_of}
use Rattle.kat_search.proofs.Telling.{stuck_stands}
use Rattle.kat_search.proofs.trying.prove_design.Goals as goal

pub pass_over-requires-in-Stuck-clause-stands : goal.pass_over-requires-in-Stuck-clause-stands
pass_over-requires-in-Stuck-clause-stands c =
    let ty = type_form c.args.ty.now in
    let d = design_form c.args.design in
    let all = c.in_ok-drops.ensures.proving in
    let is = subst (λ (p : Proving). IsProving ty d all.0 c.args.effort p) c.in-Stuck.is all.2 in
    let ends = c.reason_at-reason.ensures in
    subst (λ (drops : List Drop1). Stands ty d c.args.effort c.args.findings.now.passed.items (evidence_of drops c.reason_at-reason.result)) (sym c.deref-in-Stuck.ensures.value)
    (stuck_stands ty d all.0 c.args.effort c.args.findings.now.passed.items (drops_of c.in-Stuck.drops.items) c.in-Stuck.at is.0 ends.0 (answer_of c.in-Stuck.decision)
    (ending_of c.reason_at-reason.result) all.1 is.1 is.2 ends.1 ends.2)
