use Rattle.std.proofs.Common.{◌≡◌, rules, subst, true}
use Rattle.kat_design.specs.Designs.{design_form}
use Rattle.kat_type.specs.Types.{type_form}
use Rattle.kat_search.specs.Findings.{Refutes}
use Rattle.kat_search.proofs.trying.try_design.Goals as goal

pub returns-then-branch-clause-tries : goal.returns-then-branch-clause-tries
returns-then-branch-clause-tries c =
    let on : c.in_ok-refute_design.field-0 ≡ true = search rules in
    subst (Refutes (type_form c.args.ty.now) (design_form c.args.design) c.args.findings.now c.refute_design.new.findings) on c.in_ok-refute_design.ensures.refutes c.args.effort
