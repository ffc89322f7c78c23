use Rattle.std.proofs.Common.{List, subst}
use Rattle.kat_num.specs.declared.values.Value.{Value}
use Rattle.kat_json.proofs.Refusing.{handed}
use Rattle.kat_json.specs.Refused.{IsRefused}
use Rattle.kat_node.specs.Possible.{set_faults}
use Rattle.kat_node.proofs.states.set_stated.Goals as goal

pub returns-in_err-set-clause-refused : goal.returns-in_err-set-clause-refused
returns-in_err-set-clause-refused c =
    let e = c.in_err-set.field-0.0 in
    handed c.from_residual.result e _ c.from_residual.ensures.1
    (subst (λ (xs : List Value). IsRefused (set_faults c.args.key xs) e) c.as_slice.ensures c.in_err-set.ensures.refused)
