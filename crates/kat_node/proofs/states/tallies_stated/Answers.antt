use Rattle.std.proofs.Common.{List, ℤ, subst}
use Rattle.kat_num.specs.declared.values.Value.{Value}
use Rattle.kat_json.proofs.Refusing.{handed}
use Rattle.kat_json.specs.Refused.{IsRefused}
use Rattle.kat_node.specs.Possible.{tallies_faults}
use Rattle.kat_node.proofs.states.tallies_stated.Goals as goal

pub returns-in_err-table-clause-refused : goal.returns-in_err-table-clause-refused
returns-in_err-table-clause-refused c =
    let e = c.in_err-table.field-0.0 in
    handed c.from_residual.result e _ c.from_residual.ensures.1
    (subst (λ (xs : List (Value × List (ℤ × ℤ))). IsRefused (tallies_faults c.args.key xs) e) c.as_slice.ensures c.in_err-table.ensures.refused)
