use Rattle.std.proofs.Common.{List, subst}
use Rattle.kat_num.specs.declared.values.Value.{Value}
use Rattle.kat_shape.specs.Flats.{filled_with}
use Rattle.kat_shape.specs.Forms.{form_of}
use Rattle.kat_json.proofs.Refusing.{handed}
use Rattle.kat_json.specs.Refused.{IsRefused}
use Rattle.kat_node.specs.Possible.{table_faults}
use Rattle.kat_node.proofs.states.table_stated.Goals as goal

pub returns-in_err-table-clause-refused : goal.returns-in_err-table-clause-refused
returns-in_err-table-clause-refused c =
    let e = c.in_err-table.field-0.0 in
    let f = form_of c.args.shape.now in
    let es = c.as_slice-2.result.now in
    handed c.from_residual.result e _ c.from_residual.ensures.1
    (subst (λ (xs : List (Value × List Value)). IsRefused (table_faults c.args.key f (filled_with f c.args.starts.now) xs) e) c.as_slice-2.ensures
    (subst (λ (vs : List Value). IsRefused (table_faults c.args.key f (filled_with f vs) es) e) c.as_slice.ensures c.in_err-table.ensures.refused))
