use Rattle.std.proofs.Common.{◌≡◌, length, map, ap, ◌∙◌, sym}
use Rattle.std.proofs.lemmas.List.{length-map}
use Rattle.kat_type.specs.Types.{operation_form, query_form, type_form}
use Rattle.kat_vc.proofs.Counts.{counted}
use Rattle.kat_vc.proofs.conditions.condition_count.Goals as goal

pub returns : goal.returns
returns c =
    let ty = c.args.ty.now in
    let conjuncts : length c.as_slice.result.now ≡ length c.args.relation.now.conjuncts = ap length c.as_slice.ensures in
    let ops : length c.as_slice-2.result.now ≡ length (map operation_form ty.ops) = ap length c.as_slice-2.ensures ∙ sym (length-map ty.ops operation_form) in
    let queries : length c.as_slice-3.result.now ≡ length (map query_form ty.queries) = ap length c.as_slice-3.ensures ∙ sym (length-map ty.queries query_form) in
    rw conjuncts (rw ops (rw queries (sym (counted (type_form ty) c.args.relation.now.conjuncts))))
