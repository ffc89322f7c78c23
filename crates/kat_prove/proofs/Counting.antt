-- How many conditions there are.
use Rattle.std.proofs.Common.{◌≡◌, ◌+◌, ◌*◌, List, length, sym, ◌∙◌}
use Rattle.std.proofs.lemmas.List.{length-map}
use Rattle.kat_relation.specs.declared.relations.Conjunct.{Conjunct}
use Rattle.kat_type.specs.Types.{operation_form, query_form, type_form}
use Rattle.kat_type.specs.declared.types.Operation.{Operation}
use Rattle.kat_type.specs.declared.types.Query.{Query}
use Rattle.kat_type.specs.declared.types.SeqType.{SeqType}
use Rattle.kat_vc.specs.Conditions.{condition_count}
use Rattle.kat_vc.proofs.Counts.{counted}

pub count_known : (ty : SeqType) (conjuncts cs : List Conjunct) (ops : List Operation) (queries : List Query) → cs ≡ conjuncts → ops ≡ ty.ops → queries ≡ ty.queries
    → length cs + length ops * length cs + length queries ≡ condition_count (type_form ty) conjuncts
count_known ty conjuncts cs ops queries e f g =
    let all = counted (type_form ty) conjuncts in
    let m = length-map ty.ops operation_form in
    let n = length-map ty.queries query_form in
    (λ i. length (e i) + length (f i) * length (e i) + length (g i)) ∙ sym (all ∙ (λ i. length conjuncts + m i * length conjuncts + n i))
