use Rattle.std.proofs.Common.{◌≡◌, ℕ, ◌<◌, ◌≤◌, length, rules, sym, ap, ◌∙◌, subst, arith}
use Rattle.std.proofs.lemmas.List.{length-map}
use Rattle.kat_said.specs.declared.said.Place.TheVariants.{Query}
use Rattle.kat_type.specs.Types.{operation_form, query_form, type_form}
use Rattle.kat_block.specs.Left.{IsNumberAt}
use Rattle.kat_block.proofs.Placing.{count_few, query_found, query_past, recounted}
use Rattle.kat_block.proofs.numbers.query_number.Goals as goal

pub later_number-requires-clause-count : goal.later_number-requires-clause-count
later_number-requires-clause-count c =
    let size : c.len.result ≡ length c.args.block.now.numbers.items = search rules in
    let few = count_few c.args.block.now c.requires.block in omega (arith, size, few)

pub returns-in-Some : goal.returns-in-Some
returns-in-Some c =
    let size : c.len.result ≡ length c.args.block.now.numbers.items = search rules in
    let ops = ap length c.as_slice-in-Some.ensures ∙ sym (length-map c.args.ty.now.ops operation_form) in
    let among : c.in-Some.query < length (type_form c.args.ty.now).queries = omega (arith, c.in-Some.ensures.1, ap length c.as_slice.ensures, length-map c.args.ty.now.queries query_form) in
    let P : ℕ → Type 0 = λ k. IsNumberAt (type_form c.args.ty.now) c.args.block.now.candidates.conjuncts c.args.block.now.dropped.items (Query k) c.later_number.result in
    subst P c.in-Some.ensures.0
    (query_found (type_form c.args.ty.now) c.args.block.now c.requires.block c.in-Some.query c.later_number.result among
    (recounted c.later_number.result c.len.result (length c.args.block.now.numbers.items) (length c.as_slice-in-Some.result.now) (length (type_form c.args.ty.now).ops) c.in-Some.query c.later_number.ensures size ops))

pub returns-in-None : goal.returns-in-None
returns-in-None c =
    let past : length (type_form c.args.ty.now).queries ≤ c.args.query = omega (arith, c.in-None.ensures, ap length c.as_slice.ensures, length-map c.args.ty.now.queries query_form) in
    query_past (type_form c.args.ty.now) c.args.block.now c.args.query past
