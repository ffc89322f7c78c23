use Rattle.std.proofs.Common.{◌≡◌, ℕ, ◌<◌, List, length, rules, refl, sym, ap, ◌∙◌, subst, arith}
use Rattle.std.specs.Prelude.{slice_get}
use Rattle.std.proofs.lemmas.List.{length-map}
use Rattle.kat_type.specs.Lists.{Has}
use Rattle.kat_type.specs.Types.{operation_form, type_form}
use Rattle.kat_block.proofs.Placing.{count_few, place_few, recounted, step_found, step_none}
use Rattle.kat_block.proofs.numbers.step_number_of.Goals as goal

pub later_number-requires-clause-count : goal.later_number-requires-clause-count
later_number-requires-clause-count c =
    let size : c.len.result ≡ length c.args.block.now.numbers.items = search rules in
    let few = count_few c.args.block.now c.requires.block in omega (arith, size, few)

pub later_number-requires-clause-place : goal.later_number-requires-clause-place
later_number-requires-clause-place c =
    let there = ap (λ (xs : List ℕ). slice_get xs c.in-Some.place) (sym c.deref.ensures.value) ∙ c.in-Some.ensures in
    let less = place_few c.args.block.now c.requires.block c.in-Some.place c.args.conjunct there in
    let few = count_few c.args.block.now c.requires.block in omega (arith, less, few)

pub returns-in-Some : goal.returns-in-Some
returns-in-Some c =
    let there = ap (λ (xs : List ℕ). slice_get xs c.in-Some.place) (sym c.deref.ensures.value) ∙ c.in-Some.ensures in
    let size : c.len.result ≡ length c.args.block.now.numbers.items = search rules in
    let among : c.args.op < length (type_form c.args.ty.now).ops = omega (arith, c.requires.op, length-map c.args.ty.now.ops operation_form) in
    step_found (type_form c.args.ty.now) c.args.block.now c.requires.block c.args.op c.args.conjunct c.in-Some.place c.later_number.result among there
    (recounted c.later_number.result c.len.result (length c.args.block.now.numbers.items) c.args.op c.args.op c.in-Some.place c.later_number.ensures size refl)

pub returns-in-None : goal.returns-in-None
returns-in-None c =
    let P : List ℕ → Type 0 = λ xs. Has xs c.args.conjunct in
    step_none (type_form c.args.ty.now) c.args.block.now c.requires.block c.args.op c.args.conjunct (λ h. c.in-None.ensures (subst P (sym c.deref.ensures.value) h))
