use Rattle.std.proofs.Common.{ℕ, List, sym, ap, ◌∙◌, subst, arith}
use Rattle.std.specs.Prelude.{slice_get}
use Rattle.kat_type.specs.Lists.{Has}
use Rattle.kat_type.specs.Types.{type_form}
use Rattle.kat_block.proofs.Placing.{count_few, place_few, start_found, start_none}
use Rattle.kat_block.proofs.numbers.start_number.Goals as goal

pub number_of-requires : goal.number_of-requires
number_of-requires c =
    let there = ap (λ (xs : List ℕ). slice_get xs c.in-Some.place) (sym c.deref.ensures.value) ∙ c.in-Some.ensures in
    let less = place_few c.args.block.now c.requires.block c.in-Some.place c.args.conjunct there in
    let few = count_few c.args.block.now c.requires.block in omega (arith, less, few)

pub returns-in-Some : goal.returns-in-Some
returns-in-Some c =
    let there = ap (λ (xs : List ℕ). slice_get xs c.in-Some.place) (sym c.deref.ensures.value) ∙ c.in-Some.ensures in
    start_found (type_form c.args.ty.now) c.args.block.now c.requires.block c.args.conjunct c.in-Some.place c.number_of.result there c.number_of.ensures

pub returns-in-None : goal.returns-in-None
returns-in-None c =
    let P : List ℕ → Type 0 = λ xs. Has xs c.args.conjunct in
    start_none (type_form c.args.ty.now) c.args.block.now c.requires.block c.args.conjunct (λ h. c.in-None.ensures (subst P (sym c.deref.ensures.value) h))
