use Rattle.std.proofs.Common.{◌≡◌, List, get_or, All, refl, sym, ap, ◌∙◌, arith, subst}
use Rattle.std.proofs.lemmas.Bool.{false≢true}
use Rattle.std.proofs.lemmas.List.{length-map, get_or-map, take_all}
use Rattle.std.proofs.lemmas.List.Elements.{All-more, All-get_or}
use Rattle.kat_form.specs.Encodings.{Sense, senses_of, sense_of, IsBelow}
use Rattle.kat_cases.proofs.readiness.are_below.Goals as goal

pub returns-then-not-is_below : goal.returns-then-not-is_below
returns-then-not-is_below c =
    let i = c.loop-meaning.meaning-index in
    let senses = senses_of c.args.meanings.now in
    let sense = sense_of c.meaning-item.result in
    let is : sense ≡ get_or senses i sense = ap sense_of c.meaning-item.is ∙ sym (get_or-map sense_of c.args.meanings.now i c.meaning-item.result sense (omega arith)) in
    let P : Sense → Type 0 = IsBelow c.args.numbers in (
      λ e. absurd (false≢true e),
      λ all. c.if-not-is_below.ensures.1 (subst P (sym is) (All-get_or P senses i sense (omega (arith, length-map c.args.meanings.now sense_of)) all)),
    )

pub loop-meaning-preserved : goal.loop-meaning-preserved
loop-meaning-preserved c =
    let i = c.loop-meaning.meaning-index in
    let senses = senses_of c.args.meanings.now in
    let sense = sense_of c.meaning-item.result in
    let is : sense ≡ get_or senses i sense = ap sense_of c.meaning-item.is ∙ sym (get_or-map sense_of c.args.meanings.now i c.meaning-item.result sense (omega arith)) in
    let P : Sense → Type 0 = IsBelow c.args.numbers in
    All-more P senses i sense (omega (arith, length-map c.args.meanings.now sense_of)) c.loop-meaning.invariant (subst P is (c.if-not-is_below.ensures.0 refl))

pub returns : goal.returns
returns c =
    let P : List Sense → Type 0 = All (IsBelow c.args.numbers) in
    (λ _. subst P (take_all c.loop-meaning.meaning-index (senses_of c.args.meanings.now) (omega (arith, length-map c.args.meanings.now sense_of))) c.loop-meaning.invariant, λ _. refl)
