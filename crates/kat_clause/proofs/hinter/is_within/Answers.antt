use Rattle.std.proofs.Common.{◌≡◌, ℤ, pos, get_or, ◌∙◌, subst, arith, rules, below_more, Contains, FitsSigned}
use Rattle.std.specs.Int.{w32}
use Rattle.std.proofs.lemmas.Int.{to_z-of_z}
use Rattle.kat_clause.proofs.Codes.{Contains-at, at-Contains}
use Rattle.kat_clause.proofs.hinter.is_within.Goals as goal

pub loop-literal-preserved : goal.loop-literal-preserved
loop-literal-preserved c =
    let set = c.args.set.now in
    let few = c.args.few.now in
    let i = c.loop-literal.literal-index in
    let literal = get_or few i (pos 0) in
    let fits : FitsSigned w32 literal = search rules in
    let place = c.place_from-place.result in
    let at : get_or set place (pos 0) ≡ literal = c.place_from-place.ensures (omega arith) ∙ to_z-of_z w32 literal fits in
    let P : ℤ → Type 0 = Contains set in
    below_more (λ j. Contains set (get_or few j (pos 0))) i c.loop-literal.invariant (subst P at (Contains-at set place (omega arith)))

pub returns : goal.returns
returns c = λ e k has.
    let P : ℤ → Type 0 = Contains c.args.set.now in
    subst P (at-Contains c.args.few.now k has) (c.loop-literal.invariant has.0 (omega (arith, has.1)))
