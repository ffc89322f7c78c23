use Rattle.std.proofs.Common.{◌≡◌, ◌++◌, ◌∷◌, [], ℤ, is_some, false, ap, sym, ◌∙◌, arith, rules, FitsSigned}
use Rattle.std.specs.Int.{w32}
use Rattle.std.proofs.lemmas.Int.{to_z-of_z}
use Rattle.kat_form.specs.Folds.{reading_of}
use Rattle.kat_form.proofs.Parts.{sized_at_most, sized_above, sized_at, no_deeper, literals_more}
use Rattle.kat_form.proofs.encode.+encode.Goals as goal

pub literal-atom_literal-requires : goal.literal-atom_literal-requires
literal-atom_literal-requires t c = sized_at_most c.args.formula.now c.in-AtMost.row c.in-AtMost.is c.requires.sized

pub literal-above_literal-requires : goal.literal-above_literal-requires
literal-above_literal-requires t c = sized_above c.args.formula.now c.in-Above.row c.in-Above.is c.requires.sized

pub literals-literal-requires : goal.literals-literal-requires
literals-literal-requires t c =
    let i = c.loop-part.part-index in (
      omega (arith, no_deeper c.args.parts.now i c.part-item.result c.loop-part-test.true c.part-item.is, c.decreases),
      sized_at c.args.parts.now i c.part-item.result c.loop-part-test.true c.part-item.is c.requires.sized,
    )

pub literals-loop-part-preserved : goal.literals-loop-part-preserved
literals-loop-part-preserved t c =
    let parts = c.args.parts.now in
    let i = c.loop-part.part-index in
    let l = c.in_ok-literal.literal in
    let open' : is_some (reading_of c.part-item.result).constant ≡ false = ap is_some (sym c.constant.ensures) ∙ sym c.is_some.ensures ∙ c.if-is_some.false in
    let given = c.in_ok-literal.ensures in
    let fits : FitsSigned w32 l = search rules in
    let pushed : c.push.new.self.items ≡ c.loop-part.literals.items ++ l ∷ [] = c.in_ok-push.ensures.items ∙ ap (λ (x : ℤ). c.loop-part.literals.items ++ x ∷ []) (to_z-of_z w32 l fits) in
    rw pushed (literals_more parts i c.part-item.result c.loop-part.literals.items l c.loop-part.draft c.literal.new.draft c.loop-part-test.true c.part-item.is open' given.0 given.1 ∙ c.loop-part.invariant)
