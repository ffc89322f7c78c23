use Rattle.std.proofs.Common.{ℕ, ◌∙◌, ◌++◌, pos, get_or, option_map, sym, ap, arith, rules, subst, FitsSigned}
use Rattle.std.specs.Int.{w32}
use Rattle.std.proofs.lemmas.Int.{to_z-of_z}
use Rattle.std.proofs.lemmas.List.{take_all}
use Rattle.kat_watch.specs.Watched.{IsLiteral}
use Rattle.kat_cases.specs.Guests.{with_guest}
use Rattle.kat_cases.proofs.Paths.{told_of}
use Rattle.kat_cases.proofs.Ways.{may_one, may_next}
use Rattle.kat_cases.proofs.cores.falsifies.Goals as goal

pub assume-requires-clause-literal : goal.assume-requires-clause-literal
assume-requires-clause-literal c =
    let known = c.args.known.now in
    let literals = c.args.literals.now in
    let l = get_or c.args.literals.now c.loop-literal.literal-index (pos 0) in
    let fits : FitsSigned w32 (get_or c.args.literals.now c.loop-literal.literal-index (pos 0)) = search rules in
    let P : ℕ → Type 0 = λ g. IsLiteral g (get_or c.args.literals.now c.loop-literal.literal-index (pos 0)) in
    rw (to_z-of_z w32 l fits) (subst P (sym c.loop-literal.invariant.2) (may_one known.greatest known.assumed literals c.loop-literal.literal-index c.loop-literal-test.true c.requires.literals))

pub assume-requires-clause-apart : goal.assume-requires-clause-apart
assume-requires-clause-apart c =
    let known = c.args.known.now in
    let literals = c.args.literals.now in
    let l = get_or c.args.literals.now c.loop-literal.literal-index (pos 0) in
    let fits : FitsSigned w32 (get_or c.args.literals.now c.loop-literal.literal-index (pos 0)) = search rules in
    rw (to_z-of_z w32 l fits) (may_next known.greatest known.assumed literals c.loop-literal.known.assumed c.loop-literal.literal-index c.loop-literal-test.true c.requires.literals c.loop-literal.invariant.0)

pub returns-clause-falsified : goal.returns-clause-falsified
returns-clause-falsified c =
    told_of c.propagate_with.result _ _ c.loop-literal.known.assumed (c.args.known.now.assumed ++ c.args.literals.now)
    (ap (λ cs. with_guest cs (option_map (λ g. g.now) c.args.guest)) c.loop-literal.invariant.1)
    (c.loop-literal.invariant.0 ∙ ap (λ xs. c.args.known.now.assumed ++ xs) (take_all c.loop-literal.literal-index c.args.literals.now (omega arith)))
    c.propagate_with.ensures.falsified
