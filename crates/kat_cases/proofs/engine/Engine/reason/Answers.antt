use Rattle.std.proofs.Common.{ℤ, pos, List, get_or, rules, arith, subst, Contains, FitsSigned}
use Rattle.std.specs.Int.{w32}
use Rattle.std.proofs.lemmas.Int.{to_z-of_z}
use Rattle.std.proofs.lemmas.List.Elements.{Contains-get_or}
use Rattle.kat_cases.proofs.engine.Engine.reason.Goals as goal

pub reason-requires : goal.reason-requires
reason-requires c =
    let trail = c.trail-trail.result.now in
    let literal = get_or c.trail-trail.result.now c.args.place (pos 0) in
    let fits : FitsSigned w32 (get_or c.trail-trail.result.now c.args.place (pos 0)) = search rules in
    let P : List ℤ → Type 0 = λ xs. Contains xs (get_or c.trail-trail.result.now c.args.place (pos 0)) in
    rw (to_z-of_z w32 literal fits) (subst P c.trail-trail.ensures (Contains-get_or trail c.args.place (pos 0) (omega (arith, c.if-place-trail.false))))
