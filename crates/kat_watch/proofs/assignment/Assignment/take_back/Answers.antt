use Rattle.std.proofs.Common.{◌≡◌, ℕ, set, false, refl, ap, ◌∙◌, arith, rules, FitsSigned}
use Rattle.std.specs.Int.{w32}
use Rattle.std.proofs.lemmas.Int.{to_z-of_z}
use Rattle.kat_clause.specs.Literals.{code_of}
use Rattle.kat_watch.proofs.Leavings.{leaving_more}
use Rattle.kat_watch.proofs.assignment.Assignment.take_back.Goals as goal

pub loop-self-preserved : goal.loop-self-preserved
loop-self-preserved c =
    let literal = c.in-Some.literal in
    let fits : FitsSigned w32 literal = search rules in
    let code : c.code.result ≡ code_of literal = c.code.ensures ∙ ap code_of (to_z-of_z w32 literal fits) in
    let mid = c.loop-self.self in
    leaving_more c.args.self.now mid _ c.args.kept literal c.loop-self.invariant (omega (arith, c.len.ensures, c.loop-self-test.true, mid.trail.ok.0)) c.in-Some.ensures.items refl (ap (λ (x : ℕ). set mid.marks.items x false) code) refl (omega (arith, c.pop.ensures.capacity)) refl refl refl refl
