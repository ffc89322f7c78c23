use Rattle.std.proofs.Common.{Option, IfSome, refl, subst}
use Rattle.kat_cases.specs.declared.decision.Decision.{Decision}
use Rattle.kat_cases.specs.Answers.{answer_of}
use Rattle.kat_cases.specs.Further.{IsFound}
use Rattle.kat_cases.proofs.Finding.{found_answers, walk_answers}
use Rattle.kat_sat.proofs.further.go_on.Goals as goal

pub returns-then-not-gives_up : goal.returns-then-not-gives_up
returns-then-not-gives_up c = walk_answers c.args.encoded.now c.requires.walkable c.args.effort (answer_of c.args.walked) c.requires.walked

pub returns-in-Some : goal.returns-in-Some
returns-in-Some c =
    let P : Option Decision → Type 0 = λ o. IfSome o (λ d. IsFound c.args.encoded.now c.args.effort (answer_of d)) in
    found_answers c.args.encoded.now c.args.effort (answer_of c.args.walked) (answer_of c.in-Some.found) c.requires.effort.0 c.requires.walked (c.if-not-gives_up.ensures refl) (subst P c.in-Some.is c.in_ok-found.ensures)

pub returns-in-None : goal.returns-in-None
returns-in-None c = walk_answers c.args.encoded.now c.requires.walkable c.args.effort (answer_of c.args.walked) c.requires.walked
