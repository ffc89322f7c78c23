use Rattle.std.proofs.Common.{Some, ◌∙◌, ap, refl}
use Rattle.std.specs.Prelude.{is_some}
use Rattle.kat_gram.proofs.CourseLemmas.{copy_is, nothing_next, passing_gives}
use Rattle.kat_gram.proofs.listings.Listing.next.Goals as goal

pub returns-in_default-clause-given : goal.returns-in_default-clause-given
returns-in_default-clause-given c =
    nothing_next c.self.inside.course c.in_ok-next.next c.args.self.now c.next_design.new.enumeration c.self.view_is c.self.invariant.0
    c.next_design.ensures.same c.next_design.ensures.sound c.next_design.ensures.alike c.in_ok-next.ensures.given c.in_default.is

pub invariant_of-self-2 : goal.invariant_of-self-2
invariant_of-self-2 c =
    let gives = passing_gives c.self.inside.course c.pass_and_copy.new.course c.in_ok-next.next (Some c.in_ok-last.last) c.args.self.now c.next_design.new.enumeration c.self.view_is c.self.invariant.0
    c.next_design.ensures.same c.next_design.ensures.sound c.next_design.ensures.alike c.pass_and_copy.ensures.alike c.in_ok-last.ensures.number c.in_ok-next.ensures.given (copy_is c.in_ok-next.next c.in-Some.design c.in_ok-last.last c.in-Some.is c.in_ok-last.ensures.copy ∙ c.in_ok-next.ensures.given)
    (ap is_some c.in-Some.is) refl in
    (c.pass_and_copy.ensures.course, gives.last)

pub returns-clause-given : goal.returns-clause-given
returns-clause-given c =
    let gives = passing_gives c.self.inside.course c.pass_and_copy.new.course c.in_ok-next.next (Some c.in_ok-last.last) c.args.self.now c.next_design.new.enumeration c.self.view_is c.self.invariant.0
    c.next_design.ensures.same c.next_design.ensures.sound c.next_design.ensures.alike c.pass_and_copy.ensures.alike c.in_ok-last.ensures.number c.in_ok-next.ensures.given (copy_is c.in_ok-next.next c.in-Some.design c.in_ok-last.last c.in-Some.is c.in_ok-last.ensures.copy ∙ c.in_ok-next.ensures.given)
    (ap is_some c.in-Some.is) refl in
    gives.given

pub returns-clause-behind : goal.returns-clause-behind
returns-clause-behind c =
    let gives = passing_gives c.self.inside.course c.pass_and_copy.new.course c.in_ok-next.next (Some c.in_ok-last.last) c.args.self.now c.next_design.new.enumeration c.self.view_is c.self.invariant.0
    c.next_design.ensures.same c.next_design.ensures.sound c.next_design.ensures.alike c.pass_and_copy.ensures.alike c.in_ok-last.ensures.number c.in_ok-next.ensures.given (copy_is c.in_ok-next.next c.in-Some.design c.in_ok-last.last c.in-Some.is c.in_ok-last.ensures.copy ∙ c.in_ok-next.ensures.given)
    (ap is_some c.in-Some.is) refl in
    gives.behind
