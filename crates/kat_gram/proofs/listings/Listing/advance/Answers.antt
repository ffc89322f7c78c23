use Rattle.std.proofs.Common.{◌≡◌, false, rules, true}
use Rattle.std.specs.Prelude.{is_some}
use Rattle.kat_gram.proofs.CourseLemmas.{advanced, not_advanced, passing_gives}
use Rattle.kat_gram.proofs.listings.Listing.advance.Goals as goal

pub returns-then-is_none-clause-given : goal.returns-then-is_none-clause-given
returns-then-is_none-clause-given c =
    let none : is_some c.in_ok-next.next ≡ false = search rules in
    not_advanced c.self.inside.course c.in_ok-next.next c.args.self.now c.next_design.new.enumeration c.self.view_is c.self.invariant.0
    c.next_design.ensures.same c.next_design.ensures.sound c.next_design.ensures.alike c.in_ok-next.ensures.given none

pub invariant_of-self-2 : goal.invariant_of-self-2
invariant_of-self-2 c =
    let some : is_some c.in_ok-next.next ≡ true = search rules in
    let gives = passing_gives c.self.inside.course c.pass_found.new.course c.in_ok-next.next c.in_ok-next.next c.args.self.now c.next_design.new.enumeration c.self.view_is c.self.invariant.0
    c.next_design.ensures.same c.next_design.ensures.sound c.next_design.ensures.alike c.pass_found.ensures.alike c.in_ok-pass_found.ensures.number c.in_ok-next.ensures.given c.in_ok-next.ensures.given
    some some in
    (c.pass_found.ensures.course, gives.last)

pub returns-clause-given : goal.returns-clause-given
returns-clause-given c =
    let some : is_some c.in_ok-next.next ≡ true = search rules in
    let gives = passing_gives c.self.inside.course c.pass_found.new.course c.in_ok-next.next c.in_ok-next.next c.args.self.now c.next_design.new.enumeration c.self.view_is c.self.invariant.0
    c.next_design.ensures.same c.next_design.ensures.sound c.next_design.ensures.alike c.pass_found.ensures.alike c.in_ok-pass_found.ensures.number c.in_ok-next.ensures.given c.in_ok-next.ensures.given
    some some in
    (advanced c.pass_found.new.course c.in_ok-next.next c.in_ok-next.next c.args.self.now gives).given

pub returns-clause-behind : goal.returns-clause-behind
returns-clause-behind c =
    let some : is_some c.in_ok-next.next ≡ true = search rules in
    let gives = passing_gives c.self.inside.course c.pass_found.new.course c.in_ok-next.next c.in_ok-next.next c.args.self.now c.next_design.new.enumeration c.self.view_is c.self.invariant.0
    c.next_design.ensures.same c.next_design.ensures.sound c.next_design.ensures.alike c.pass_found.ensures.alike c.in_ok-pass_found.ensures.number c.in_ok-next.ensures.given c.in_ok-next.ensures.given
    some some in
    (advanced c.pass_found.new.course c.in_ok-next.next c.in_ok-next.next c.args.self.now gives).behind
