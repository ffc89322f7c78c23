use Rattle.std.proofs.Common.{◌≤◌, arith, rules}
use Rattle.kat_gram.specs.Courses.{HasPassed, words_in}
use Rattle.kat_gram.specs.Listings.{last_number}
use Rattle.kat_gram.proofs.CourseLemmas.{alike_on, gone_through, not_any, not_before, not_more, passed_same, words_alike}
use Rattle.kat_gram.proofs.courses.go_through.Goals as goal

pub returns-in_default-clause-found : goal.returns-in_default-clause-found
returns-in_default-clause-found c =
    let p : HasPassed c.find.new.enumeration c.lists.course.number = passed_same c.lists.course.enumeration c.find.new.enumeration c.lists.course.number c.find.ensures.same c.find.ensures.sound c.lists.invariant.0.at in
    not_any c.find.new.enumeration c.lists.course.number c.args.wanted.now p c.in_default.is c.in_ok-find.ensures.found
    (not_before c.lists.course.enumeration c.find.new.enumeration c.lists.course.number c.args.wanted.now c.find.ensures.alike c.lists.invariant.3)

pub returns-then-is_wanted-clause-found : goal.returns-then-is_wanted-clause-found
returns-then-is_wanted-clause-found c =
    let p : HasPassed c.find.new.enumeration c.lists.course.number = passed_same c.lists.course.enumeration c.find.new.enumeration c.lists.course.number c.find.ensures.same c.find.ensures.sound c.lists.invariant.0.at in
    let few : c.pass_found.new.course.number ≤ last_number = omega (arith, c.in_ok-pass_found.ensures.number, c.lists.invariant.2, c.lists-test.true) in (
      gone_through c.find.new.enumeration c.lists.course.number c.pass_found.new.course.number c.in-Some.list c.args.wanted.now (words_in c.pass_found.new.course.enumeration) c.is_same_list-is_wanted.result
          c.in-Some.is p c.in_ok-pass_found.ensures.number (words_alike c.find.new.enumeration c.pass_found.new.course.enumeration c.pass_found.ensures.alike) (search rules) c.if-is_wanted.true,
      few,
    )

pub lists-preserved : goal.lists-preserved
lists-preserved c =
    let p : HasPassed c.find.new.enumeration c.lists.course.number = passed_same c.lists.course.enumeration c.find.new.enumeration c.lists.course.number c.find.ensures.same c.find.ensures.sound c.lists.invariant.0.at in (
      c.pass_found.ensures.course,
      alike_on c.args.course.now.enumeration c.find.new.enumeration c.pass_found.new.course.enumeration
          (alike_on c.args.course.now.enumeration c.lists.course.enumeration c.find.new.enumeration c.lists.invariant.1 c.find.ensures.alike) c.pass_found.ensures.alike,
      omega (arith, c.in_ok-pass_found.ensures.number, c.lists.invariant.2),
      not_more c.find.new.enumeration c.pass_found.new.course.enumeration c.lists.course.number c.pass_found.new.course.number c.in-Some.list c.args.wanted.now c.is_same_list-is_wanted.result c.in-Some.is p
          c.in_ok-pass_found.ensures.number (words_alike c.find.new.enumeration c.pass_found.new.course.enumeration c.pass_found.ensures.alike) (search rules) c.if-is_wanted.false
          (not_before c.lists.course.enumeration c.find.new.enumeration c.lists.course.number c.args.wanted.now c.find.ensures.alike c.lists.invariant.3),
    )
