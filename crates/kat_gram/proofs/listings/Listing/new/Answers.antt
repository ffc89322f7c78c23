use Rattle.std.proofs.Common.{◌∙◌, ◌≡◌, arith}
use Rattle.kat_gram.specs.Enumerations.{most_of}
use Rattle.kat_gram.proofs.Resuming.{IsCourseOf, all_to_come, course_listed, none_given}
use Rattle.kat_type.specs.Types.{type_form}
use Rattle.kat_gram.proofs.listings.Listing.new.Goals as goal

pub returns-clause-listed : goal.returns-clause-listed
returns-clause-listed c =
    let beyond = c.in_ok-course.ensures.beyond in
    let some = c.requires.some in
    let most : most_of c.in_ok-course.course.enumeration ≡ c.args.size = omega (arith, beyond, some) in
    let is : IsCourseOf (type_form c.args.ty.now) c.args.size c.args.kinds c.in_ok-course.course =
    record { setting = c.in_ok-course.ensures.setting ∙ c.in_ok-setting.ensures; most = most; small = c.requires.small; fits = c.requires.sorted } in
    course_listed (type_form c.args.ty.now) c.args.size c.args.kinds c.in_ok-course.course is

pub returns-clause-first : goal.returns-clause-first
returns-clause-first c = all_to_come c.in_ok-course.course c.in_ok-course.ensures.none

pub returns-clause-none : goal.returns-clause-none
returns-clause-none c = none_given c.in_ok-course.course c.in_ok-course.ensures.none

pub invariant_of-result : goal.invariant_of-result
invariant_of-result c = (c.in_ok-course.ensures.course, none_given c.in_ok-course.course c.in_ok-course.ensures.none)
