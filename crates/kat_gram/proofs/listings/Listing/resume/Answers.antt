use Rattle.std.proofs.Common.{◌∙◌, ◌≡◌, arith}
use Rattle.kat_design.specs.Designs.{design_form}
use Rattle.kat_gram.specs.Enumerations.{most_of}
use Rattle.kat_gram.proofs.Resuming.{IsCourseOf, course_on, found_there, unfound}
use Rattle.kat_type.specs.Types.{type_form}
use Rattle.kat_gram.proofs.listings.Listing.resume.Goals as goal

pub gone_through-requires-clause-small : goal.gone_through-requires-clause-small
gone_through-requires-clause-small c =
    let beyond = c.in_ok-course.ensures.beyond in
    let some = c.requires.some in
    let small = c.requires.small in
    omega (arith, beyond, some, small)

pub returns-in-None : goal.returns-in-None
returns-in-None c =
    let beyond = c.in_ok-course.ensures.beyond in
    let some = c.requires.some in
    let most : most_of c.in_ok-course.course.enumeration ≡ c.args.size = omega (arith, beyond, some) in
    let is : IsCourseOf (type_form c.args.ty.now) c.args.size c.args.kinds c.in_ok-course.course =
    record { setting = c.in_ok-course.ensures.setting ∙ c.in_ok-setting.ensures; most = most; small = c.requires.small; fits = c.requires.sorted } in
    unfound (type_form c.args.ty.now) c.args.size c.args.kinds c.gone_through.new.course (design_form c.args.after.now)
    (course_on (type_form c.args.ty.now) c.args.size c.args.kinds c.in_ok-course.course c.gone_through.new.course is c.gone_through.ensures.alike) (rw c.in-None.is at c.in_ok-gone_through.ensures.found)

pub invariant_of-result : goal.invariant_of-result
invariant_of-result c = (c.gone_through.ensures.course, (rw c.in-Some.is at c.in_ok-gone_through.ensures.found).2)

pub returns-in-Some : goal.returns-in-Some
returns-in-Some c =
    let beyond = c.in_ok-course.ensures.beyond in
    let some = c.requires.some in
    let most : most_of c.in_ok-course.course.enumeration ≡ c.args.size = omega (arith, beyond, some) in
    let is : IsCourseOf (type_form c.args.ty.now) c.args.size c.args.kinds c.in_ok-course.course =
    record { setting = c.in_ok-course.ensures.setting ∙ c.in_ok-setting.ensures; most = most; small = c.requires.small; fits = c.requires.sorted } in
    found_there (type_form c.args.ty.now) c.args.size c.args.kinds c.gone_through.new.course (design_form c.args.after.now) c.in-Some.last
    (course_on (type_form c.args.ty.now) c.args.size c.args.kinds c.in_ok-course.course c.gone_through.new.course is c.gone_through.ensures.alike) (rw c.in-Some.is at c.in_ok-gone_through.ensures.found)
