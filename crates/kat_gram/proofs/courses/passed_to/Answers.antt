use Rattle.kat_gram.specs.Enumerations.{most_of, stream_in}
use Rattle.kat_gram.proofs.CourseLemmas.{passed_from_mark}
use Rattle.kat_gram.proofs.courses.passed_to.Goals as goal

pub returns-in_ok-enumeration-in-Some : goal.returns-in_ok-enumeration-in-Some
returns-in_ok-enumeration-in-Some c =
    passed_from_mark c.in_ok-setting.setting c.args.course.now.enumeration.search.setting (most_of c.args.course.now.enumeration) c.args.number c.in-Some.mark.now.number
    (stream_in c.in_ok-enumeration-in-Some.enumeration) c.passed_on-in-Some.result c.passed_on-in-Some.ensures c.in-Some.ensures.before c.in_ok-enumeration-in-Some.ensures c.in_ok-setting.ensures
