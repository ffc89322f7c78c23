use Rattle.std.proofs.Common.{◌≡◌}
use Rattle.kat_gram.specs.Courses.{AreAlike, IsOnCourse}
use Rattle.kat_gram.proofs.CourseLemmas.{NotPassed}
use Rattle.kat_gram.proofs.courses.go_through.Given as goal

abbrev pub invariant-lists : goal.invariant-lists
invariant-lists l =
    IsOnCourse l.course × AreAlike l.fn.course.enumeration l.course.enumeration × (l.course.number ≡ l.counter) × NotPassed l.course.enumeration l.course.number l.wanted
