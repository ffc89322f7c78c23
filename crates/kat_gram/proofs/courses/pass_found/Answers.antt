use Rattle.std.proofs.Common.{◌+◌, refl}
use Rattle.kat_gram.proofs.CourseLemmas.{passed_found}
use Rattle.kat_gram.proofs.courses.pass_found.Goals as goal

pub returns-clause-course : goal.returns-clause-course
returns-clause-course c = record {
  at = passed_found c.args.course.now.enumeration c.args.course.now.number (c.args.course.now.number + 1) c.requires.found refl c.requires.course.at;
  marks = c.set_mark.ensures;
}
