use Rattle.std.proofs.Common.{◌≡◌}
use Rattle.kat_gram.specs.Courses.{AreAlike, IsSound}
use Rattle.kat_gram.specs.Enumerations.{stream_in, steps}
use Rattle.kat_gram.proofs.enumerating.find.Given as goal

abbrev pub invariant-loop-alloc : goal.invariant-loop-alloc
invariant-loop-alloc l = (stream_in l.enumeration ≡ stream_in l.fn.enumeration) × (IsSound l.fn.enumeration → IsSound l.enumeration) × AreAlike l.fn.enumeration l.enumeration

abbrev pub decreases-loop-alloc : goal.decreases-loop-alloc
decreases-loop-alloc l = steps l.enumeration
