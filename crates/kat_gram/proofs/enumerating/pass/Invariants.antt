use Rattle.std.proofs.Common.{◌≡◌}
use Rattle.kat_gram.specs.Enumerations.{passed, stream_in}
use Rattle.kat_gram.proofs.enumerating.pass.Given as goal

abbrev pub invariant-loop-i : goal.invariant-loop-i
invariant-loop-i l = stream_in l.enumeration ≡ passed l.i (stream_in l.fn.enumeration)
