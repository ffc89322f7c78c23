use Rattle.std.proofs.Common.{length, drop, ◌-◌, ◌≡◌}
use Rattle.kat_grammar.specs.Marks.{is_second}
use Rattle.kat_grammar.proofs.formats.is_second.Given as goal

abbrev pub invariant-blank : goal.invariant-blank
invariant-blank l = is_second (drop l.i l.tokens) ≡ is_second l.tokens

abbrev pub decreases-blank : goal.decreases-blank
decreases-blank l = length l.tokens - l.i
