use Rattle.std.proofs.Common.{length, ◌-◌}
use Rattle.kat_grammar.specs.Views.{spot_of}
use Rattle.kat_grammar.proofs.Reading.{Read}
use Rattle.kat_grammar.proofs.reader.judge.Given as goal

abbrev pub invariant-tokens : goal.invariant-tokens
invariant-tokens l = Read l.tokens l.i l.nodes (spot_of l.reader)

abbrev pub decreases-tokens : goal.decreases-tokens
decreases-tokens l = length l.tokens - l.i
