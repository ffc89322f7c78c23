use Rattle.std.proofs.Common.{◌-◌, length}
use Rattle.kat_lex.proofs.LineReading.{ReadsLine}
use Rattle.kat_lex.proofs.lines.push_line.Given as goal

abbrev pub invariant-loop-place : goal.invariant-loop-place
invariant-loop-place l = ReadsLine l.bytes l.at l.place l.initial.into.items l.into.items

abbrev pub decreases-loop-place : goal.decreases-loop-place
decreases-loop-place l = length l.bytes - l.place
