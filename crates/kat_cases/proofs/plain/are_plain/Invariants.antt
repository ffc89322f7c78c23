use Rattle.std.proofs.Common.{All, take}
use Rattle.kat_refute.specs.Lines.{lines_of}
use Rattle.kat_cases.specs.Decisions.{HasEachOnce, HasNoHints}
use Rattle.kat_cases.proofs.plain.are_plain.Given as goal

abbrev pub invariant-loop-line : goal.invariant-loop-line
invariant-loop-line l = All HasEachOnce (take l.line-index (lines_of l.lines)) × All HasNoHints (take l.line-index (lines_of l.lines))
