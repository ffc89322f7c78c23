use Rattle.std.proofs.Common.{◌≡◌, ◌≤◌, ◌*◌, length, map, take}
use Rattle.std.specs.Prelude.{sum_by}
use Rattle.kat_refute.specs.Lines.{lines_of}
use Rattle.kat_explain.proofs.pages.count_lines.Given as goal

abbrev pub invariant-loop-lines : goal.invariant-loop-lines
invariant-loop-lines l = (l.count ≡ sum_by length (map lines_of (take l.lines-index l.proof))) × (l.count ≤ l.lines-index * 18446744073709551616)
