use Rattle.std.proofs.Common.{◌≡◌, take}
use Rattle.kat_script.specs.Marks.{marks_of}
use Rattle.kat_script.proofs.marks.fill_marks.Given as goal

abbrev pub invariant-loop-token : goal.invariant-loop-token
invariant-loop-token l = l.into.items ≡ marks_of (take l.token-index l.tokens)
