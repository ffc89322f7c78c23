use Rattle.std.proofs.Common.{◌≡◌, ◌++◌, take}
use Rattle.kat_telling.specs.Reports.{wholes_text}
use Rattle.kat_telling.proofs.report.push_wholes.Given as goal

abbrev pub invariant-loop-z : goal.invariant-loop-z
invariant-loop-z l = l.into.items ≡ l.fn.into.items ++ wholes_text (take l.z-index l.zs)
