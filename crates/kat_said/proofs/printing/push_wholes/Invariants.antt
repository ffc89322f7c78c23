use Rattle.std.proofs.Common.{◌≡◌, ◌++◌, take}
use Rattle.std.specs.List.{flat_map}
use Rattle.kat_said.specs.Sayings.{behind_blank}
use Rattle.kat_said.proofs.printing.push_wholes.Given as goal

abbrev pub invariant-loop-z : goal.invariant-loop-z
invariant-loop-z l = l.into.items ≡ l.fn.into.items ++ flat_map behind_blank (take l.z-index l.zs)
