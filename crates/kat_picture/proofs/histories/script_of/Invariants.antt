use Rattle.std.proofs.Common.{◌≡◌, ◌++◌, take}
use Rattle.std.specs.Prelude.{codes, map}
use Rattle.kat_picture.specs.Histories.{script_byte}
use Rattle.kat_picture.proofs.histories.script_of.Given as goal

abbrev pub invariant-loop-byte : goal.invariant-loop-byte
invariant-loop-byte l = l.script.items ≡ codes "replicas 2\n" ++ map script_byte (take l.byte-index l.operations)
