use Rattle.std.proofs.Common.{◌≡◌, ◌++◌, take}
use Rattle.kat_picture.specs.Escaping.{escaped}
use Rattle.kat_picture.proofs.escaping.push_escaped.Given as goal

abbrev pub invariant-loop-byte : goal.invariant-loop-byte
invariant-loop-byte l = l.into.items ≡ l.fn.into.items ++ escaped (take l.byte-index l.text)
