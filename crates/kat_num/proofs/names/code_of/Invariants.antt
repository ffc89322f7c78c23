use Rattle.std.proofs.Common.{◌≡◌, ◌^◌, ◌<◌, take}
use Rattle.kat_num.specs.Names.{big_endian}
use Rattle.kat_num.proofs.names.code_of.Given as goal

abbrev pub invariant-loop-byte : goal.invariant-loop-byte
invariant-loop-byte l = (l.code ≡ big_endian (take l.byte-index l.bytes)) × (l.code < 256 ^ l.byte-index)
