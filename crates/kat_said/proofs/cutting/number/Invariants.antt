use Rattle.std.proofs.Common.{◌≡◌, ◌<◌, ◌^◌, drop}
use Rattle.kat_said.specs.Guesses.{number_after, number_in}
use Rattle.kat_said.proofs.cutting.number.Given as goal

abbrev pub invariant-loop-byte : goal.invariant-loop-byte
invariant-loop-byte l = record {
  value : number_after l.number (drop l.byte-index l.bytes) ≡ number_in l.bytes;
  small : l.number < 2 ^ 127;
}
