use Rattle.std.proofs.Common.{◌≡◌, ◌+◌, drop, option_map}
use Rattle.kat_symbols.specs.Readers.{place_of}
use Rattle.kat_symbols.proofs.readers.place_of.Given as goal

abbrev pub invariant-loop-i : goal.invariant-loop-i
invariant-loop-i l = option_map (λ k. l.i + k) (place_of l.name (drop l.i l.slots)) ≡ place_of l.name l.slots
