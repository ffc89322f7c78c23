use Rattle.std.proofs.Common.{◌≡◌, ◌+◌, drop, option_map}
use Rattle.kat_symbols.specs.Readers.{place_in}
use Rattle.kat_symbols.proofs.readers.place_in.Given as goal

abbrev pub invariant-loop-i : goal.invariant-loop-i
invariant-loop-i l = option_map (λ k. l.i + k) (place_in l.name (drop l.i l.flags)) ≡ place_in l.name l.flags
