use Rattle.std.proofs.Common.{◌≡◌, drop}
use Rattle.kat_claims.specs.Groups.{with_each}
use Rattle.kat_symbols.specs.Views.{reader_of}
use Rattle.kat_vc.proofs.keys.state_with_each.Given as goal

abbrev pub invariant-loop-other : goal.invariant-loop-other
invariant-loop-other g l = with_each (g.S.ReadSide.side l.side) l.places l.one (drop l.other-index l.others) (reader_of l.reader) ≡ with_each (g.S.ReadSide.side l.side) l.places l.one l.others (reader_of l.fn.reader)
