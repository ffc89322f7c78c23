use Rattle.std.proofs.Common.{◌≡◌, drop}
use Rattle.kat_claims.specs.Groups.{naturals_stated}
use Rattle.kat_symbols.specs.Views.{reader_of}
use Rattle.kat_claims.proofs.groups.state_naturals.Given as goal

abbrev pub invariant-loop-name : goal.invariant-loop-name
invariant-loop-name l = naturals_stated (drop l.name-index l.names) (reader_of l.reader) ≡ naturals_stated l.names (reader_of l.fn.reader)
