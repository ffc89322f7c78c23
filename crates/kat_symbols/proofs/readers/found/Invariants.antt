use Rattle.std.proofs.Common.{◌≡◌, drop, map}
use Rattle.kat_symbols.specs.Readers.{found}
use Rattle.kat_symbols.specs.Views.{kept_form}
use Rattle.kat_symbols.proofs.readers.found.Given as goal

abbrev pub invariant-loop-entry : goal.invariant-loop-entry
invariant-loop-entry l = found l.name (map kept_form (drop l.entry-index l.kept)) ≡ found l.name (map kept_form l.kept)
