use Rattle.std.proofs.Common.{◌≡◌, take, map}
use Rattle.kat_form.specs.Facts.{facts_of}
use Rattle.kat_symbols.specs.Connectives.{denied}
use Rattle.kat_symbols.proofs.connectives.+deny.Given as goal

abbrev pub invariant-all_denied-loop-part : goal.invariant-all_denied-loop-part
invariant-all_denied-loop-part l = facts_of l.opposites.items ≡ map denied (facts_of (take l.part-index l.parts))
