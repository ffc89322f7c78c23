use Rattle.std.proofs.Common.{◌≡◌, take}
use Rattle.kat_form.specs.Facts.{facts_of}
use Rattle.kat_symbols.proofs.connectives.+copy.Given as goal

abbrev pub invariant-all_copied-loop-part : goal.invariant-all_copied-loop-part
invariant-all_copied-loop-part l = facts_of l.copies.items ≡ facts_of (take l.part-index l.parts)
