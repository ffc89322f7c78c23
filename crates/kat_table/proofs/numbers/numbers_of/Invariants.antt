use Rattle.std.proofs.Common.{◌≡◌, List, true}
use Rattle.kat_table.specs.Numbers.{AreNumbersOf}
use Rattle.kat_table.proofs.numbers.numbers_of.Given as goal

abbrev pub invariant-loop-word : goal.invariant-loop-word
invariant-loop-word g l = (numbers : List _) × AreNumbersOf g.T.TryFrom.try_from_gives l.yielded numbers × (l.has_room ≡ true → l.found.items ≡ numbers)
