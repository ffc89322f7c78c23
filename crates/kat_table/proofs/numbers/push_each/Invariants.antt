use Rattle.std.proofs.Common.{◌≡◌, ◌++◌, ◌∷◌, take}
use Rattle.std.specs.List.{flat_map}
use Rattle.kat_table.proofs.numbers.push_each.Given as goal

abbrev pub invariant-loop-number : goal.invariant-loop-number
invariant-loop-number g l = l.into.items ≡ l.fn.into.items ++ flat_map (λ number. 32 ∷ g.N.Integer.text number) (take l.number-index l.numbers)
