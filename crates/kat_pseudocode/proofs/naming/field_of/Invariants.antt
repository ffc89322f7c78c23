use Rattle.std.proofs.Common.{◌≡◌, length}
use Rattle.kat_pseudocode.specs.Naming.{field_of}
use Rattle.kat_pseudocode.proofs.naming.field_of.Given as goal

abbrev pub invariant-conjuncts : goal.invariant-conjuncts
invariant-conjuncts l = field_of l.component l.rest ≡ field_of l.component l.fn.relation

abbrev pub decreases-conjuncts : goal.decreases-conjuncts
decreases-conjuncts l = length l.rest
