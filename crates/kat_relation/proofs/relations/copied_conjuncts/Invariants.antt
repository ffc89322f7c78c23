use Rattle.std.proofs.Common.{◌≡◌, take}
use Rattle.kat_relation.proofs.relations.copied_conjuncts.Given as goal

abbrev pub invariant-loop-conjunct : goal.invariant-loop-conjunct
invariant-loop-conjunct l = l.copies.items ≡ take l.conjunct-index l.conjuncts
