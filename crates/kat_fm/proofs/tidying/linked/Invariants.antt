use Rattle.std.proofs.Common.{◌≤◌, length}
use Rattle.kat_fm.specs.Lists.{AreLinked}
use Rattle.kat_fm.proofs.tidying.linked.Given as goal

abbrev pub invariant-back : goal.invariant-back
invariant-back l = record {
  within : l.place ≤ length l.numbers;
  linked : AreLinked l.numbers l.place l.links.first.items l.links.next.items;
}

abbrev pub decreases-back : goal.decreases-back
decreases-back l = l.place
