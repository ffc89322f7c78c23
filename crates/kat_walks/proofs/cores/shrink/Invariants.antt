use Rattle.std.proofs.Common.{◌≡◌, ◌≤◌, length, take}
use Rattle.kat_clause.specs.Known.{AreUpTo}
use Rattle.kat_walks.proofs.Tries.{GoesBack}
use Rattle.kat_walks.proofs.cores.shrink.Given as goal

abbrev pub invariant-back : goal.invariant-back
invariant-back l = record {
  within : l.i ≤ length l.path;
  longer : l.i ≤ length l.known.assumed;
  prefix : take l.i l.known.assumed ≡ take l.i l.path;
  clauses : l.known.clauses ≡ l.initial.known.clauses;
  greatest : l.known.greatest ≡ l.initial.known.greatest;
  up_to : AreUpTo l.known.greatest l.stay.items;
  goes : GoesBack l.initial.known.clauses l.path l.i l.stay.items;
}

abbrev pub decreases-back : goal.decreases-back
decreases-back l = l.i
