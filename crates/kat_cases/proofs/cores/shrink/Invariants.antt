use Rattle.std.proofs.Common.{◌≡◌, ◌≤◌, length, take, option_map}
use Rattle.kat_cases.specs.Guests.{with_guest}
use Rattle.kat_resolution.proofs.Members.{IsWithin}
use Rattle.kat_cases.proofs.Tries.{GoesBack}
use Rattle.kat_cases.proofs.cores.shrink.Given as goal

abbrev pub invariant-back : goal.invariant-back
invariant-back l = record {
  within : l.i ≤ length l.path;
  longer : l.i ≤ length l.known.assumed;
  prefix : take l.i l.known.assumed ≡ take l.i l.path;
  clauses : l.known.clauses ≡ l.initial.known.clauses;
  greatest : l.known.greatest ≡ l.initial.known.greatest;
  stays : IsWithin l.stay.items l.path;
  goes : GoesBack (with_guest l.initial.known.clauses (option_map (λ g. g.now) l.guest)) l.path l.i l.stay.items;
}

abbrev pub decreases-back : goal.decreases-back
decreases-back l = l.i
