use Rattle.std.proofs.Common.{◌+◌, ◌-◌, ◌≤◌, length}
use Rattle.kat_gram.specs.Listings.{given_of, to_come}
use Rattle.kat_cli.specs.Listing.{ArePassed}
use Rattle.kat_cli.proofs.ListWriting.{Going}
use Rattle.kat_cli.proofs.list_command.write_designs.Given as goal

abbrev pub invariant-designs : goal.invariant-designs
invariant-designs g l = record {
  going : Going l.fn.most (l.fn.most - l.written) (l.written + 1) (to_come l.fn.listing) (to_come l.listing) (g.K.Sink.written l.fn.out) (g.K.Sink.written l.out);
  passed : ArePassed (to_come l.listing);
  given : length (given_of l.listing) ≤ l.written;
  later : g.K.Sink.faults l.fn.out ≤ g.K.Sink.faults l.out;
}
