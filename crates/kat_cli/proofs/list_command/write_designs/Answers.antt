use Rattle.std.proofs.Common.{◌+◌, ◌-◌, arith}
use Rattle.kat_gram.specs.Listings.{to_come}
use Rattle.kat_cli.proofs.Ending.{on_err}
use Rattle.kat_cli.proofs.ListWriting.{going_cut, going_on, passed_on}
use Rattle.kat_cli.proofs.list_command.write_designs.Goals as goal

pub returns-in_err-write_next-clause-err : goal.returns-in_err-write_next-clause-err
returns-in_err-write_next-clause-err g c =
    on_err c.from_residual.result _
    (going_cut c.args.most (c.args.most - c.designs.written) (c.designs.written + 1) (c.args.most - (c.designs.written + 1))
    (to_come c.args.listing.now) (to_come c.designs.listing) (g.K.Sink.written c.args.out.now) (g.K.Sink.written c.designs.out) (g.K.Sink.written c.write_next.new.out)
    (omega (arith, c.designs-test.true)) c.designs.invariant.going c.in_err-write_next.ensures.err)

pub designs-preserved : goal.designs-preserved
designs-preserved g c = record {
  going =
      going_on c.args.most (c.args.most - c.designs.written) (c.designs.written + 1) (c.args.most - (c.designs.written + 1)) (c.designs.written + 1 + 1)
      (to_come c.args.listing.now) (to_come c.designs.listing) (to_come c.write_next.new.listing)
      (g.K.Sink.written c.args.out.now) (g.K.Sink.written c.designs.out) (g.K.Sink.written c.write_next.new.out) c.in_ok-write_next.field-0
      (omega (arith, c.designs-test.true)) (omega arith) c.if-not-branch.false c.designs.invariant.going c.in_ok-write_next.ensures.ok;
  passed = passed_on _ _ _ _ _ _ c.in_ok-write_next.ensures.ok c.if-not-branch.false c.designs.invariant.passed;
  given = omega (arith, c.designs.invariant.given, c.write_next.ensures.given);
  later = omega (arith, c.designs.invariant.later, c.write_next.ensures.later);
}
