use Rattle.std.proofs.Common.{get_or, refl, arith}
use Rattle.kat_clause.specs.Clauses.{lists}
use Rattle.kat_watch.proofs.Passes.{passing_start, passing_more, passing_conflict, passing_end}
use Rattle.kat_watch.proofs.walking.pass_shorts.Goals as goal

pub shorts-init : goal.shorts-init
shorts-init c = passing_start (lists c.args.clauses.now) c.args.shorts.now c.args.links.now c.args.set.now c.requires

pub pass_short-requires-clause-core : goal.pass_short-requires-clause-core
pass_short-requires-clause-core c = c.shorts.invariant.state.core

pub pass_short-requires-clause-number : goal.pass_short-requires-clause-number
pass_short-requires-clause-number c = (c.shorts.invariant.state.passed.numbers c.shorts.set.seen c.shorts-test.true).0

pub pass_short-requires-clause-short : goal.pass_short-requires-clause-short
pass_short-requires-clause-short c = (c.shorts.invariant.state.passed.numbers c.shorts.set.seen c.shorts-test.true).1

pub returns-then-pass_short : goal.returns-then-pass_short
returns-then-pass_short c =
    passing_conflict (lists c.args.clauses.now) c.args.shorts.now c.args.links.now c.args.set.now c.shorts.set c.pass_short.new.set (get_or c.args.shorts.now c.shorts.set.seen 0) c.pass_short.result c.shorts.invariant c.if-pass_short.true c.pass_short.ensures

pub shorts-preserved : goal.shorts-preserved
shorts-preserved c =
    passing_more (lists c.args.clauses.now) c.args.shorts.now c.args.links.now c.args.set.now c.shorts.set c.pass_short.new.set (get_or c.args.shorts.now c.shorts.set.seen 0) c.pass_short.result _ (omega (arith, c.len-set.ensures, c.pass_short.new.set.trail.ok.0)) c.shorts.invariant c.shorts-test.true refl c.if-pass_short.false c.pass_short.ensures

pub returns : goal.returns
returns c = passing_end (lists c.args.clauses.now) c.args.shorts.now c.args.links.now c.args.set.now c.shorts.set c.shorts-test.false c.shorts.invariant
