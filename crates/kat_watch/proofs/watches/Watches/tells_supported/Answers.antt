use Rattle.kat_clause.specs.Clauses.{lists}
use Rattle.kat_watch.proofs.Calls.{apart_done, few_done, limit_done, once_done, open_done, supported_done}
use Rattle.kat_watch.proofs.watches.Watches.tells_supported.Goals as goal

pub returns-clause-limit : goal.returns-clause-limit
returns-clause-limit c = limit_done (lists c.self.inside.clauses.items) c.self.inside.shorts.items c.self.inside.links c.self.inside.set c.args.self.now c.self.view_is c.self.invariant

pub returns-clause-few : goal.returns-clause-few
returns-clause-few c = few_done (lists c.self.inside.clauses.items) c.self.inside.shorts.items c.self.inside.links c.self.inside.set c.args.self.now c.self.view_is c.self.invariant

pub returns-clause-supported : goal.returns-clause-supported
returns-clause-supported c = supported_done (lists c.self.inside.clauses.items) c.self.inside.shorts.items c.self.inside.links c.self.inside.set c.args.self.now c.self.view_is c.self.invariant

pub returns-clause-apart : goal.returns-clause-apart
returns-clause-apart c = apart_done (lists c.self.inside.clauses.items) c.self.inside.shorts.items c.self.inside.links c.self.inside.set c.args.self.now c.self.view_is c.self.invariant

pub returns-clause-once : goal.returns-clause-once
returns-clause-once c = once_done (lists c.self.inside.clauses.items) c.self.inside.shorts.items c.self.inside.links c.self.inside.set c.args.self.now c.self.view_is c.self.invariant

pub returns-clause-open : goal.returns-clause-open
returns-clause-open c = open_done (lists c.self.inside.clauses.items) c.self.inside.shorts.items c.self.inside.links c.self.inside.set c.args.self.now c.self.view_is c.self.invariant
