use Rattle.kat_clause.specs.Clauses.{lists}
use Rattle.kat_watch.proofs.Calls.{undo_kept, undo_looked, undo_done}
use Rattle.kat_watch.proofs.watches.Watches.undo.Goals as goal

pub leave-requires-clause-kept : goal.leave-requires-clause-kept
leave-requires-clause-kept c = undo_kept (lists c.self.inside.clauses.items) c.self.inside.set c.args.self.now c.args.kept c.self.view_is c.requires

pub leave-requires-clause-looked : goal.leave-requires-clause-looked
leave-requires-clause-looked c = undo_looked (lists c.self.inside.clauses.items) c.self.inside.shorts.items c.self.inside.links c.self.inside.set c.self.invariant

pub invariant_of-self : goal.invariant_of-self
invariant_of-self c =
    let inside = c.self.inside in
    (undo_done (lists inside.clauses.items) inside.shorts.items inside.links inside.set c.leave.new.self c.args.self.now c.args.kept c.self.view_is c.self.invariant c.requires c.leave.ensures).0

pub returns : goal.returns
returns c =
    let inside = c.self.inside in
    (undo_done (lists inside.clauses.items) inside.shorts.items inside.links inside.set c.leave.new.self c.args.self.now c.args.kept c.self.view_is c.self.invariant c.requires c.leave.ensures).1
