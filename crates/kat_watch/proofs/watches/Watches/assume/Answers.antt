use Rattle.std.proofs.Common.{ℤ, None, rules, subst, FitsSigned}
use Rattle.std.specs.Int.{w32}
use Rattle.std.proofs.lemmas.Int.{to_z-of_z}
use Rattle.kat_clause.specs.Clauses.{lists}
use Rattle.kat_watch.specs.States.{Enters}
use Rattle.kat_watch.proofs.Calls.{assume_room, assume_done}
use Rattle.kat_watch.proofs.watches.Watches.assume.Goals as goal

pub enter-requires-clause-room : goal.enter-requires-clause-room
enter-requires-clause-room c =
    assume_room (lists c.self.inside.clauses.items) c.self.inside.shorts.items c.self.inside.links c.self.inside.set c.args.self.now c.args.literal c.self.view_is c.self.invariant c.requires.literal c.requires.open

pub invariant_of-self : goal.invariant_of-self
invariant_of-self c =
    let inside = c.self.inside in
    let fits : FitsSigned w32 c.args.literal = search rules in
    let R : ℤ → Type 0 = λ z. Enters inside.set c.enter.new.self z None in
    (assume_done (lists inside.clauses.items) inside.shorts.items inside.links inside.set c.enter.new.self c.args.self.now c.args.literal c.self.view_is c.self.invariant c.requires.literal c.requires.open (subst R (to_z-of_z w32 c.args.literal fits) c.enter.ensures)).0

pub returns : goal.returns
returns c =
    let inside = c.self.inside in
    let fits : FitsSigned w32 c.args.literal = search rules in
    let R : ℤ → Type 0 = λ z. Enters inside.set c.enter.new.self z None in
    (assume_done (lists inside.clauses.items) inside.shorts.items inside.links inside.set c.enter.new.self c.args.self.now c.args.literal c.self.view_is c.self.invariant c.requires.literal c.requires.open (subst R (to_z-of_z w32 c.args.literal fits) c.enter.ensures)).1
