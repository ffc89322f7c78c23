use Rattle.std.proofs.Common.{ℤ, List, refl, ◌∙◌, subst}
use Rattle.kat_clause.specs.declared.finding.Walk.{Walk}
use Rattle.kat_clause.specs.Clauses.{lists}
use Rattle.kat_clause.specs.Choices.{Gives, IsFirst, IsNone}
use Rattle.kat_clause.proofs.WalkSteps.{popped_first, popped_noticed, dropped_noticed, none_queued, same_walk}
use Rattle.kat_clause.proofs.finding.Walk.next.Goals as goal

pub given-requires-clause-below : goal.given-requires-clause-below
given-requires-clause-below c = rw c.loop-number.invariant.0.marks c.requires.below

pub returns-in-Some-given-clause-none : goal.returns-in-Some-given-clause-none
returns-in-Some-given-clause-none c = λ before standing.
    let clauses = lists c.args.clauses.now in
    let P : List ℤ → Type 0 = λ trail. IsFirst (Gives trail) clauses c.in-Some.number in
    let found = c.in-Some-given.ensures in
    subst P c.loop-number.invariant.0.trail (popped_first clauses c.in-Some.number c.loop-number.self c.pop.new.self c.in-Some.ensures found.0 (c.in-Some-given.literal, found.1) (c.loop-number.invariant.3 before) (c.loop-number.invariant.1 ∙ standing))

pub returns-in-Some-given-clause-noticed : goal.returns-in-Some-given-clause-noticed
returns-in-Some-given-clause-noticed c = λ before.
    let clauses = lists c.args.clauses.now in
    let old = c.loop-number.self in
    let new : Walk = record { set = old.set; places = old.places; queue = c.pop.new.self; falsified = old.falsified } in
    popped_noticed clauses c.in-Some.number old new c.in-Some.ensures refl refl (c.loop-number.invariant.3 before)

pub loop-number-preserved : goal.loop-number-preserved
loop-number-preserved c =
    let clauses = lists c.args.clauses.now in
    let old = c.loop-number.self in
    let new : Walk = record { set = old.set; places = old.places; queue = c.pop.new.self; falsified = old.falsified } in (
      c.loop-number.invariant.0,
      c.loop-number.invariant.1,
      same_walk clauses old new refl refl refl refl c.loop-number.invariant.2,
      λ before. dropped_noticed clauses c.in-Some.number old new c.in-Some.ensures refl refl c.in_default-given.ensures (c.loop-number.invariant.3 before),
    )

pub returns-clause-none : goal.returns-clause-none
returns-clause-none c = λ before standing.
    let clauses = lists c.args.clauses.now in
    let P : List ℤ → Type 0 = λ trail. IsNone (Gives trail) clauses in
    subst P c.loop-number.invariant.0.trail (none_queued clauses c.loop-number.self c.in_default.ensures (c.loop-number.invariant.3 before) (c.loop-number.invariant.1 ∙ standing))
