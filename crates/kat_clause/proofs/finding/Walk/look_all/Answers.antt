use Rattle.std.proofs.Common.{◌+◌, ℕ, List, drop, subst}
use Rattle.kat_clause.specs.Clauses.{lists}
use Rattle.kat_clause.specs.Findings.{AreNoticed}
use Rattle.kat_clause.proofs.WalkSteps.{SameSet-trans, numbers_at}
use Rattle.kat_clause.proofs.finding.Walk.look_all.Goals as goal

pub look-requires-clause-below : goal.look-requires-clause-below
look-requires-clause-below c = rw c.loop-number.invariant.0.marks c.requires.below

pub loop-number-preserved : goal.loop-number-preserved
loop-number-preserved c =
    let numbers = c.args.numbers.now in
    let i = c.loop-number.number-index in
    let P : List ℕ → Type 0 = λ ns. AreNoticed (lists c.args.clauses.now) ns c.loop-number.self in (
      SameSet-trans c.args.self.now.set c.loop-number.self.set c.look.new.self.set c.loop-number.invariant.0 c.in_ok-look.ensures.set,
      c.in_ok-look.ensures.walk,
      λ before. c.in_ok-look.ensures.noticed (drop (i + 1) numbers) (subst P (numbers_at numbers i c.loop-number-test.true) (c.loop-number.invariant.2 before)),
    )
