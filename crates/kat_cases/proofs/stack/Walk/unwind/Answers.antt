use Rattle.std.proofs.Common.{◌≡◌, ◌<◌, ◌^◌, ℤ, List, Option, IfSome, Vec, ap, sym, subst, ◌∙◌, arith, length}
use Rattle.std.specs.Global.{Global}
use Rattle.kat_clause.specs.Known.{AreUpTo}
use Rattle.kat_cases.specs.Guests.{IsPath}
use Rattle.kat_refute.specs.Lines.{Line}
use Rattle.kat_cases.specs.Walks.{WalkGives}
use Rattle.kat_cases.specs.Walks.Answer.{refuted}
use Rattle.kat_cases.specs.Stacks.{Progress, HasCore, Left, path_of}
use Rattle.kat_cases.proofs.Branches.{refutes}
use Rattle.kat_cases.proofs.Ways.{path_limit}
use Rattle.kat_cases.proofs.stack.Walk.unwind.Goals as goal

pub leave-requires : goal.leave-requires
leave-requires c =
    let P : Progress → Type 0 = λ p. AreUpTo (2 ^ 28) (path_of p.steps) in
    subst P c.in-Some.ensures (path_limit (2 ^ 28) (path_of c.loop-branch.self.steps) (c.loop-branch.invariant.path (2 ^ 28) c.requires))

pub loop-branch-smaller : goal.loop-branch-smaller
loop-branch-smaller c =
    let P : Option (Vec ℤ Global) → Type 0 = λ o. IfSome o (λ core. c.leave.new.self.steps ≡ c.pop.new.self.steps) in
    let same : c.leave.new.self.steps ≡ c.pop.new.self.steps = subst P c.in-Some-2.is c.in_ok-next.ensures.steps in
    let shorter : length c.leave.new.self.steps < length c.loop-branch.self.steps = omega (arith, ap length same, ap (λ (p : Progress). length p.steps) c.in-Some.ensures) in
    shorter

pub loop-branch-preserved : goal.loop-branch-preserved
loop-branch-preserved c = record {
  path = λ g h. (let P : Progress → Type 0 = λ p. IsPath g (path_of p.steps) in c.in_ok-next.ensures.path g (subst P c.in-Some.ensures (c.loop-branch.invariant.path g h)));
  leaves = c.in_ok-next.ensures.leaves ∙ sym (ap (λ (p : Progress). p.left) c.in-Some.ensures) ∙ c.loop-branch.invariant.leaves;
  goes = λ s effort h. (
      let P : Progress → Type 0 = λ p. HasCore s effort p c.loop-branch.core.items in
      let Q : Option (Vec ℤ Global) → Type 0 = Left s effort c.leave.new.self in
      subst Q c.in-Some-2.is (c.in_ok-next.ensures.left s effort (subst P c.in-Some.ensures (c.loop-branch.invariant.goes s effort h))));
}

pub returns-in-None-clause-unwound : goal.returns-in-None-clause-unwound
returns-in-None-clause-unwound c = λ s effort h.
    let P : Progress → Type 0 = λ p. HasCore s effort p c.loop-branch.core.items in
    let Q : Option (Vec ℤ Global) → Type 0 = Left s effort c.leave.new.self in
    subst Q c.in-None.is (c.in_ok-next.ensures.left s effort (subst P c.in-Some.ensures (c.loop-branch.invariant.goes s effort h)))

pub returns-clause-unwound : goal.returns-clause-unwound
returns-clause-unwound c = λ s effort h.
    let P : List Line → Type 0 = λ lines. WalkGives s effort (refuted lines) in
    subst P (sym (ap (λ (p : Progress). p.lines) c.in_default.ensures.1)) (refutes s effort c.loop-branch.self c.loop-branch.core.items c.in_default.ensures.0 (c.loop-branch.invariant.goes s effort h))

pub returns-in-None-clause-path : goal.returns-in-None-clause-path
returns-in-None-clause-path c = λ g h. (let P : Progress → Type 0 = λ p. IsPath g (path_of p.steps) in c.in_ok-next.ensures.path g (subst P c.in-Some.ensures (c.loop-branch.invariant.path g h)))

pub returns-clause-path : goal.returns-clause-path
returns-clause-path c = λ g h. (let P : Progress → Type 0 = λ p. IsPath g (path_of p.steps) in subst P (sym c.in_default.ensures.1) (c.loop-branch.invariant.path g h))
