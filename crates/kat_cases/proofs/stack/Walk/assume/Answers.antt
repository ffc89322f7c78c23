use Rattle.std.proofs.Common.{◌≡◌, ℕ, ℤ, neg_ℤ, Contains, [], ◌∷◌, ◌++◌, ap, sym, subst, ◌∙◌, arith, rules, FitsSigned, to_z, of_z}
use Rattle.std.specs.Int.{w32}
use Rattle.std.proofs.lemmas.Int.{to_z-of_z}
use Rattle.kat_clause.specs.Known.{Known}
use Rattle.kat_cases.specs.Stacks.{Progress, step_of, literal_of, path_of}
use Rattle.kat_watch.specs.Watched.{IsLiteral}
use Rattle.kat_cases.proofs.Branches.{path_back, branch_on, taken_more}
use Rattle.kat_cases.proofs.Ways.{path_literals, path_apart, taken_within}
use Rattle.kat_cases.proofs.stack.Walk.assume.Goals as goal

pub assume-requires-clause-literal : goal.assume-requires-clause-literal
assume-requires-clause-literal c =
    let fits : FitsSigned w32 c.literal.result = search rules in
    let branch = c.branch-item.result in
    let on = branch_on c.self.inside.branches.items c.deref-branch-items.result.now c.args.self.now.steps c.loop-branch.branch-index branch c.loop-branch-test.true c.branch-item.is c.deref-branch-items.ensures.value (ap (λ (p : Progress). p.steps) c.self.view_is) in
    let is = path_literals c.args.known.now.greatest (path_of c.args.self.now.steps) c.requires.path (literal_of (step_of branch)) on in
    let greatest : c.propagate-falsified.new.self.greatest ≡ c.args.known.now.greatest = ap (λ (k : Known). k.greatest) c.propagate-falsified.ensures.state ∙ c.loop-branch.invariant.2 in
    let P : ℤ → Type 0 = λ x. IsLiteral c.args.known.now.greatest x in
    let Q : ℕ → Type 0 = λ g. IsLiteral g c.literal.result in
    rw (to_z-of_z w32 c.literal.result fits) (subst Q (sym greatest) (subst P (sym c.literal.ensures) is))

pub assume-requires-clause-apart : goal.assume-requires-clause-apart
assume-requires-clause-apart c =
    let fits : FitsSigned w32 c.literal.result = search rules in
    let branch = c.branch-item.result in
    let steps = c.args.self.now.steps in
    let on = branch_on c.self.inside.branches.items c.deref-branch-items.result.now steps c.loop-branch.branch-index branch c.loop-branch-test.true c.branch-item.is c.deref-branch-items.ensures.value (ap (λ (p : Progress). p.steps) c.self.view_is) in
    let apart = path_apart c.args.known.now.greatest (path_of steps) c.requires.path (literal_of (step_of branch)) on in
    let assumed = ap (λ (k : Known). k.assumed) c.propagate-falsified.ensures.state ∙ c.loop-branch.invariant.0 in
    let P : ℤ → Type 0 = λ x. Contains c.propagate-falsified.new.self.assumed (neg_ℤ x) → ⊥ in
    rw (to_z-of_z w32 c.literal.result fits) (subst P (sym c.literal.ensures)
    (λ has. apart (taken_within c.self.inside.branches.items c.deref-branch-items.result.now steps c.propagate-falsified.new.self.assumed c.loop-branch.branch-index (neg_ℤ (literal_of (step_of branch))) assumed c.deref-branch-items.ensures.value (ap (λ (p : Progress). p.steps) c.self.view_is) has)))

pub loop-branch-preserved : goal.loop-branch-preserved
loop-branch-preserved c =
    let fits : FitsSigned w32 c.literal.result = search rules in (
      taken_more c.deref-branch-items.result.now c.loop-branch.branch-index c.branch-item.result c.loop-branch.known.assumed c.assume.new.self.assumed (to_z w32 (of_z w32 c.literal.result))
          c.loop-branch-test.true c.branch-item.is (to_z-of_z w32 c.literal.result fits ∙ c.literal.ensures)
          (ap (λ (k : Known). k.assumed) c.in_ok-assume.ensures.ok ∙ ap (λ (k : Known). k.assumed ++ to_z w32 (of_z w32 c.literal.result) ∷ []) c.propagate-falsified.ensures.state)
          c.loop-branch.invariant.0,
      ap (λ (k : Known). k.clauses) c.in_ok-assume.ensures.ok ∙ ap (λ (k : Known). k.clauses) c.propagate-falsified.ensures.state ∙ c.loop-branch.invariant.1,
      ap (λ (k : Known). k.greatest) c.in_ok-assume.ensures.ok ∙ ap (λ (k : Known). k.greatest) c.propagate-falsified.ensures.state ∙ c.loop-branch.invariant.2,
    )

pub returns : goal.returns
returns c = record {
  greatest = c.loop-branch.invariant.2;
  clauses = c.loop-branch.invariant.1;
  assumed = path_back c.loop-branch.known.assumed c.self.inside.branches.items c.deref-branch-items.result.now c.loop-branch.branch-index c.args.self.now.steps c.loop-branch.invariant.0 (omega arith) c.deref-branch-items.ensures.value (ap (λ (p : Progress). p.steps) c.self.view_is);
}
