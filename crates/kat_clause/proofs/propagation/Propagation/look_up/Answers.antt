use Rattle.std.proofs.Common.{◌≡◌, ◌<◌, ℕ, ℤ, neg_ℤ, List, [], length, get_or, true, false, Ok, refl, sym, ap, ◌∙◌, subst, arith, rules, FitsSigned}
use Rattle.std.specs.Int.{w32}
use Rattle.std.proofs.lemmas.Int.{to_z-of_z}
use Rattle.kat_clause.specs.Clauses.{lists}
use Rattle.kat_clause.specs.Literals.{code_of}
use Rattle.kat_clause.specs.Tables.{rows}
use Rattle.kat_clause.specs.Propagations.{VisitsAll}
use Rattle.kat_clause.proofs.Runs.{up_more, up_falsified, up_fails, looks_up_fails}
use Rattle.kat_clause.proofs.propagation.Propagation.look_up.Goals as goal

pub visit_all-requires : goal.visit_all-requires
visit_all-requires c = rw (c.loop-self.invariant.0, c.requires.size) c.requires.index.below

pub returns-in_err-visit_all : goal.returns-in_err-visit_all
returns-in_err-visit_all c = looks_up_fails (lists c.args.clauses.now) c.args.self.now c.visit_all.new.self c.from_residual.result c.from_residual.ensures.0
    (λ all. up_fails (lists c.args.clauses.now) c.args.self.now c.loop-self.self c.visit_all.new.self (rw c.loop-self.invariant.1 all) (c.loop-self.invariant.2 all) c.in_err-visit_all.ensures)

pub returns-then-branch : goal.returns-then-branch
returns-then-branch c = λ all.
    let visited : VisitsAll (lists c.args.clauses.now) c.row.result.now c.loop-self.self c.visit_all.new.self (Ok true) = rw c.if-branch.true at c.in_ok-visit_all.ensures in
    up_falsified (lists c.args.clauses.now) c.args.self.now c.loop-self.self c.visit_all.new.self (rw c.loop-self.invariant.1 all) (c.loop-self.invariant.2 all) visited

pub loop-self-preserved : goal.loop-self-preserved
loop-self-preserved c =
    let visited : VisitsAll (lists c.args.clauses.now) c.row.result.now c.loop-self.self c.visit_all.new.self (Ok false) = rw c.if-branch.false at c.in_ok-visit_all.ensures in
    let literal = c.index.result.now in
    let fits : FitsSigned w32 literal = search rules in
    let code : c.opposite_code-place.result ≡ code_of (neg_ℤ literal) = c.opposite_code-place.ensures ∙ ap (λ (k : ℤ). code_of (neg_ℤ k)) (to_z-of_z w32 literal fits) in
    let row : c.row.result.now ≡ get_or (rows c.args.table.now) (code_of (neg_ℤ literal)) [] = c.row.ensures ∙ ap (λ x. get_or (rows c.args.table.now) x []) code in
    let P : List ℕ → Type 0 = λ numbers. VisitsAll (lists c.args.clauses.now) numbers c.loop-self.self c.visit_all.new.self (Ok false) in
    let within : c.loop-self.self.looked < length c.loop-self.self.trail.items = omega (arith, c.len.ensures, c.loop-self-test.true) in (
      visited.0.grows.size ∙ c.loop-self.invariant.0,
      visited.0.grows.seen ∙ c.loop-self.invariant.1,
      λ all. up_more (lists c.args.clauses.now) (rows c.args.table.now) c.args.self.now c.loop-self.self c.visit_all.new.self _ literal c.requires.index (rw c.loop-self.invariant.1 all) (c.loop-self.invariant.2 all) within (sym c.index.ensures)
          (subst P row visited) refl refl refl refl,
    )
