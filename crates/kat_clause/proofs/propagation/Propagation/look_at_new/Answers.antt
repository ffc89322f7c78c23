use Rattle.std.proofs.Common.{◌≡◌, ℤ, List, true, false, Ok, refl, sym, ◌∙◌, subst, Contains}
use Rattle.kat_clause.specs.Clauses.{lists}
use Rattle.kat_clause.specs.Tables.{clause_at}
use Rattle.kat_clause.specs.Propagations.{Visits}
use Rattle.kat_clause.proofs.Runs.{clause_lists, below_lists, new_more, new_falsified, new_fails, looks_new_fails}
use Rattle.kat_clause.proofs.propagation.Propagation.look_at_new.Goals as goal

pub visit-requires : goal.visit-requires
visit-requires c = λ k has.
    let number = c.loop-self.self.seen in
    let at : clause_at (lists c.args.clauses.now) number ≡ c.deref.result.now = clause_lists c.args.clauses.now number c.index-clauses-self.result c.loop-self-test.true c.index-clauses-self.is ∙ sym c.deref.ensures.value in
    let P : List ℤ → Type 0 = λ clause. Contains clause k in
    rw c.loop-self.invariant.size (c.requires number (below_lists c.args.clauses.now number c.loop-self-test.true) k (subst P (sym at) has))

pub returns-in_err-visit : goal.returns-in_err-visit
returns-in_err-visit c = looks_new_fails (lists c.args.clauses.now) c.args.self.now c.visit.new.self c.from_residual.result c.from_residual.ensures.0
    (new_fails (lists c.args.clauses.now) c.args.self.now c.loop-self.self c.visit.new.self c.loop-self.invariant c.in_err-visit.ensures)

pub returns-then-branch : goal.returns-then-branch
returns-then-branch c =
    let clauses = lists c.args.clauses.now in
    let number = c.loop-self.self.seen in
    let at : clause_at clauses number ≡ c.deref.result.now = clause_lists c.args.clauses.now number c.index-clauses-self.result c.loop-self-test.true c.index-clauses-self.is ∙ sym c.deref.ensures.value in
    let visited : Visits c.deref.result.now c.loop-self.self c.visit.new.self (Ok true) = rw c.if-branch.true at c.in_ok-visit.ensures in
    let P : List ℤ → Type 0 = λ clause. Visits clause c.loop-self.self c.visit.new.self (Ok true) in
    new_falsified clauses c.args.self.now c.loop-self.self c.visit.new.self c.loop-self.invariant (below_lists c.args.clauses.now number c.loop-self-test.true) (subst P (sym at) visited)

pub loop-self-preserved : goal.loop-self-preserved
loop-self-preserved c =
    let clauses = lists c.args.clauses.now in
    let number = c.loop-self.self.seen in
    let at : clause_at clauses number ≡ c.deref.result.now = clause_lists c.args.clauses.now number c.index-clauses-self.result c.loop-self-test.true c.index-clauses-self.is ∙ sym c.deref.ensures.value in
    let visited : Visits c.deref.result.now c.loop-self.self c.visit.new.self (Ok false) = rw c.if-branch.false at c.in_ok-visit.ensures in
    let P : List ℤ → Type 0 = λ clause. Visits clause c.loop-self.self c.visit.new.self (Ok false) in
    new_more clauses c.args.self.now c.loop-self.self c.visit.new.self _ c.loop-self.invariant (below_lists c.args.clauses.now number c.loop-self-test.true) (subst P (sym at) visited) refl refl refl refl
