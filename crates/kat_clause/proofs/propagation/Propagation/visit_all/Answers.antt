use Rattle.std.proofs.Common.{◌≡◌, ◌<◌, ℤ, List, length, get_or, true, false, Ok, sym, ◌∙◌, subst, Contains}
use Rattle.kat_clause.specs.Clauses.{lists}
use Rattle.kat_clause.specs.Tables.{clause_at}
use Rattle.kat_clause.specs.Propagations.{Visits}
use Rattle.kat_clause.proofs.Runs.{visited_more, visited_all, visited_falsified, visited_fails, visits_fails, clause_lists, below_lists, Contains-clause}
use Rattle.kat_clause.proofs.propagation.Propagation.visit_all.Goals as goal

pub visit-requires : goal.visit-requires
visit-requires c = λ k has.
    let number = get_or c.args.numbers.now c.loop-number.number-index 0 in
    let at : clause_at (lists c.args.clauses.now) number ≡ c.deref.result.now = clause_lists c.args.clauses.now number c.in-Some.clause.now c.in-Some.ensures.lookup.3.0 c.in-Some.ensures.lookup.1 ∙ sym c.deref.ensures.value in
    let P : List ℤ → Type 0 = λ clause. Contains clause k in
    rw c.loop-number.invariant.both.grows.size (c.requires number (below_lists c.args.clauses.now number c.in-Some.ensures.lookup.3.0) k (subst P (sym at) has))

pub returns-then-branch : goal.returns-then-branch
returns-then-branch c =
    let number = get_or c.args.numbers.now c.loop-number.number-index 0 in
    let clauses = lists c.args.clauses.now in
    let at : clause_at clauses number ≡ c.deref.result.now = clause_lists c.args.clauses.now number c.in-Some.clause.now c.in-Some.ensures.lookup.3.0 c.in-Some.ensures.lookup.1 ∙ sym c.deref.ensures.value in
    let visited : Visits c.deref.result.now c.loop-number.self c.visit.new.self (Ok true) = rw c.if-branch.true at c.in_ok-visit.ensures in
    visited_falsified clauses c.args.numbers.now c.loop-number.number-index c.args.self.now c.loop-number.self c.visit.new.self c.loop-number.invariant c.deref.result.now
    (Contains-clause clauses number c.deref.result.now (below_lists c.args.clauses.now number c.in-Some.ensures.lookup.3.0) at) visited

pub loop-number-preserved : goal.loop-number-preserved
loop-number-preserved c =
    let number = get_or c.args.numbers.now c.loop-number.number-index 0 in
    let at : clause_at (lists c.args.clauses.now) number ≡ c.deref.result.now = clause_lists c.args.clauses.now number c.in-Some.clause.now c.in-Some.ensures.lookup.3.0 c.in-Some.ensures.lookup.1 ∙ sym c.deref.ensures.value in
    let below : number < length (lists c.args.clauses.now) = below_lists c.args.clauses.now number c.in-Some.ensures.lookup.3.0 in
    let visited : Visits c.deref.result.now c.loop-number.self c.visit.new.self (Ok false) = rw c.if-branch.false at c.in_ok-visit.ensures in
    let P : List ℤ → Type 0 = λ clause. Visits clause c.loop-number.self c.visit.new.self (Ok false) in
    let Q : List ℤ → Type 0 = Contains (lists c.args.clauses.now) in
    visited_more (lists c.args.clauses.now) c.args.numbers.now c.loop-number.number-index c.args.self.now c.loop-number.self c.visit.new.self c.loop-number.invariant below
    (subst Q (sym at) (Contains-clause (lists c.args.clauses.now) number c.deref.result.now below at))
    (subst P (sym at) visited)

pub returns : goal.returns
returns c = visited_all (lists c.args.clauses.now) c.args.numbers.now c.loop-number.number-index c.args.self.now c.loop-number.self c.loop-number-test.false c.loop-number.invariant

pub returns-in_err-visit : goal.returns-in_err-visit
returns-in_err-visit c = visits_fails (lists c.args.clauses.now) c.args.numbers.now c.args.self.now c.visit.new.self c.from_residual.result c.from_residual.ensures.0
    (visited_fails (lists c.args.clauses.now) c.args.numbers.now c.loop-number.number-index c.args.self.now c.loop-number.self c.visit.new.self c.loop-number.invariant c.in_err-visit.ensures)
