use Rattle.std.proofs.Common.{◌≡◌, ℤ, List, sym, ◌∙◌, subst, Contains}
use Rattle.kat_clause.specs.Clauses.{lists}
use Rattle.kat_clause.specs.Tables.{clause_at}
use Rattle.kat_clause.proofs.Runs.{clause_lists, below_lists}
use Rattle.kat_clause.proofs.finding.given.Goals as goal

pub given_by-requires-clause-below : goal.given_by-requires-clause-below
given_by-requires-clause-below c = λ k has.
    let clauses = c.args.clauses.now in
    let number = c.args.number in
    let at : clause_at (lists clauses) number ≡ c.deref.result.now = clause_lists clauses number c.in-Some.clause.now c.in-Some.ensures.lookup.3.0 c.in-Some.ensures.lookup.1 ∙ sym c.deref.ensures.value in
    let P : List ℤ → Type 0 = λ clause. Contains clause k in
    c.requires.below number (below_lists clauses number c.in-Some.ensures.lookup.3.0) k (subst P (sym at) has)
