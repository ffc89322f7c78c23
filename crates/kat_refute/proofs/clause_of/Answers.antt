use Rattle.std.proofs.Common.{◌≡◌, ◌-◌, sym, ◌∙◌, arith}
use Rattle.kat_clause.specs.Clauses.{lists}
use Rattle.kat_clause.specs.Tables.{clause_at}
use Rattle.kat_clause.proofs.Runs.{below_lists, clause_lists}
use Rattle.kat_refute.proofs.clause_of.Goals as goal

pub returns-in-Some : goal.returns-in-Some
returns-in-Some c =
    let clauses = c.args.clauses.now in
    let place = c.args.hint - 1 in
    let at : clause_at (lists clauses) place ≡ c.in-Some.clause.now.items = clause_lists clauses place c.in-Some.clause.now c.in-Some.ensures.lookup.3.0 c.in-Some.ensures.lookup.1 in
    (omega arith, omega (arith, below_lists clauses place c.in-Some.ensures.lookup.3.0), c.as_slice.ensures.value ∙ sym at)
