use Rattle.std.proofs.Common.{◌++◌, List, ℤ, All, refl, IfOk, IsTrue, ◌↔◌, subst}
use Rattle.kat_clause.specs.Clauses.{Follows, opposites}
use Rattle.kat_clause.proofs.Runs.{if_ok_same}
use Rattle.kat_form.specs.Encodings.{IsLiteral}
use Rattle.kat_refute.proofs.is_propagated.Goals as goal

pub returns-clause-propagated : goal.returns-clause-propagated
returns-clause-propagated c =
    let clauses = c.args.known.now.clauses in
    let literals = c.args.literals.now in
    let all : All (IsLiteral c.args.count) literals = c.if-not-are_literals.ensures.0 refl in
    let P : List ℤ → Type 0 = λ assumed. IfOk c.follows.result (λ follows. IsTrue follows ↔ Follows clauses (opposites assumed ++ literals)) in
    let answer : IfOk c.follows.result (λ follows. IsTrue follows ↔ Follows clauses literals) = subst P c.requires.assumed c.follows.ensures.follows in
    if_ok_same (Follows clauses literals) (All (IsLiteral c.args.count) literals × Follows clauses literals) c.follows.result (λ f. (all, f), λ both. both.1) answer
