use Rattle.std.proofs.Common.{ℤ, List, sym, subst, Contains}
use Rattle.kat_clause.specs.Known.{Known}
use Rattle.kat_watch.specs.Watched.{IsLiteral}
use Rattle.kat_cases.proofs.assumptions.Assumptions.add.Goals as goal

pub add-requires-clause-literals : goal.add-requires-clause-literals
add-requires-clause-literals c = λ k has.
    let P : List ℤ → Type 0 = λ xs. Contains xs k in
    let Q : Known → Type 0 = λ v. IsLiteral v.greatest k in
    subst Q (sym c.self.view_is) (c.requires.literals k ((c.in_ok-once.ensures.same k).0 (subst P c.deref.ensures.value has)))
