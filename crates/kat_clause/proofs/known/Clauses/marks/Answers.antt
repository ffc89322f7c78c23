use Rattle.std.proofs.Common.{◌↔◌, ℤ, List, Bool, IsTrue, sym, ap, ◌∙◌, subst}
use Rattle.kat_clause.specs.Clauses.{Derived, lists, opposites}
use Rattle.kat_clause.specs.Literals.{has_of}
use Rattle.kat_clause.specs.Known.{Known}
use Rattle.kat_clause.specs.Levels.{assumed_in}
use Rattle.kat_clause.proofs.Levels.{tells}
use Rattle.kat_clause.proofs.known.Clauses.marks.Goals as goal

pub returns : goal.returns
returns c =
    let inside = c.self.inside in
    let told = tells (lists inside.clauses.items) (assumed_in inside.levels.items) inside.set (c.self.invariant.done (ap (λ (v : Known). v.settled) c.self.view_is ∙ c.requires.settled)) c.self.invariant.holds in
    let P : Known → Type 0 = λ v. (k : ℤ) → IsTrue (has_of inside.set.marks.items k) ↔ Derived v.clauses (opposites v.assumed) k in
    let Q : List Bool → Type 0 = λ marks. (k : ℤ) → IsTrue (has_of marks k) ↔ Derived c.args.self.now.clauses (opposites c.args.self.now.assumed) k in
    subst Q (sym c.deref.ensures.value) (subst P c.self.view_is told)
