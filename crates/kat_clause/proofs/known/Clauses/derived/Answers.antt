use Rattle.std.proofs.Common.{◌↔◌, ℤ, List, sym, ap, ◌∙◌, subst, Contains}
use Rattle.kat_clause.specs.Clauses.{Derived, lists, opposites}
use Rattle.kat_clause.specs.Known.{Known}
use Rattle.kat_clause.specs.Levels.{assumed_in}
use Rattle.kat_clause.proofs.Levels.{lists_it}
use Rattle.kat_clause.proofs.known.Clauses.derived.Goals as goal

pub returns : goal.returns
returns c =
    let inside = c.self.inside in
    let told = lists_it (lists inside.clauses.items) (assumed_in inside.levels.items) inside.set (c.self.invariant.done (ap (λ (v : Known). v.settled) c.self.view_is ∙ c.requires.settled)) c.self.invariant.holds in
    let P : Known → Type 0 = λ v. (k : ℤ) → Contains inside.set.trail.items k ↔ Derived v.clauses (opposites v.assumed) k in
    let Q : List ℤ → Type 0 = λ trail. (k : ℤ) → Contains trail k ↔ Derived c.args.self.now.clauses (opposites c.args.self.now.assumed) k in
    subst Q (sym c.deref.ensures.value) (subst P c.self.view_is told)
