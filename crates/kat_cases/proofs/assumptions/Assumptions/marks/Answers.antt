use Rattle.std.proofs.Common.{◌≡◌, ◌↔◌, true, IsTrue, ap, ◌∙◌, subst}
use Rattle.kat_clause.specs.Clauses.{Derived, opposites}
use Rattle.kat_clause.specs.Literals.{has_of}
use Rattle.kat_clause.specs.Known.{Known}
use Rattle.kat_cases.specs.Assuming.{assumed_in, kept_in}
use Rattle.kat_cases.proofs.Assuming.{settled_derives}
use Rattle.kat_cases.proofs.assumptions.Assumptions.marks.Goals as goal

pub returns : goal.returns
returns c = λ k.
    let inside = c.self.inside in
    let on : inside.settled ≡ true = ap (λ (v : Known). v.settled) c.self.view_is ∙ c.requires.settled in
    let told = settled_derives inside.watches (assumed_in inside.levels.items) (kept_in inside.levels.items) inside.clash inside.settled on c.tells_supported.ensures.supported c.self.invariant k in
    let P : Known → Type 0 = λ v. IsTrue (has_of c.marks.result.now k) ↔ Derived v.clauses (opposites v.assumed) k in
    subst P c.self.view_is (λ t. told.0 ((c.marks.ensures k).0 t), λ d. (c.marks.ensures k).1 (told.1 d))
