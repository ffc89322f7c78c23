use Rattle.std.proofs.Common.{◌≡◌, ◌<◌, ◌↔◌, length, get_or, false, IsTrue, sym, ap, ◌∙◌, rules, subst, FitsSigned}
use Rattle.std.specs.Int.{w32}
use Rattle.std.proofs.lemmas.Int.{to_z-of_z}
use Rattle.std.proofs.lemmas.List.{get_or_default}
use Rattle.kat_clause.specs.Clauses.{Derived, lists, opposites}
use Rattle.kat_clause.specs.Literals.{code_of, IsUpTo}
use Rattle.kat_clause.specs.Known.{Known}
use Rattle.kat_clause.specs.Levels.{assumed_in}
use Rattle.kat_clause.proofs.Indexes.{below_size}
use Rattle.kat_clause.proofs.Levels.{tells}
use Rattle.kat_clause.proofs.known.Clauses.has.Goals as goal

pub returns : goal.returns
returns c =
    let inside = c.self.inside in
    let literal = c.args.literal in
    let fits : FitsSigned w32 literal = search rules in
    let code : c.code.result ≡ code_of literal = c.code.ensures ∙ ap code_of (to_z-of_z w32 literal fits) in
    let up_to : IsUpTo inside.greatest literal = rw (sym (ap (λ (v : Known). v.greatest) c.self.view_is)) at c.requires.up_to in
    let below : code_of literal < length inside.set.marks.items = rw c.self.invariant.marks (below_size inside.greatest literal up_to).0 in
    let mark : c.index.result.now ≡ get_or inside.set.marks.items (code_of literal) false =
    c.index.ensures ∙ ap (λ x. get_or inside.set.marks.items x c.index.result.now) code ∙ get_or_default inside.set.marks.items (code_of literal) c.index.result.now false below in
    let told = tells (lists inside.clauses.items) (assumed_in inside.levels.items) inside.set (c.self.invariant.done (ap (λ (v : Known). v.settled) c.self.view_is ∙ c.requires.settled)) c.self.invariant.holds literal in
    let P : Known → Type 0 = λ v. IsTrue c.index.result.now ↔ Derived v.clauses (opposites v.assumed) literal in
    subst P c.self.view_is (λ is. told.0 (sym mark ∙ is), λ derived. mark ∙ told.1 derived)
