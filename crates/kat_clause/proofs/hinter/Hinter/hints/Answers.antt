use Rattle.std.proofs.Common.{◌≡◌, ◌+◌, ◌*◌, ℕ, ℤ, List, length, sym, ap, ◌∙◌, Vec, subst, IfOk}
use Rattle.std.specs.Global.{Global}
use Rattle.kat_clause.specs.Clauses.{lists}
use Rattle.kat_clause.specs.Tables.{rows, IsBelow}
use Rattle.kat_clause.specs.Findings.{AreShortAmong, IsHintsOf}
use Rattle.kat_clause.specs.Numberings.{Numbering}
use Rattle.kat_clause.proofs.Indexes.{below_size}
use Rattle.kat_clause.proofs.HintSets.{result_of_sets}
use Rattle.kat_clause.proofs.hinter.Hinter.hints.Goals as goal

pub find_hints-requires-clause-short : goal.find_hints-requires-clause-short
find_hints-requires-clause-short c =
    let inside = c.self.inside in
    let P : List (Vec ℤ Global) → Type 0 = λ clauses. AreShortAmong (lists clauses) inside.short.items in
    let Q : List ℕ → Type 0 = AreShortAmong (lists c.deref.result.now) in
    subst Q (sym c.deref-3.ensures.value) (subst P (sym c.deref.ensures.value) c.self.invariant.listed)

pub find_hints-requires-clause-line : goal.find_hints-requires-clause-line
find_hints-requires-clause-line c = λ k has.
    let greatest : c.self.inside.greatest ≡ c.args.self.now.greatest = ap (λ (n : Numbering). n.greatest) c.self.view_is in
    let size : length (rows c.deref-2.result.now) ≡ 2 * c.args.self.now.greatest + 2 = ap (λ (t : List (Vec ℕ Global)). length (rows t)) c.deref-2.ensures.value ∙ c.self.invariant.size ∙ ap (λ (g : ℕ). 2 * g + 2) greatest in
    let P : ℕ → Type 0 = λ n. IsBelow n k in
    subst P (sym size) (below_size c.args.self.now.greatest k (c.requires k has))

pub returns : goal.returns
returns c =
    let inside = c.self.inside in
    let line = c.args.line.now in
    let P : List (List ℤ) → Type 0 = λ sets. IfOk c.find_hints.result (IsHintsOf sets line) in
    let Q : List (List ℤ) → Type 0 = λ clauses. IfOk c.find_hints.result (IsHintsOf clauses line) in
    let found : IfOk c.find_hints.result (IsHintsOf (lists inside.sets.items) line) = subst P (ap lists c.deref.ensures.value) c.find_hints.ensures in
    subst Q (ap (λ (n : Numbering). n.clauses) c.self.view_is) (result_of_sets (lists inside.clauses.items) (lists inside.sets.items) line c.find_hints.result c.self.invariant.are_sets found)
