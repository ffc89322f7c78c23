use Rattle.std.proofs.Common.{◌≡◌, ◌++◌, ◌∷◌, [], ℤ, pos, neg_ℤ, List, get_or, take, refl, sym, ap, ◌∙◌, arith, rules, subst, FitsSigned, to_z, of_z, IfOk, IsTrue, ◌↔◌}
use Rattle.std.specs.Int.{w32}
use Rattle.std.proofs.lemmas.Int.{to_z-of_z}
use Rattle.std.proofs.lemmas.List.{take_more, take_all, map-append, append_assoc}
use Rattle.std.proofs.lemmas.List.Elements.{Contains-append_left}
use Rattle.kat_clause.specs.Clauses.{Follows, opposites}
use Rattle.kat_clause.specs.Known.{Known}
use Rattle.kat_clause.specs.Literals.{IsUpTo}
use Rattle.kat_clause.proofs.Codes.{Contains-at, up_to_opposite}
use Rattle.kat_clause.proofs.Laws.{follows_more, among_itself}
use Rattle.kat_clause.proofs.Runs.{denied_line}
use Rattle.kat_clause.proofs.known.Clauses.deny.Goals as goal

pub returns-then-branch-clause-follows : goal.returns-then-branch-clause-follows
returns-then-branch-clause-follows c =
    let old = c.args.self.now in
    let at_base : Follows old.clauses (opposites old.assumed) = c.in_ok-propagate.ensures.falsified.0 c.if-branch.true in (
      λ _. follows_more old.clauses old.clauses (opposites old.assumed) (opposites old.assumed ++ c.args.line.now) (among_itself old.clauses)
          (λ k has. Contains-append_left (opposites old.assumed) c.args.line.now k has) at_base,
      λ _. refl,
    )

pub assume-requires : goal.assume-requires
assume-requires c =
    let literal = get_or c.args.line.now c.loop-literal.literal-index (pos 0) in
    let fits : FitsSigned w32 literal = search rules in
    let turned : FitsSigned w32 c.opposite.result = search rules in
    let is : c.opposite.result ≡ neg_ℤ literal = c.opposite.ensures ∙ ap neg_ℤ (to_z-of_z w32 literal fits) in
    let up_to : IsUpTo c.args.self.now.greatest literal = c.requires literal (Contains-at c.args.line.now c.loop-literal.literal-index (omega arith)) in
    rw (to_z-of_z w32 c.opposite.result turned, is, c.loop-literal.invariant.1) (up_to_opposite c.args.self.now.greatest literal up_to)

pub loop-literal-preserved : goal.loop-literal-preserved
loop-literal-preserved c =
    let line = c.args.line.now in
    let old = c.args.self.now in
    let i = c.loop-literal.literal-index in
    let literal = get_or line i (pos 0) in
    let fits : FitsSigned w32 literal = search rules in
    let turned : FitsSigned w32 c.opposite.result = search rules in
    let is : to_z w32 (of_z w32 c.opposite.result) ≡ neg_ℤ literal = to_z-of_z w32 c.opposite.result turned ∙ c.opposite.ensures ∙ ap neg_ℤ (to_z-of_z w32 literal fits) in
    let new = c.in_ok-assume.ensures.ok in
    let assumed : c.assume.new.self.assumed ≡ c.loop-literal.self.assumed ++ to_z w32 (of_z w32 c.opposite.result) ∷ [] = ap (λ (v : Known). v.assumed) new in (
      ap (λ (v : Known). v.clauses) new ∙ c.loop-literal.invariant.0,
      ap (λ (v : Known). v.greatest) new ∙ c.loop-literal.invariant.1,
      assumed
          ∙ ap (λ (before : List ℤ). before ++ to_z w32 (of_z w32 c.opposite.result) ∷ []) c.loop-literal.invariant.2
          ∙ ap (λ (k : ℤ). (old.assumed ++ opposites (take i line)) ++ k ∷ []) is
          ∙ append_assoc old.assumed (opposites (take i line)) (neg_ℤ literal ∷ [])
          ∙ ap (λ (ls : List ℤ). old.assumed ++ ls) (sym (ap opposites (take_more line i (pos 0) c.loop-literal-test.true) ∙ map-append neg_ℤ (take i line) (literal ∷ []))),
    )

pub returns-clause-follows : goal.returns-clause-follows
returns-clause-follows c =
    let line = c.args.line.now in
    let old = c.args.self.now in
    let same : opposites c.loop-literal.self.assumed ≡ opposites old.assumed ++ line =
    ap opposites (c.loop-literal.invariant.2 ∙ ap (λ (ls : List ℤ). old.assumed ++ opposites ls) (take_all c.loop-literal.literal-index line c.loop-literal-test.false)) ∙ denied_line old.assumed line in
    let P : List ℤ → Type 0 = λ ls. IfOk c.propagate-2.result (λ follows. IsTrue follows ↔ Follows c.loop-literal.self.clauses ls) in
    let Q : List (List ℤ) → Type 0 = λ clauses. IfOk c.propagate-2.result (λ follows. IsTrue follows ↔ Follows clauses (opposites old.assumed ++ line)) in
    subst Q c.loop-literal.invariant.0 (subst P same c.propagate-2.ensures.falsified)
