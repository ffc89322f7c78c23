use Rattle.std.proofs.Common.{◌≡◌, ◌++◌, ◌∷◌, ℤ, pos, neg_ℤ, List, [], length, take, get_or, false, sym, ap, ◌∙◌, ◌<◌, subst, rules, FitsSigned, to_z, of_z}
use Rattle.std.specs.Int.{w32}
use Rattle.std.proofs.lemmas.Int.{to_z-of_z}
use Rattle.std.proofs.lemmas.List.{take_more, take_all}
use Rattle.kat_clause.specs.Clauses.{SameMembers, opposites}
use Rattle.kat_clause.specs.Literals.{code_of}
use Rattle.kat_clause.specs.Tables.{rows, IsMarked}
use Rattle.kat_clause.proofs.Codes.{Contains-at}
use Rattle.kat_clause.proofs.HintTests.{in_nothing}
use Rattle.kat_clause.proofs.ReadingSteps.{deny_again, deny_more, small_literal}
use Rattle.kat_clause.proofs.WalkSteps.{marked_read}
use Rattle.kat_clause.proofs.finding.Walk.deny.Goals as goal

pub opposite-denial-requires : goal.opposite-denial-requires
opposite-denial-requires c =
    let line = c.args.line.now in
    let i = c.loop-literal.literal-index in
    let literal = get_or line i (pos 0) in
    let fits : FitsSigned w32 literal = search rules in
    rw (to_z-of_z w32 literal fits) (small_literal literal (length (rows c.args.table.now)) (c.requires.line literal (Contains-at line i c.loop-literal-test.true)).0 c.requires.limit)

pub loop-literal-preserved-then-index : goal.loop-literal-preserved-then-index
loop-literal-preserved-then-index c =
    let line = c.args.line.now in
    let i = c.loop-literal.literal-index in
    let literal = get_or line i (pos 0) in
    let old = c.loop-literal.self in
    let fits : FitsSigned w32 literal = search rules in
    let out : FitsSigned w32 c.opposite-denial.result = search rules in
    let is : to_z w32 (of_z w32 c.opposite-denial.result) ≡ neg_ℤ literal = to_z-of_z w32 c.opposite-denial.result out ∙ c.opposite-denial.ensures ∙ ap neg_ℤ (to_z-of_z w32 literal fits) in
    let code : c.code.result ≡ code_of (neg_ℤ literal) = c.code.ensures ∙ ap code_of is in
    let below : code_of (neg_ℤ literal) < length old.set.marks.items = rw (c.loop-literal.invariant.0, c.requires.size) ((c.requires.line literal (Contains-at line i c.loop-literal-test.true)).1) in
    let marked : IsMarked old.set.marks.items (code_of (neg_ℤ literal)) = marked_read old.set.marks.items c.code.result (code_of (neg_ℤ literal)) c.index.result.now false c.index.ensures code below ∙ c.if-index.true in
    let P : List ℤ → Type 0 = λ front. SameMembers old.set.trail.items (c.args.self.now.set.trail.items ++ opposites front) in (
      c.loop-literal.invariant.0,
      c.loop-literal.invariant.1,
      subst P (sym (take_more line i (pos 0) c.loop-literal-test.true))
          (deny_again c.args.self.now.set.trail.items (take i line) literal old.set.trail.items c.loop-literal.invariant.2 (c.loop-literal.invariant.1.is_set.listed (neg_ℤ literal) marked)),
      c.loop-literal.invariant.3,
    )

pub loop-literal-preserved : goal.loop-literal-preserved
loop-literal-preserved c =
    let line = c.args.line.now in
    let i = c.loop-literal.literal-index in
    let literal = get_or line i (pos 0) in
    let old = c.loop-literal.self in
    let new = c.enter.new.self in
    let fits : FitsSigned w32 literal = search rules in
    let out : FitsSigned w32 c.opposite-denial.result = search rules in
    let is : to_z w32 (of_z w32 c.opposite-denial.result) ≡ neg_ℤ literal = to_z-of_z w32 c.opposite-denial.result out ∙ c.opposite-denial.ensures ∙ ap neg_ℤ (to_z-of_z w32 literal fits) in
    let Q : ℤ → Type 0 = λ k. SameMembers new.set.trail.items (old.set.trail.items ++ k ∷ []) in
    let P : List ℤ → Type 0 = λ front. SameMembers new.set.trail.items (c.args.self.now.set.trail.items ++ opposites front) in (
      c.in_ok-enter.ensures.size ∙ c.loop-literal.invariant.0,
      c.in_ok-enter.ensures.walk,
      subst P (sym (take_more line i (pos 0) c.loop-literal-test.true))
          (deny_more c.args.self.now.set.trail.items (take i line) literal old.set.trail.items new.set.trail.items c.loop-literal.invariant.2 (subst Q is c.in_ok-enter.ensures.entered)),
      λ before. c.in_ok-enter.ensures.noticed [] (λ j has. absurd (in_nothing j has)) (c.loop-literal.invariant.3 before),
    )

pub returns-clause-entered : goal.returns-clause-entered
returns-clause-entered c =
    let P : List ℤ → Type 0 = λ front. SameMembers c.loop-literal.self.set.trail.items (c.args.self.now.set.trail.items ++ opposites front) in
    subst P (take_all c.loop-literal.literal-index c.args.line.now c.loop-literal-test.false) c.loop-literal.invariant.2
