use Rattle.std.proofs.Common.{◌≡◌, ◌+◌, ◌-◌, ◌∷◌, ◌++◌, ◌<◌, ℕ, ℤ, neg_ℤ, List, [], length, take, get_or, reverse, true, false, sym, ap, ◌∙◌, subst, arith, rules, FitsSigned}
use Rattle.std.specs.Int.{w32}
use Rattle.std.proofs.lemmas.Int.{to_z-of_z}
use Rattle.std.proofs.lemmas.Bool.{false≢true}
use Rattle.std.proofs.lemmas.List.{length-replicate, take_all}
use Rattle.kat_clause.specs.declared.finding.Step.{Step}
use Rattle.kat_clause.specs.Clauses.{lists}
use Rattle.kat_clause.specs.Literals.{code_of}
use Rattle.kat_clause.specs.Tables.{AreBelow}
use Rattle.kat_clause.specs.Findings.{IsNeeded, restored}
use Rattle.kat_clause.proofs.Runs.{unmarked_fresh}
use Rattle.kat_clause.proofs.WalkSteps.{marked_read}
use Rattle.kat_clause.proofs.WalkLaws.{needed_none, kept_less, kept_more, turned_push}
use Rattle.kat_clause.proofs.finding.shortened.Goals as goal

pub keep-requires-clause-below : goal.keep-requires-clause-below
keep-requires-clause-below c =
    let size : length c.in_ok-needed.needed.items ≡ c.args.size = ap length c.in_ok-needed.ensures ∙ length-replicate c.args.size false in
    let P : ℕ → Type 0 = λ n. AreBelow n (lists c.args.clauses.now) in
    subst P (sym size) c.requires.below

pub loop-done-init : goal.loop-done-init
loop-done-init c =
    let clauses = lists c.args.clauses.now in
    let steps = c.args.steps.now in
    let hint = c.args.last + 1 in
    let size : length c.in_ok-needed.needed.items ≡ c.args.size = ap length c.in_ok-needed.ensures ∙ length-replicate c.args.size false in
    let kept : c.keep.new.kept.items ≡ hint ∷ [] = c.in_ok-keep.ensures.kept ∙ ap (λ (xs : List ℕ). xs ++ hint ∷ []) c.new-kept.ensures.items in
    let turned : reverse c.keep.new.kept.items ≡ hint ∷ [] = ap reverse kept in
    let none : IsNeeded clauses c.in_ok-needed.needed.items [] = needed_none clauses c.in_ok-needed.needed.items (rw c.in_ok-needed.ensures (unmarked_fresh c.args.size)) in
    let P : List ℕ → Type 0 = IsNeeded clauses c.keep.new.needed.items in (
      c.in_ok-keep.ensures.size ∙ size,
      ap (λ (hs : List ℕ). restored clauses (take (length steps - 0) steps) hs) turned ∙ ap (λ (s : List Step). restored clauses s (hint ∷ [])) (take_all (length steps - 0) steps (omega arith)),
      subst P (sym turned) (c.in_ok-keep.ensures.needed [] none),
    )

pub loop-done-preserved-then-not-index : goal.loop-done-preserved-then-not-index
loop-done-preserved-then-not-index c =
    let clauses = lists c.args.clauses.now in
    let steps = c.args.steps.now in
    let done = c.loop-done.done in
    let step = c.step_before-step.result in
    let needed = c.loop-done.needed.items in
    let fits : FitsSigned w32 step.literal = search rules in
    let code : c.opposite_code.result ≡ code_of (neg_ℤ step.literal) = c.opposite_code.ensures ∙ ap (λ (k : ℤ). code_of (neg_ℤ k)) (to_z-of_z w32 step.literal fits) in
    let at : step ≡ get_or steps (length steps - 1 - done) step = c.step_before-step.ensures in
    let Q : Step → Type 0 = λ s. code_of (neg_ℤ s.literal) < c.args.size in
    let within : code_of (neg_ℤ step.literal) < c.args.size = subst Q (sym at) (c.requires.literals (length steps - 1 - done) step (omega arith)) in
    let below : code_of (neg_ℤ step.literal) < length needed = omega (arith, within, c.loop-done.invariant.0) in
    let free : get_or needed (code_of (neg_ℤ step.literal)) false ≡ false = marked_read needed c.opposite_code.result (code_of (neg_ℤ step.literal)) c.index.result.now false c.index.ensures code below ∙ c.if-not-index.true in (
      c.loop-done.invariant.0,
      kept_less clauses steps done step needed (reverse c.loop-done.kept.items) (restored clauses steps ((c.args.last + 1) ∷ [])) c.loop-done-test.true at (λ marked. false≢true (sym free ∙ marked)) c.loop-done.invariant.2 c.loop-done.invariant.1,
      c.loop-done.invariant.2,
    )

pub keep-requires-in-loop-done-clause-below : goal.keep-requires-in-loop-done-clause-below
keep-requires-in-loop-done-clause-below c =
    let P : ℕ → Type 0 = λ n. AreBelow n (lists c.args.clauses.now) in
    subst P (sym c.loop-done.invariant.0) c.requires.below

pub loop-done-preserved : goal.loop-done-preserved
loop-done-preserved c =
    let clauses = lists c.args.clauses.now in
    let steps = c.args.steps.now in
    let done = c.loop-done.done in
    let step = c.step_before-step.result in
    let needed = c.loop-done.needed.items in
    let new = c.keep-in-loop-done.new in
    let fits : FitsSigned w32 step.literal = search rules in
    let code : c.opposite_code.result ≡ code_of (neg_ℤ step.literal) = c.opposite_code.ensures ∙ ap (λ (k : ℤ). code_of (neg_ℤ k)) (to_z-of_z w32 step.literal fits) in
    let at : step ≡ get_or steps (length steps - 1 - done) step = c.step_before-step.ensures in
    let Q : Step → Type 0 = λ s. code_of (neg_ℤ s.literal) < c.args.size in
    let within : code_of (neg_ℤ step.literal) < c.args.size = subst Q (sym at) (c.requires.literals (length steps - 1 - done) step (omega arith)) in
    let below : code_of (neg_ℤ step.literal) < length needed = omega (arith, within, c.loop-done.invariant.0) in
    let marked : get_or needed (code_of (neg_ℤ step.literal)) false ≡ true = marked_read needed c.opposite_code.result (code_of (neg_ℤ step.literal)) c.index.result.now false c.index.ensures code below ∙ c.if-not-index.false in
    let turned : reverse new.kept.items ≡ (step.number + 1) ∷ reverse c.loop-done.kept.items = ap reverse c.in_ok-keep-2.ensures.kept ∙ turned_push c.loop-done.kept.items (step.number + 1) in
    let whole = restored clauses steps ((c.args.last + 1) ∷ []) in
    let P : List ℕ → Type 0 = λ hs. restored clauses (take (length steps - (done + 1)) steps) hs ≡ whole in
    let R : List ℕ → Type 0 = IsNeeded clauses new.needed.items in (
      c.in_ok-keep-2.ensures.size ∙ c.loop-done.invariant.0,
      subst P (sym turned) (kept_more clauses steps done step needed (reverse c.loop-done.kept.items) whole c.loop-done-test.true at marked c.loop-done.invariant.2 c.loop-done.invariant.1),
      subst R (sym turned) (c.in_ok-keep-2.ensures.needed (reverse c.loop-done.kept.items) c.loop-done.invariant.2),
    )
