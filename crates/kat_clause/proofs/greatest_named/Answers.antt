use Rattle.std.proofs.Common.{◌≡◌, ℕ, ◌-◌, ◌≤◌, ℤ, List, take, get_or, sym, ◌∙◌, arith, subst, All}
use Rattle.std.proofs.lemmas.List.{take_all}
use Rattle.std.proofs.lemmas.List.Elements.{All-more, All-weaker}
use Rattle.kat_clause.specs.Clauses.{lists}
use Rattle.kat_clause.specs.Hints.{numbered}
use Rattle.kat_clause.specs.Known.{AreUpTo}
use Rattle.kat_clause.proofs.Runs.{clause_lists}
use Rattle.kat_clause.proofs.greatest_named.Goals as goal

more : (a b : ℕ) → a ≤ b → (clause : List ℤ) → AreUpTo a clause → AreUpTo b clause
more a b h clause up = λ k has. omega (arith, up k has)

pub loop-hint-preserved : goal.loop-hint-preserved
loop-hint-preserved c =
    let g = c.greatest_in-greatest-in-loop-hint.result in
    let i = c.loop-hint.hint-index in
    let clauses = lists c.args.clauses.now in
    let hints = c.args.hints.now in
    let there = c.requires i 0 c.loop-hint-test.true in
    let at : numbered clauses (get_or hints i 0) ≡ c.deref.result.now = clause_lists c.args.clauses.now (get_or hints i 0 - 1) c.index-clauses-hint.result (omega (arith, there.0, there.1)) c.index-clauses-hint.is ∙ sym c.deref.ensures.value in
    let grown = more c.loop-hint.greatest g c.greatest_in-greatest-in-loop-hint.ensures.at_least in
    let P : List ℤ → Type 0 = AreUpTo g in (
      grown c.args.line.now c.loop-hint.invariant.0,
      All-more (λ hint. AreUpTo g (numbered clauses hint)) hints i 0 c.loop-hint-test.true
          (All-weaker (λ hint. AreUpTo c.loop-hint.greatest (numbered clauses hint)) (λ hint. AreUpTo g (numbered clauses hint)) (λ hint. grown (numbered clauses hint)) (take i hints) c.loop-hint.invariant.1)
          (subst P (sym at) c.greatest_in-greatest-in-loop-hint.ensures.up_to),
    )

pub returns-clause-clauses : goal.returns-clause-clauses
returns-clause-clauses c =
    let P : List ℕ → Type 0 = All (λ hint. AreUpTo c.loop-hint.greatest (numbered (lists c.args.clauses.now) hint)) in
    subst P (take_all c.loop-hint.hint-index c.args.hints.now c.loop-hint-test.false) c.loop-hint.invariant.1
