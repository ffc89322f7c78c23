use Rattle.std.proofs.Common.{◌≡◌, ℕ, ◌≤◌, ℤ, List, [], take, sym, ◌∙◌, arith, subst, All}
use Rattle.std.proofs.lemmas.List.{take_all, length-map}
use Rattle.std.proofs.lemmas.List.Elements.{All-more, All-weaker}
use Rattle.kat_clause.specs.Clauses.{lists}
use Rattle.kat_clause.specs.Tables.{clause_at}
use Rattle.kat_clause.specs.Known.{AreUpTo}
use Rattle.kat_clause.proofs.Runs.{clause_lists, below_lists}
use Rattle.kat_clause.proofs.greatest_of.Goals as goal

more : (a b : ℕ) → a ≤ b → (clause : List ℤ) → AreUpTo a clause → AreUpTo b clause
more a b h clause up = λ k has. omega (arith, up k has)

pub loop-clause-preserved : goal.loop-clause-preserved
loop-clause-preserved c =
    let g = c.greatest_in-greatest-in-loop-clause.result in
    let i = c.loop-clause.clause-index in
    let clauses = lists c.args.clauses.now in
    let grown = more c.loop-clause.greatest g c.greatest_in-greatest-in-loop-clause.ensures.at_least in
    let at : clause_at clauses i ≡ c.deref.result.now = clause_lists c.args.clauses.now i c.clause-item.result (omega arith) c.clause-item.is ∙ sym c.deref.ensures.value in
    let P : List ℤ → Type 0 = AreUpTo g in (
      grown c.args.line.now c.loop-clause.invariant.0,
      All-more (AreUpTo g) clauses i [] (below_lists c.args.clauses.now i (omega arith)) (All-weaker (AreUpTo c.loop-clause.greatest) (AreUpTo g) grown (take i clauses) c.loop-clause.invariant.1)
          (subst P (sym at) c.greatest_in-greatest-in-loop-clause.ensures.up_to),
    )

pub returns-clause-clauses : goal.returns-clause-clauses
returns-clause-clauses c =
    let whole : take c.loop-clause.clause-index (lists c.args.clauses.now) ≡ lists c.args.clauses.now = take_all c.loop-clause.clause-index (lists c.args.clauses.now) (omega (arith, length-map c.args.clauses.now (λ v. v.items))) in
    let P : List (List ℤ) → Type 0 = All (AreUpTo c.loop-clause.greatest) in
    subst P whole c.loop-clause.invariant.1
