use Rattle.std.proofs.Common.{◌≡◌, ℤ, List, [], take, Vec, All, refl, sym, ◌∙◌, arith, subst}
use Rattle.std.specs.Global.{Global}
use Rattle.std.proofs.lemmas.List.{length-map, take_all}
use Rattle.std.proofs.lemmas.List.Elements.{All-more}
use Rattle.kat_clause.specs.Clauses.{lists}
use Rattle.kat_clause.specs.Tables.{clause_at}
use Rattle.kat_clause.specs.Valuations.{IsTrueClause}
use Rattle.kat_clause.proofs.Runs.{clause_lists, below_lists}
use Rattle.kat_point.specs.Values.{value_at}
use Rattle.kat_point.proofs.checking.are_true.Goals as goal

pub loop-clause-preserved : goal.loop-clause-preserved
loop-clause-preserved c =
    let i = c.loop-clause.clause-index in
    let clauses = lists c.args.clauses.now in
    let at : clause_at clauses i ≡ c.deref.result.now = clause_lists c.args.clauses.now i c.clause-item.result (omega arith) c.clause-item.is ∙ sym c.deref.ensures.value in
    let P : List ℤ → Type 0 = IsTrueClause (value_at c.args.values.now) in
    All-more P clauses i [] (below_lists c.args.clauses.now i (omega arith)) c.loop-clause.invariant (subst P (sym at) (c.if-not-is_true_clause.ensures refl))

pub returns : goal.returns
returns c =
    let P : List (List ℤ) → Type 0 = All (IsTrueClause (value_at c.args.values.now)) in
    let whole : take c.loop-clause.clause-index (lists c.args.clauses.now) ≡ lists c.args.clauses.now = take_all c.loop-clause.clause-index (lists c.args.clauses.now) (omega (arith, length-map c.args.clauses.now (λ (v : Vec ℤ Global). v.items))) in
    λ _. subst P whole c.loop-clause.invariant
