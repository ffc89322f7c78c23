use Rattle.std.proofs.Common.{◌≡◌, ℤ, List, [], take, get_or, Vec, All, refl, sym, ◌∙◌, arith, subst}
use Rattle.std.specs.Global.{Global}
use Rattle.std.proofs.lemmas.Bool.{false≢true}
use Rattle.std.proofs.lemmas.List.{length-map, take_all}
use Rattle.std.proofs.lemmas.List.Elements.{All-more, All-contains, All-get_or, Contains-get_or}
use Rattle.kat_clause.specs.Clauses.{lists}
use Rattle.kat_clause.specs.Tables.{clause_at}
use Rattle.kat_clause.proofs.Runs.{clause_lists, below_lists}
use Rattle.kat_form.specs.Encodings.{IsLiteral, HasLiterals}
use Rattle.kat_form.proofs.have_literals.Goals as goal

pub returns-then-not-are_literals : goal.returns-then-not-are_literals
returns-then-not-are_literals c =
    let i = c.loop-clause.clause-index in
    let clauses = lists c.args.clauses.now in
    let at : clause_at clauses i ≡ c.deref.result.now = clause_lists c.args.clauses.now i c.clause-item.result (omega arith) c.clause-item.is ∙ sym c.deref.ensures.value in
    let P : List ℤ → Type 0 = HasLiterals c.args.count in (
      λ e. absurd (false≢true e),
      λ all.
          let here : HasLiterals c.args.count c.deref.result.now = subst P at (All-get_or P clauses i [] (below_lists c.args.clauses.now i (omega arith)) all) in
          c.if-not-are_literals.ensures.1 (λ j d below. here (get_or c.deref.result.now j d) (Contains-get_or c.deref.result.now j d below)),
    )

pub loop-clause-preserved : goal.loop-clause-preserved
loop-clause-preserved c =
    let i = c.loop-clause.clause-index in
    let clauses = lists c.args.clauses.now in
    let at : clause_at clauses i ≡ c.deref.result.now = clause_lists c.args.clauses.now i c.clause-item.result (omega arith) c.clause-item.is ∙ sym c.deref.ensures.value in
    let P : List ℤ → Type 0 = HasLiterals c.args.count in
    let here : HasLiterals c.args.count c.deref.result.now = λ k has. All-contains (IsLiteral c.args.count) c.deref.result.now k (c.if-not-are_literals.ensures.0 refl) has in
    All-more P clauses i [] (below_lists c.args.clauses.now i (omega arith)) c.loop-clause.invariant (subst P (sym at) here)

pub returns : goal.returns
returns c =
    let P : List (List ℤ) → Type 0 = All (HasLiterals c.args.count) in
    let whole : take c.loop-clause.clause-index (lists c.args.clauses.now) ≡ lists c.args.clauses.now = take_all c.loop-clause.clause-index (lists c.args.clauses.now) (omega (arith, length-map c.args.clauses.now (λ (v : Vec ℤ Global). v.items))) in
    (λ _. subst P whole c.loop-clause.invariant, λ _. refl)
