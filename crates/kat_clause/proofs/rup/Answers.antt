use Rattle.std.proofs.Common.{◌≡◌, ◌+◌, ◌++◌, ◌∷◌, [], take, List, ℤ, sym, ap, ◌∙◌, arith, IfOk, IsTrue, ◌↔◌, subst}
use Rattle.std.proofs.lemmas.List.{length-map, take_more, take_all}
use Rattle.std.proofs.lemmas.List.Elements.{All-get_or}
use Rattle.kat_clause.specs.Clauses.{lists, Follows, AreAmong, opposites}
use Rattle.kat_clause.specs.Known.{Known, AreUpTo}
use Rattle.kat_clause.specs.Tables.{clause_at}
use Rattle.kat_clause.proofs.Laws.{among_itself, among_push, members_back, same_members, follows_sets}
use Rattle.kat_clause.proofs.Runs.{clause_lists, below_lists, if_ok_same}
use Rattle.kat_clause.proofs.rup.Goals as goal

pub loop-clause-init : goal.loop-clause-init
loop-clause-init c =
    let greatest : c.in_ok-known.known.greatest ≡ c.greatest_of.result = ap (λ (k : Known). k.greatest) c.in_ok-known.ensures in
    let clauses : c.in_ok-known.known.clauses ≡ [] = ap (λ (k : Known). k.clauses) c.in_ok-known.ensures in
    let assumed : c.in_ok-known.known.assumed ≡ [] = ap (λ (k : Known). k.assumed) c.in_ok-known.ensures in
    (rw clauses (among_itself []), rw clauses (among_itself []), assumed, rw greatest c.greatest_of.ensures.line, rw greatest c.greatest_of.ensures.clauses)

pub add-requires : goal.add-requires
add-requires c =
    let i = c.loop-clause.clause-index in
    let at : clause_at (lists c.args.clauses.now) i ≡ c.deref.result.now = clause_lists c.args.clauses.now i c.clause-item.result (omega arith) c.clause-item.is ∙ sym c.deref.ensures.value in
    let P : List ℤ → Type 0 = AreUpTo c.loop-clause.known.greatest in
    subst P at (All-get_or P (lists c.args.clauses.now) i [] (below_lists c.args.clauses.now i (omega arith)) c.loop-clause.invariant.4)

pub loop-clause-preserved : goal.loop-clause-preserved
loop-clause-preserved c =
    let i = c.loop-clause.clause-index in
    let all = lists c.args.clauses.now in
    let at : clause_at all i ≡ c.deref.result.now = clause_lists c.args.clauses.now i c.clause-item.result (omega arith) c.clause-item.is ∙ sym c.deref.ensures.value in
    let adds = c.in_ok-add.ensures.ok in
    let greatest : c.add.new.self.greatest ≡ c.loop-clause.known.greatest = ap (λ (k : Known). k.greatest) adds.is in
    let assumed : c.add.new.self.assumed ≡ [] = ap (λ (k : Known). k.assumed) adds.is ∙ c.loop-clause.invariant.2 in
    let clauses : c.add.new.self.clauses ≡ c.loop-clause.known.clauses ++ adds.added ∷ [] = ap (λ (k : Known). k.clauses) adds.is in
    let front : take (i + 1) all ≡ take i all ++ c.deref.result.now ∷ [] = take_more all i [] (below_lists c.args.clauses.now i (omega arith)) ∙ ap (λ (clause : List ℤ). take i all ++ clause ∷ []) at in (
      rw (clauses, front) (among_push c.loop-clause.known.clauses (take i all) adds.added c.deref.result.now adds.same c.loop-clause.invariant.0),
      rw (clauses, front) (among_push (take i all) c.loop-clause.known.clauses c.deref.result.now adds.added (members_back adds.added c.deref.result.now adds.same) c.loop-clause.invariant.1),
      assumed,
      rw greatest c.loop-clause.invariant.3,
      rw greatest c.loop-clause.invariant.4,
    )

pub returns : goal.returns
returns c =
    let known = c.loop-clause.known in
    let all = lists c.args.clauses.now in
    let line = c.args.line.now in
    let whole : take c.loop-clause.clause-index all ≡ all = take_all c.loop-clause.clause-index all (omega (arith, length-map c.args.clauses.now (λ v. v.items))) in
    let few : AreAmong known.clauses all = rw whole at c.loop-clause.invariant.0 in
    let many : AreAmong all known.clauses = rw whole at c.loop-clause.invariant.1 in
    let P : List ℤ → Type 0 = λ assumed. IfOk c.follows.result (λ follows. IsTrue follows ↔ Follows known.clauses (opposites assumed ++ line)) in
    let answer : IfOk c.follows.result (λ follows. IsTrue follows ↔ Follows known.clauses line) = subst P c.loop-clause.invariant.2 c.follows.ensures.follows in
    if_ok_same (Follows known.clauses line) (Follows all line) c.follows.result (follows_sets known.clauses all line line few many (same_members line), follows_sets all known.clauses line line many few (same_members line)) answer
