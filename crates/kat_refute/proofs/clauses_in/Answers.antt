use Rattle.std.proofs.Common.{◌≡◌, ◌<◌, ◌+◌, ◌++◌, ◌∷◌, [], length, take, List, ℤ, sym, ap, ◌∙◌, arith, subst, Contains}
use Rattle.std.proofs.lemmas.List.{length-map, take_more}
use Rattle.kat_clause.specs.Clauses.{lists}
use Rattle.kat_clause.specs.Tables.{AreSetsOf, clause_at}
use Rattle.kat_clause.specs.Known.{Known}
use Rattle.kat_clause.proofs.HintSets.{sets_push, sets_same}
use Rattle.kat_refute.proofs.HintedRuns.{reached, all_clauses}
use Rattle.kat_form.specs.Encodings.{IsLiteral, senses_of, sense_of}
use Rattle.kat_refute.proofs.clauses_in.Goals as goal

pub add-requires : goal.add-requires
add-requires c = λ k has.
    let i = c.loop-clause.clause-index in
    let clauses = lists c.args.encoded.now.clauses.items in
    let at : (i < length clauses) × (clause_at clauses i ≡ c.deref.result.now) = reached c.args.encoded.now.clauses.items c.deref-clause-items.result.now i c.clause-item.result c.deref.result.now c.deref-clause-items.ensures.value c.loop-clause-test.true c.clause-item.is c.deref.ensures.value in
    let P : List ℤ → Type 0 = λ clause. Contains clause k in
    let literal : IsLiteral (length (senses_of c.args.encoded.now.meanings.items)) k = c.requires.fit.literals i [] at.0 k (subst P (sym at.1) has) in
    let size : length (senses_of c.args.encoded.now.meanings.items) ≡ length c.args.encoded.now.meanings.items = length-map c.args.encoded.now.meanings.items sense_of in
    omega (arith, literal.1, size, c.loop-clause.invariant.0)

pub loop-clause-init : goal.loop-clause-init
loop-clause-init c =
    let new = c.in_ok-known.ensures in
    let clauses : c.in_ok-known.known.clauses ≡ [] = ap (λ (k : Known). k.clauses) new in (
      ap (λ (k : Known). k.greatest) new ∙ c.len.ensures ∙ c.args.encoded.now.meanings.ok.0,
      rw clauses (sets_same []),
      ap (λ (k : Known). k.assumed) new,
    )

pub loop-clause-preserved : goal.loop-clause-preserved
loop-clause-preserved c =
    let i = c.loop-clause.clause-index in
    let clauses = lists c.args.encoded.now.clauses.items in
    let at : (i < length clauses) × (clause_at clauses i ≡ c.deref.result.now) = reached c.args.encoded.now.clauses.items c.deref-clause-items.result.now i c.clause-item.result c.deref.result.now c.deref-clause-items.ensures.value c.loop-clause-test.true c.clause-item.is c.deref.ensures.value in
    let adds = c.in_ok-add.ensures.ok in
    let new : c.add.new.self.clauses ≡ c.loop-clause.known.clauses ++ adds.added ∷ [] = ap (λ (k : Known). k.clauses) adds.is in
    let front : take (i + 1) clauses ≡ take i clauses ++ c.deref.result.now ∷ [] = take_more clauses i [] at.0 ∙ ap (λ (clause : List ℤ). take i clauses ++ clause ∷ []) at.1 in (
      ap (λ (k : Known). k.greatest) adds.is ∙ c.loop-clause.invariant.0,
      rw (new, front) (sets_push (take i clauses) c.loop-clause.known.clauses c.deref.result.now adds.added adds.same c.loop-clause.invariant.1),
      ap (λ (k : Known). k.assumed) adds.is ∙ c.loop-clause.invariant.2,
    )

pub returns-clause-clauses : goal.returns-clause-clauses
returns-clause-clauses c =
    let P : List (List ℤ) → Type 0 = λ clauses. AreSetsOf clauses c.loop-clause.known.clauses in
    subst P (all_clauses c.deref-clause-items.result.now c.args.encoded.now.clauses.items c.loop-clause.clause-index c.deref-clause-items.ensures.value c.loop-clause-test.false) c.loop-clause.invariant.1
