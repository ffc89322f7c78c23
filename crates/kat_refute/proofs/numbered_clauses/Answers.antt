use Rattle.std.proofs.Common.{◌≡◌, ◌+◌, ◌<◌, ◌++◌, ◌∷◌, List, ℤ, [], length, take, ap, ◌∙◌, sym, subst, arith, Contains}
use Rattle.std.proofs.lemmas.List.{take_more}
use Rattle.kat_clause.specs.Clauses.{lists}
use Rattle.kat_clause.specs.Tables.{clause_at}
use Rattle.kat_clause.specs.Numberings.{Numbering}
use Rattle.kat_form.specs.Encodings.{senses_of, IsLiteral}
use Rattle.kat_refute.proofs.HintedRuns.{reached, numbering_more}
use Rattle.kat_refute.proofs.numbered_clauses.Goals as goal

pub add-requires : goal.add-requires
add-requires c = λ k has.
    let i = c.loop-clause.clause-index in
    let clauses = lists c.args.encoded.now.clauses.items in
    let at : (i < length clauses) × (clause_at clauses i ≡ c.deref.result.now) = reached c.args.encoded.now.clauses.items c.deref-clause-items.result.now i c.clause-item.result c.deref.result.now c.deref-clause-items.ensures.value c.loop-clause-test.true c.clause-item.is c.deref.ensures.value in
    let P : List ℤ → Type 0 = λ clause. Contains clause k in
    let literal : IsLiteral (length (senses_of c.args.encoded.now.meanings.items)) k = c.requires.fit.literals i [] at.0 k (subst P (sym at.1) has) in
    let greatest : c.loop-clause.hinter.greatest ≡ length (senses_of c.args.encoded.now.meanings.items) = ap (λ (n : Numbering). n.greatest) c.loop-clause.invariant in
    omega (arith, literal.1, greatest)

pub loop-clause-preserved : goal.loop-clause-preserved
loop-clause-preserved c =
    let i = c.loop-clause.clause-index in
    let clauses = lists c.args.encoded.now.clauses.items in
    let at : (i < length clauses) × (clause_at clauses i ≡ c.deref.result.now) = reached c.args.encoded.now.clauses.items c.deref-clause-items.result.now i c.clause-item.result c.deref.result.now c.deref-clause-items.ensures.value c.loop-clause-test.true c.clause-item.is c.deref.ensures.value in
    let front : take (i + 1) clauses ≡ take i clauses ++ c.deref.result.now ∷ [] = take_more clauses i [] at.0 ∙ ap (λ (clause : List ℤ). take i clauses ++ clause ∷ []) at.1 in
    numbering_more c.loop-clause.hinter c.add.new.self (length (senses_of c.args.encoded.now.meanings.items)) (take i clauses) (take (i + 1) clauses) c.deref.result.now c.loop-clause.invariant c.in_ok-add.ensures.ok front
