use Rattle.std.proofs.Common.{◌≡◌, ℕ, ◌<◌, ◌≤◌, ◌+◌, ◌++◌, ◌∷◌, [], length, take, get_or, List, ℤ, sym, ap, ◌∙◌, arith, subst, Vec, Contains}
use Rattle.std.specs.Global.{Global}
use Rattle.std.proofs.lemmas.List.{length-map, take_more, take_all}
use Rattle.kat_clause.specs.Clauses.{lists, AreAmong}
use Rattle.kat_clause.specs.Tables.{clause_at}
use Rattle.kat_clause.specs.Known.{Known}
use Rattle.kat_clause.proofs.Laws.{among_push, members_back, among_itself}
use Rattle.kat_clause.proofs.Runs.{clause_lists, below_lists}
use Rattle.kat_form.specs.Encodings.{Encoding, encoding, IsLiteral, senses_of, sense_of}
use Rattle.kat_cases.proofs.assumptions.clauses_in.Goals as goal

-- the clause that a loop over clauses has reached
reached : (all items : List (Vec ℤ Global)) (i : ℕ) (clause : Vec ℤ Global) (literals : List ℤ) → items ≡ all → i < length items → clause ≡ get_or items i clause → literals ≡ clause.items → (i < length (lists all)) × (clause_at (lists all) i ≡ literals)
reached all items i clause literals same h is e =
    let P : List (Vec ℤ Global) → Type 0 = λ list. (i < length (lists list)) × (clause_at (lists list) i ≡ literals) in
    subst P same (below_lists items i h, clause_lists items i clause h is ∙ sym e)

pub add-requires : goal.add-requires
add-requires c = record {
  literals = λ k has.
      let i = c.loop-clause.clause-index in
      let clauses = lists c.args.encoded.now.clauses.items in
      let at : (i < length clauses) × (clause_at clauses i ≡ c.deref.result.now) = reached c.args.encoded.now.clauses.items c.deref-clause-items.result.now i c.clause-item.result c.deref.result.now c.deref-clause-items.ensures.value c.loop-clause-test.true c.clause-item.is c.deref.ensures.value in
      let P : List ℤ → Type 0 = λ clause. Contains clause k in
      let literal : IsLiteral (length (senses_of c.args.encoded.now.meanings.items)) k = c.requires.fit.literals i [] at.0 k (subst P (sym at.1) has) in
      let size : length (senses_of c.args.encoded.now.meanings.items) ≡ length c.args.encoded.now.meanings.items = length-map c.args.encoded.now.meanings.items sense_of in
      (literal.0, omega (arith, literal.1, size, c.loop-clause.invariant.0));
}

pub loop-clause-init : goal.loop-clause-init
loop-clause-init c =
    let new = c.in_ok-known.ensures in
    let clauses : c.in_ok-known.known.clauses ≡ [] = ap (λ (k : Known). k.clauses) new in (
      ap (λ (k : Known). k.greatest) new ∙ c.len.ensures ∙ c.args.encoded.now.meanings.ok.0,
      rw clauses (among_itself []),
      rw clauses (among_itself []),
      ap (λ (k : Known). k.assumed) new,
    )

pub loop-clause-preserved : goal.loop-clause-preserved
loop-clause-preserved c =
    let i = c.loop-clause.clause-index in
    let clauses = lists c.args.encoded.now.clauses.items in
    let at : (i < length clauses) × (clause_at clauses i ≡ c.deref.result.now) = reached c.args.encoded.now.clauses.items c.deref-clause-items.result.now i c.clause-item.result c.deref.result.now c.deref-clause-items.ensures.value c.loop-clause-test.true c.clause-item.is c.deref.ensures.value in
    let adds = c.in_ok-add.ensures.ok in
    let new : c.add.new.self.clauses ≡ c.loop-clause.known.clauses ++ adds.added ∷ [] = ap (λ (k : Known). k.clauses) adds.is in
    let front : take (i + 1) clauses ≡ take i clauses ++ c.deref.result.now ∷ [] = take_more clauses i [] at.0 ∙ ap (λ (clause : List ℤ). take i clauses ++ clause ∷ []) at.1 in (
      ap (λ (k : Known). k.greatest) adds.is ∙ c.loop-clause.invariant.0,
      rw (new, front) (among_push c.loop-clause.known.clauses (take i clauses) adds.added c.deref.result.now adds.same c.loop-clause.invariant.1),
      rw (new, front) (among_push (take i clauses) c.loop-clause.known.clauses c.deref.result.now adds.added (members_back adds.added c.deref.result.now adds.same) c.loop-clause.invariant.2),
      ap (λ (k : Known). k.assumed) adds.is ∙ c.loop-clause.invariant.3,
    )

-- all clauses have been added
all_clauses : (items : List (Vec ℤ Global)) (all : List (Vec ℤ Global)) (i : ℕ) → items ≡ all → length items ≤ i → take i (lists all) ≡ lists all
all_clauses items all i same h = take_all i (lists all) (omega (arith, h, ap length same, length-map all (λ (v : Vec ℤ Global). v.items)))

pub returns-clause-keeps : goal.returns-clause-keeps
returns-clause-keeps c =
    let e : Encoding = encoding c.args.encoded.now in
    let whole = all_clauses c.deref-clause-items.result.now c.args.encoded.now.clauses.items c.loop-clause.clause-index c.deref-clause-items.ensures.value c.loop-clause-test.false in
    let P : List (List ℤ) → Type 0 = AreAmong c.loop-clause.known.clauses in
    let Q : List (List ℤ) → Type 0 = λ clauses. AreAmong clauses c.loop-clause.known.clauses in
    record {
      greatest = c.loop-clause.invariant.0 ∙ sym (length-map c.args.encoded.now.meanings.items sense_of);
      among = subst P whole c.loop-clause.invariant.1;
      all = subst Q whole c.loop-clause.invariant.2;
    }
