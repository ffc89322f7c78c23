use Rattle.std.proofs.Common.{◌≡◌, ◌<◌, ℤ, List, length, sym, ◌∙◌, subst, arith, Contains, ◌⊎◌, Vec}
use Rattle.std.specs.Global.{Global}
use Rattle.std.proofs.lemmas.List.{length-map}
use Rattle.kat_clause.specs.Clauses.{lists}
use Rattle.kat_clause.specs.Literals.{code_of}
use Rattle.kat_clause.specs.Tables.{clause_at, IsMarked}
use Rattle.kat_clause.proofs.Runs.{clause_lists}
use Rattle.kat_clause.proofs.WalkLaws.{needed_more}
use Rattle.kat_clause.proofs.finding.keep.Goals as goal

pub mark_literals-requires : goal.mark_literals-requires
mark_literals-requires c = λ k has.
    let clauses = c.args.clauses.now in
    let number = c.args.number in
    let h : number < length clauses = omega (arith, c.requires.number, length-map clauses (λ (v : Vec ℤ Global). v.items)) in
    let at : clause_at (lists clauses) number ≡ c.deref.result.now = clause_lists clauses number c.index-clauses-number.result h c.index-clauses-number.is ∙ sym c.deref.ensures.value in
    let P : List ℤ → Type 0 = λ clause. Contains clause k in
    (c.requires.below number c.requires.number k (subst P (sym at) has)).0

pub returns-clause-needed : goal.returns-clause-needed
returns-clause-needed c = λ hints before.
    let clauses = c.args.clauses.now in
    let number = c.args.number in
    let old = c.args.needed.now.items in
    let new = c.mark_literals.new.marks.items in
    let h : number < length clauses = omega (arith, c.requires.number, length-map clauses (λ (v : Vec ℤ Global). v.items)) in
    let at : clause_at (lists clauses) number ≡ c.deref.result.now = clause_lists clauses number c.index-clauses-number.result h c.index-clauses-number.is ∙ sym c.deref.ensures.value in
    let P : List ℤ → Type 0 = λ clause. (k : ℤ) → IsMarked old (code_of k) ⊎ Contains clause k → IsMarked new (code_of k) in
    let Q : List ℤ → Type 0 = λ clause. (k : ℤ) → IsMarked new (code_of k) → IsMarked old (code_of k) ⊎ Contains clause k in
    needed_more (lists clauses) old new number hints (subst P (sym at) c.mark_literals.ensures.marked) (subst Q (sym at) c.mark_literals.ensures.only) before
