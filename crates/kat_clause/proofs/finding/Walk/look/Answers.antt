use Rattle.std.proofs.Common.{◌≡◌, ℤ, List, sym, ◌∙◌, subst, Contains, Bool}
use Rattle.kat_clause.specs.Clauses.{lists}
use Rattle.kat_clause.specs.Tables.{clause_at}
use Rattle.kat_clause.specs.Findings.{IsPlace, IsLook}
use Rattle.kat_clause.proofs.Runs.{clause_lists, below_lists}
use Rattle.kat_clause.proofs.Sets.{SameSet-itself}
use Rattle.kat_clause.proofs.WalkSteps.{looked_walk, looked_noticed}
use Rattle.kat_clause.proofs.finding.Walk.look.Goals as goal

pub scan-look-requires-clause-below : goal.scan-look-requires-clause-below
scan-look-requires-clause-below c = λ k has.
    let clauses = c.args.clauses.now in
    let number = c.args.number in
    let at : clause_at (lists clauses) number ≡ c.deref.result.now = clause_lists clauses number c.in-Some.clause.now c.in-Some.ensures.lookup.3.0 c.in-Some.ensures.lookup.1 ∙ sym c.deref.ensures.value in
    let P : List ℤ → Type 0 = λ clause. Contains clause k in
    rw c.deref-2.ensures.value (c.requires.below number (below_lists clauses number c.in-Some.ensures.lookup.3.0) k (subst P (sym at) has))

pub returns-clause-walk : goal.returns-clause-walk
returns-clause-walk c =
    let clauses = c.args.clauses.now in
    let number = c.args.number in
    let old = c.args.self.now in
    let at : clause_at (lists clauses) number ≡ c.deref.result.now = clause_lists clauses number c.in-Some.clause.now c.in-Some.ensures.lookup.3.0 c.in-Some.ensures.lookup.1 ∙ sym c.deref.ensures.value in
    let P : List ℤ → Type 0 = λ clause. IsPlace old.set.marks.items clause c.scan-look.result.1 in
    let Q : List Bool → Type 0 = λ marks. IsPlace marks c.deref.result.now c.scan-look.result.1 in
    let R : List ℤ → Type 0 = λ clause. IsLook old.set.marks.items clause c.scan-look.result.0 in
    let S : List Bool → Type 0 = λ marks. IsLook marks c.deref.result.now c.scan-look.result.0 in
    looked_walk (lists clauses) number c.scan-look.result.0 c.scan-look.result.1 old _ (below_lists clauses number c.in-Some.ensures.lookup.3.0) (SameSet-itself old.set) c.in_ok-keep_place.ensures
    (subst P (sym at) (subst Q c.deref-2.ensures.value c.scan-look.ensures.place)) (subst R (sym at) (subst S c.deref-2.ensures.value c.scan-look.ensures.look)) c.in_ok-note.ensures c.requires.walk

pub returns-clause-noticed : goal.returns-clause-noticed
returns-clause-noticed c = λ pending.
    let clauses = c.args.clauses.now in
    let number = c.args.number in
    let old = c.args.self.now in
    let at : clause_at (lists clauses) number ≡ c.deref.result.now = clause_lists clauses number c.in-Some.clause.now c.in-Some.ensures.lookup.3.0 c.in-Some.ensures.lookup.1 ∙ sym c.deref.ensures.value in
    let R : List ℤ → Type 0 = λ clause. IsLook old.set.marks.items clause c.scan-look.result.0 in
    let S : List Bool → Type 0 = λ marks. IsLook marks c.deref.result.now c.scan-look.result.0 in
    looked_noticed (lists clauses) number c.scan-look.result.0 pending old _ (SameSet-itself old.set) c.requires.walk.is_set
    (subst R (sym at) (subst S c.deref-2.ensures.value c.scan-look.ensures.look)) c.in_ok-note.ensures
