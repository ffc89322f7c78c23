use Rattle.std.proofs.Common.{◌≡◌, ℤ, List, sym, ◌∙◌, subst, Contains}
use Rattle.kat_clause.specs.Clauses.{lists}
use Rattle.kat_clause.specs.Tables.{clause_at}
use Rattle.kat_clause.proofs.Runs.{clause_lists, below_lists}
use Rattle.kat_clause.proofs.hinter.covers.Goals as goal

pub returns-in-Some : goal.returns-in-Some
returns-in-Some c = λ e.
    let sets = c.args.sets.now in
    let at : clause_at (lists sets) c.args.number ≡ c.in-Some.few.now.items = clause_lists sets c.args.number c.in-Some.few.now c.in-Some.ensures.lookup.3.0 c.in-Some.ensures.lookup.1 in (
      c.args.number,
      below_lists sets c.args.number c.in-Some.ensures.lookup.3.0,
      λ k has. let P : List ℤ → Type 0 = λ few. Contains few k in c.is_within.ensures e k (subst P (at ∙ sym c.deref.ensures.value) has),
    )
