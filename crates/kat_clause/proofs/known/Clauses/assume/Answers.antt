use Rattle.std.proofs.Common.{◌≡◌, List, false, refl, sym, ap, ◌∙◌, rules, subst, FitsSigned, to_z, of_z}
use Rattle.std.specs.Int.{w32}
use Rattle.std.proofs.lemmas.Int.{to_z-of_z}
use Rattle.kat_clause.specs.declared.known.Level.{Level}
use Rattle.kat_clause.specs.Clauses.{lists}
use Rattle.kat_clause.specs.Literals.{IsUpTo}
use Rattle.kat_clause.specs.Known.{Known}
use Rattle.kat_clause.specs.Tables.{rows}
use Rattle.kat_clause.specs.Propagations.{SameSet, Enters}
use Rattle.kat_clause.specs.Levels.{IsConsistent}
use Rattle.kat_clause.proofs.Runs.{on_err, on_ok}
use Rattle.kat_clause.proofs.Levels.{consistent_same, consistent_assume, popped}
use Rattle.kat_clause.proofs.known.Clauses.assume.Goals as goal

pub invariant_of-self-then-is_err : goal.invariant_of-self-then-is_err
invariant_of-self-then-is_err c =
    let inside = c.self.inside in
    let same : SameSet inside.set c.enter.new.self = on_err (SameSet inside.set c.enter.new.self) c.enter.result (sym c.is_err.ensures.value ∙ c.if-is_err.true) c.enter.ensures.err in
    let P : List Level → Type 0 = λ levels. IsConsistent inside.greatest (lists inside.clauses.items) (rows inside.table.items) c.enter.new.self levels inside.settled in
    let back : inside.levels.items ≡ c.pop.new.self.items = popped inside.levels.items c.pop.new.self.items c.push.new.self.items _ _ c.in_ok-push.ensures.items c.push.new.self.ok.0 c.pop.ensures.rest in
    subst P back (consistent_same inside.greatest (lists inside.clauses.items) (rows inside.table.items) inside.set c.enter.new.self inside.levels.items inside.settled same c.self.invariant)

pub invariant_of-self-2 : goal.invariant_of-self-2
invariant_of-self-2 c =
    let inside = c.self.inside in
    let literal = c.args.literal in
    let fits : FitsSigned w32 literal = search rules in
    let up_to : IsUpTo inside.greatest literal = rw (sym (ap (λ (v : Known). v.greatest) c.self.view_is)) at c.requires in
    let enters : Enters inside.set c.enter.new.self (to_z w32 (of_z w32 literal)) = on_ok (Enters inside.set c.enter.new.self (to_z w32 (of_z w32 literal))) c.enter.result (sym c.is_err.ensures.value ∙ c.if-is_err.false) c.enter.ensures.ok in
    let Q : List Level → Type 0 = λ levels. IsConsistent inside.greatest (lists inside.clauses.items) (rows inside.table.items) c.enter.new.self levels false in
    subst Q (sym c.in_ok-push.ensures.items) (consistent_assume inside.greatest (lists inside.clauses.items) (rows inside.table.items) inside.set c.enter.new.self inside.levels.items inside.settled _ (rw (to_z-of_z w32 literal fits) up_to) (c.len.ensures ∙ inside.set.trail.ok.0) refl refl enters c.self.invariant)
