use Rattle.std.proofs.Common.{◌≡◌, ◌<◌, ℤ, List, length, get_or, take, false, refl, sym, ap, ◌∙◌, arith, subst}
use Rattle.std.proofs.lemmas.List.{take-map}
use Rattle.kat_clause.specs.declared.known.Level.{Level}
use Rattle.kat_clause.specs.declared.propagation.Propagation.{Propagation}
use Rattle.kat_clause.specs.Clauses.{lists}
use Rattle.kat_clause.specs.Known.{Known}
use Rattle.kat_clause.specs.Tables.{rows}
use Rattle.kat_clause.specs.Levels.{assumed_in, IsConsistent}
use Rattle.kat_clause.proofs.Sets.{IsSet-same}
use Rattle.kat_clause.proofs.Levels.{consistent_undo}
use Rattle.kat_clause.proofs.known.Clauses.undo.Goals as goal

pub invariant_of-self-2 : goal.invariant_of-self-2
invariant_of-self-2 c =
    let inside = c.self.inside in
    let levels = inside.levels.items in
    let level = c.index-level.result.now in
    let new : Propagation = record { marks = c.leave.new.self.marks; trail = c.leave.new.self.trail; looked = level.looked; seen = level.seen } in
    let h : c.args.kept < length levels = omega (arith, c.if-len-kept.false, c.len.ensures, inside.levels.ok.0) in
    let at : get_or levels c.args.kept level ≡ level = sym c.index-level.ensures in
    let P : List Level → Type 0 = λ ls. IsConsistent inside.greatest (lists inside.clauses.items) (rows inside.table.items) new ls false in
    subst P (sym c.truncate.ensures.items)
    (consistent_undo inside.greatest (lists inside.clauses.items) (rows inside.table.items) inside.set new levels inside.settled c.args.kept level h
    c.leave.ensures.size (IsSet-same c.leave.new.self new refl refl c.leave.ensures.set) (rw at c.leave.ensures.trail) (rw at refl) (rw at refl) c.self.invariant)

pub returns : goal.returns
returns c =
    let inside = c.self.inside in
    let kept = c.args.kept in
    let F : Known → Known = λ v. record { greatest = v.greatest; clauses = v.clauses; assumed = take kept v.assumed; settled = false } in
    let G : List ℤ → Known = λ a. record { greatest = inside.greatest; clauses = lists inside.clauses.items; assumed = a; settled = false } in
    ap (λ (ls : List Level). G (assumed_in ls)) c.truncate.ensures.items
    ∙ ap G (sym (take-map (λ (l : Level). l.literal) kept inside.levels.items))
    ∙ ap F c.self.view_is
