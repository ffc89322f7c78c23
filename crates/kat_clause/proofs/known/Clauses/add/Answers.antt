use Rattle.std.proofs.Common.{◌≡◌, ◌+◌, ◌*◌, ◌++◌, ◌∷◌, [], length, List, ℤ, false, sym, ap, ◌∙◌, Vec, subst, Contains}
use Rattle.std.specs.Global.{Global}
use Rattle.std.proofs.lemmas.List.{length-map, map-append}
use Rattle.kat_clause.specs.Clauses.{lists}
use Rattle.kat_clause.specs.Known.{Known}
use Rattle.kat_clause.specs.Tables.{rows, IsBelow, IsNoted}
use Rattle.kat_clause.specs.Levels.{IsConsistent}
use Rattle.kat_clause.proofs.Indexes.{below_size}
use Rattle.kat_clause.proofs.Levels.{consistent_table, consistent_clause}
use Rattle.kat_clause.proofs.known.Clauses.add.Goals as goal

pub note_literals-requires : goal.note_literals-requires
note_literals-requires c = λ k has.
    let greatest : c.self.inside.greatest ≡ c.args.self.now.greatest = ap (λ (v : Known). v.greatest) c.self.view_is in
    let given : Contains c.in_ok-literals.literals.items k = rw c.deref.ensures.value at has in
    rw (c.self.invariant.size, greatest) (below_size c.args.self.now.greatest k (c.requires k ((c.in_ok-literals.ensures k).0 given))).0

pub invariant_of-self : goal.invariant_of-self
invariant_of-self c = consistent_table c.self.inside.greatest (lists c.self.inside.clauses.items) (rows c.self.inside.table.items) (rows c.note_literals.new.table.items) c.self.inside.set c.self.inside.levels.items c.self.inside.settled c.note_literals.ensures.keeps c.self.invariant

pub invariant_of-self-in_err-push : goal.invariant_of-self-in_err-push
invariant_of-self-in_err-push c =
    let inside = c.self.inside in
    let P : List (Vec ℤ Global) → Type 0 = λ clauses. IsConsistent inside.greatest (lists clauses) (rows c.note_literals.new.table.items) inside.set inside.levels.items inside.settled in
    subst P (sym c.in_err-push.ensures.items) (consistent_table inside.greatest (lists inside.clauses.items) (rows inside.table.items) (rows c.note_literals.new.table.items) inside.set inside.levels.items inside.settled c.note_literals.ensures.keeps c.self.invariant)

pub invariant_of-self-2 : goal.invariant_of-self-2
invariant_of-self-2 c =
    let inside = c.self.inside in
    let clauses = lists inside.clauses.items in
    let table = rows c.note_literals.new.table.items in
    let literals = c.in_ok-literals.literals in
    let greatest : inside.greatest ≡ c.args.self.now.greatest = ap (λ (v : Known). v.greatest) c.self.view_is in
    let size : length table ≡ 2 * c.args.self.now.greatest + 2 = c.note_literals.ensures.keeps.size ∙ c.self.invariant.size ∙ ap (λ g. 2 * g + 2) greatest in
    let number : c.len-number.result ≡ length clauses = c.len-number.ensures ∙ inside.clauses.ok.0 ∙ sym (length-map inside.clauses.items (λ (v : Vec ℤ Global). v.items)) in
    let below : (k : ℤ) → Contains literals.items k → IsBelow (length table) k = λ k has. rw size (below_size c.args.self.now.greatest k (c.requires k ((c.in_ok-literals.ensures k).0 has))) in
    let noted : IsNoted table literals.items (length clauses) = rw (number, c.deref.ensures.value) at c.in_ok-note_literals.ensures.noted in
    let whole : lists c.push.new.self.items ≡ clauses ++ literals.items ∷ [] =
    ap lists c.in_ok-push.ensures.items ∙ map-append (λ (v : Vec ℤ Global). v.items) inside.clauses.items (literals ∷ []) in
    let P : List (List ℤ) → Type 0 = λ now. IsConsistent inside.greatest now table inside.set inside.levels.items false in
    subst P (sym whole) (consistent_clause inside.greatest clauses literals.items table inside.set inside.levels.items inside.settled below noted
    (consistent_table inside.greatest clauses (rows inside.table.items) table inside.set inside.levels.items inside.settled c.note_literals.ensures.keeps c.self.invariant))
