use Rattle.std.proofs.Common.{◌≡◌, ◌+◌, ◌*◌, ◌<◌, ◌^◌, ◌++◌, ◌∷◌, ◌⊎◌, ℕ, ℤ, [], length, List, sym, ap, ◌∙◌, Vec, subst, arith, Contains}
use Rattle.std.specs.Global.{Global}
use Rattle.std.proofs.lemmas.List.{length-map}
use Rattle.kat_clause.specs.Clauses.{lists, SameMembers}
use Rattle.kat_clause.specs.Tables.{rows, IsBelow}
use Rattle.kat_clause.specs.Numberings.{Numbering, IsNumbering, Covers, IsNotedClause}
use Rattle.kat_clause.proofs.Indexes.{below_size}
use Rattle.kat_clause.proofs.NumberingSteps.{numbering_kept, numbering_push}
use Rattle.kat_clause.proofs.hinter.Hinter.add_line.Goals as goal

-- the set's literals have their places
set_below : (greatest size : ℕ) (line set : List ℤ) → size ≡ 2 * greatest + 2 → SameMembers set line → ((k : ℤ) → Contains line k → IsBelow (2 * greatest + 2) k) → (k : ℤ) → Contains set k → IsBelow size k
set_below greatest size line set same members below k has = let P : ℕ → Type 0 = λ n. IsBelow n k in subst P (sym same) (below k ((members k).0 has))

pub note_set-requires : goal.note_set-requires
note_set-requires c = λ k has.
    let greatest : c.self.inside.greatest ≡ c.args.self.now.greatest = ap (λ (n : Numbering). n.greatest) c.self.view_is in
    let size : length (rows c.self.inside.table.items) ≡ 2 * c.args.self.now.greatest + 2 = c.self.invariant.size ∙ ap (λ (g : ℕ). 2 * g + 2) greatest in
    let P : List ℤ → Type 0 = λ set. Contains set k in
    (set_below c.args.self.now.greatest (length (rows c.self.inside.table.items)) c.args.line.now c.in_ok-set.set.items size c.in_ok-set.ensures
    (λ j there. below_size c.args.self.now.greatest j (c.requires j there)) k (subst P c.deref-2.ensures.value has)).0

pub invariant_of-self : goal.invariant_of-self
invariant_of-self c =
    let inside = c.self.inside in
    numbering_kept inside.greatest (lists inside.clauses.items) (lists inside.sets.items) (rows inside.table.items) (rows c.note_set.new.table.items) inside.short.items c.note_set.new.short.items c.note_set.ensures.keeps c.note_set.ensures.kept c.self.invariant

pub invariant_of-self-in_err-push_both : goal.invariant_of-self-in_err-push_both
invariant_of-self-in_err-push_both c =
    let inside = c.self.inside in
    let P : List (Vec ℤ Global) → Type 0 = λ clauses. IsNumbering inside.greatest (lists clauses) (lists c.push_both.new.sets.items) (rows c.note_set.new.table.items) c.note_set.new.short.items in
    let Q : List (Vec ℤ Global) → Type 0 = λ sets. IsNumbering inside.greatest (lists inside.clauses.items) (lists sets) (rows c.note_set.new.table.items) c.note_set.new.short.items in
    subst P (sym c.in_err-push_both.ensures.neither.0) (subst Q (sym c.in_err-push_both.ensures.neither.1)
    (numbering_kept inside.greatest (lists inside.clauses.items) (lists inside.sets.items) (rows inside.table.items) (rows c.note_set.new.table.items) inside.short.items c.note_set.new.short.items c.note_set.ensures.keeps c.note_set.ensures.kept c.self.invariant))

pub invariant_of-self-2 : goal.invariant_of-self-2
invariant_of-self-2 c =
    let inside = c.self.inside in
    let clauses = lists inside.clauses.items in
    let sets = lists inside.sets.items in
    let table = rows c.note_set.new.table.items in
    let short = c.note_set.new.short.items in
    let line = c.args.line.now in
    let set = c.in_ok-set.set.items in
    let greatest : inside.greatest ≡ c.args.self.now.greatest = ap (λ (n : Numbering). n.greatest) c.self.view_is in
    let size : length table ≡ 2 * c.args.self.now.greatest + 2 = c.note_set.ensures.keeps.size ∙ c.self.invariant.size ∙ ap (λ (g : ℕ). 2 * g + 2) greatest in
    let number : c.len.result ≡ length sets = c.len.ensures ∙ inside.sets.ok.0 ∙ sym (length-map inside.sets.items (λ (v : Vec ℤ Global). v.items)) in
    let below : (k : ℤ) → Contains set k → IsBelow (length table) k = set_below c.args.self.now.greatest (length table) line set size c.in_ok-set.ensures (λ k has. below_size c.args.self.now.greatest k (c.requires k has)) in
    let Q : List (Vec ℤ Global) → Type 0 = λ now. Covers (lists now) c.deref-2.result.now ⊎ IsNotedClause table short c.deref-2.result.now (length (lists now)) in
    let R : List ℤ → Type 0 = λ now. Covers sets now ⊎ IsNotedClause table short now (length sets) in
    let noted : Covers sets set ⊎ IsNotedClause table short set (length sets) = subst R c.deref-2.ensures.value (subst Q c.deref.ensures.value c.in_ok-note_set.ensures.noted) in
    let whole : lists c.push_both.new.clauses.items ≡ clauses ++ line ∷ [] = c.in_ok-push_both.ensures.clauses ∙ ap (λ (ls : List ℤ). clauses ++ ls ∷ []) c.in_ok-copy.ensures.items in
    let P : List (List ℤ) → Type 0 = λ now. IsNumbering inside.greatest now (lists c.push_both.new.sets.items) table short in
    let S : List (List ℤ) → Type 0 = λ now. IsNumbering inside.greatest (clauses ++ line ∷ []) now table short in
    let few : length sets + 1 < 2 ^ 32 = omega (arith, number) in
    subst P (sym whole) (subst S (sym c.in_ok-push_both.ensures.sets) (numbering_push inside.greatest clauses sets line set table short c.in_ok-set.ensures below noted few
    (numbering_kept inside.greatest clauses sets (rows inside.table.items) table inside.short.items short c.note_set.ensures.keeps c.note_set.ensures.kept c.self.invariant)))
