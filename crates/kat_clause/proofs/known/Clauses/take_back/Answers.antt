use Rattle.std.proofs.Common.{◌≡◌, ◌<◌, ◌-◌, ◌++◌, ◌∷◌, [], ℕ, ℤ, List, length, take, false, sym, ap, ◌∙◌, arith, subst, Vec}
use Rattle.std.specs.Global.{Global}
use Rattle.std.proofs.lemmas.List.{length-map, map-append, take-map}
use Rattle.kat_clause.specs.Clauses.{lists}
use Rattle.kat_clause.specs.Known.{Known}
use Rattle.kat_clause.specs.Tables.{rows}
use Rattle.kat_clause.specs.Levels.{assumed_in, IsConsistent}
use Rattle.kat_clause.proofs.Indexes.{below_last}
use Rattle.kat_clause.proofs.Levels.{consistent_back}
use Rattle.kat_clause.proofs.known.Clauses.take_back.Goals as goal

pub forget_literals-requires : goal.forget_literals-requires
forget_literals-requires c = λ k has.
    let inside = c.self.inside in
    let whole : lists inside.clauses.items ≡ lists c.pop.new.self.items ++ c.in-Some.clause.items ∷ [] =
    ap lists c.in-Some.ensures.items ∙ map-append (λ (v : Vec ℤ Global). v.items) c.pop.new.self.items (c.in-Some.clause ∷ []) in
    (below_last (lists inside.clauses.items) (lists c.pop.new.self.items) c.in-Some.clause.items (length (rows inside.table.items)) whole c.self.invariant.index.below k (rw c.deref.ensures.value at has)).0

pub invariant_of-self-2 : goal.invariant_of-self-2
invariant_of-self-2 c =
    let inside = c.self.inside in
    let clauses = lists inside.clauses.items in
    let number = c.len-number.result - 1 in
    let count : c.len-number.result ≡ length clauses = c.len-number.ensures ∙ inside.clauses.ok.0 ∙ sym (length-map inside.clauses.items (λ (v : Vec ℤ Global). v.items)) in
    let viewed : clauses ≡ c.args.self.now.clauses = ap (λ (v : Known). v.clauses) c.self.view_is in
    let some : 0 < length clauses = rw viewed c.requires.some in
    let none : assumed_in inside.levels.items ≡ [] = ap (λ (v : Known). v.assumed) c.self.view_is ∙ c.requires.none in
    let front : lists c.pop.new.self.items ≡ take number clauses = ap lists c.pop.ensures.rest ∙ sym (take-map (λ (v : Vec ℤ Global). v.items) _ inside.clauses.items) ∙ ap (λ (n : ℕ). take (n - 1) clauses) (sym c.len-number.ensures) in
    let P : List (List ℤ) → Type 0 = λ cs. IsConsistent inside.greatest cs (rows c.forget_literals.new.table.items) c.unsee.new.self inside.levels.items false in
    subst P (sym front) (consistent_back inside.greatest clauses (rows inside.table.items) (rows c.forget_literals.new.table.items) inside.set c.unsee.new.self inside.levels.items inside.settled number (omega (arith, count, some)) none c.unsee.ensures c.forget_literals.ensures c.self.invariant)

pub returns : goal.returns
returns c =
    let inside = c.self.inside in
    let clauses = lists inside.clauses.items in
    let count : c.len-number.result ≡ length clauses = c.len-number.ensures ∙ inside.clauses.ok.0 ∙ sym (length-map inside.clauses.items (λ (v : Vec ℤ Global). v.items)) in
    let front : lists c.pop.new.self.items ≡ take (c.len-number.result - 1) clauses = ap lists c.pop.ensures.rest ∙ sym (take-map (λ (v : Vec ℤ Global). v.items) _ inside.clauses.items) ∙ ap (λ (n : ℕ). take (n - 1) clauses) (sym c.len-number.ensures) in
    let F : Known → Known = λ v. record { greatest = v.greatest; clauses = take (length v.clauses - 1) v.clauses; assumed = v.assumed; settled = false } in
    let G : List (List ℤ) → Known = λ cs. record { greatest = inside.greatest; clauses = cs; assumed = assumed_in inside.levels.items; settled = false } in
    ap G (front ∙ ap (λ (n : ℕ). take (n - 1) clauses) count) ∙ ap F c.self.view_is
