use Rattle.std.proofs.Common.{◌≡◌, ℕ, ◌/◌, ℤ, List, Vec, [], length, get_or, false, sym, ap, ◌∙◌, arith, subst, Contains}
use Rattle.std.specs.Global.{Global}
use Rattle.std.proofs.lemmas.Bool.{false≢true}
use Rattle.std.proofs.lemmas.List.{length-map, get_or_default, get_or-map}
use Rattle.kat_clause.specs.Clauses.{lists}
use Rattle.kat_clause.specs.Tables.{IsBelow, clause_at}
use Rattle.kat_watch.specs.States.{LooksAt}
use Rattle.kat_watch.proofs.Walks.{AtItem, item_small, partner_in, no_partner, looks_true, looks, at_clause, clause_below, other_above, other_below}
use Rattle.kat_watch.proofs.walking.look_up.Goals as goal

pub overflow_add-item : goal.overflow_add-item
overflow_add-item c = omega (arith, item_small (lists c.args.clauses.now) c.args.links.now c.args.set.now c.args.item c.tells_arranged.ensures c.requires.core c.requires.listed)

pub list_of-requires : goal.list_of-requires
list_of-requires c = partner_in (lists c.args.clauses.now) c.args.links.now c.args.set.now c.args.item c.tells_arranged.ensures c.requires.core c.requires.listed

pub returns-in_default : goal.returns-in_default
returns-in_default c = absurd (no_partner (lists c.args.clauses.now) c.args.links.now c.args.set.now c.args.item c.tells_arranged.ensures c.requires.core c.requires.listed c.in_default.ensures)

pub returns-then-index : goal.returns-then-index
returns-then-index c =
    let clauses = lists c.args.clauses.now in
    let set = c.args.set.now in
    let other = c.in-Some.other in
    let here : AtItem clauses c.args.links.now set c.args.item other = record { arranged = c.tells_arranged.ensures; core = c.requires.core; listed = c.requires.listed; inside = c.in-Some.ensures.0; holds = c.in-Some.ensures.1 } in
    let mark : c.index.result.now ≡ get_or set.marks.items other false = c.index.ensures ∙ get_or_default set.marks.items other c.index.result.now false (other_below clauses c.args.links.now set c.args.item other here).0 in
    looks_true clauses c.args.links.now set c.args.item other here (sym mark ∙ c.if-index.true)

pub bounds-clauses-item : goal.bounds-clauses-item
bounds-clauses-item c =
    omega (arith, at_clause (lists c.args.clauses.now) c.args.links.now c.args.set.now c.args.item c.tells_arranged.ensures c.requires.core c.requires.listed, length-map c.args.clauses.now (λ (v : Vec ℤ Global). v.items))

pub look_at-requires-clause-clause : goal.look_at-requires-clause-clause
look_at-requires-clause-clause c =
    let clauses = lists c.args.clauses.now in
    let n = c.args.item / 2 in
    let inside = at_clause clauses c.args.links.now c.args.set.now c.args.item c.tells_arranged.ensures c.requires.core c.requires.listed in
    let same : c.deref.result.now ≡ clause_at clauses n =
    c.deref.ensures.value ∙ ap (λ (v : Vec ℤ Global). v.items) c.index-clauses-item.is ∙ sym (get_or-map (λ (v : Vec ℤ Global). v.items) c.args.clauses.now n _ [] (omega (arith, inside, length-map c.args.clauses.now (λ (v : Vec ℤ Global). v.items)))) in
    let P : List ℤ → ℕ → Type 0 = λ cl m. (k : ℤ) → Contains cl k → IsBelow m k in
    let size : length c.args.set.now.marks.items ≡ length c.deref-2.result.now = sym (ap length c.deref-2.ensures.value) in
    subst (λ (cl : List ℤ). P cl (length c.deref-2.result.now)) (sym same) (subst (P (clause_at clauses n)) size (clause_below clauses c.args.links.now c.args.set.now n c.requires.core inside))

pub look_at-requires-clause-above : goal.look_at-requires-clause-above
look_at-requires-clause-above c =
    other_above (lists c.args.clauses.now) c.args.links.now c.args.set.now c.args.item c.in-Some.other
    (record { arranged = c.tells_arranged.ensures; core = c.requires.core; listed = c.requires.listed; inside = c.in-Some.ensures.0; holds = c.in-Some.ensures.1 })

pub look_at-requires-clause-below : goal.look_at-requires-clause-below
look_at-requires-clause-below c =
    (other_below (lists c.args.clauses.now) c.args.links.now c.args.set.now c.args.item c.in-Some.other
    (record { arranged = c.tells_arranged.ensures; core = c.requires.core; listed = c.requires.listed; inside = c.in-Some.ensures.0; holds = c.in-Some.ensures.1 })).1

pub returns : goal.returns
returns c =
    let clauses = lists c.args.clauses.now in
    let set = c.args.set.now in
    let other = c.in-Some.other in
    let n = c.args.item / 2 in
    let inside = at_clause clauses c.args.links.now c.args.set.now c.args.item c.tells_arranged.ensures c.requires.core c.requires.listed in
    let here : AtItem clauses c.args.links.now set c.args.item other = record { arranged = c.tells_arranged.ensures; core = c.requires.core; listed = c.requires.listed; inside = c.in-Some.ensures.0; holds = c.in-Some.ensures.1 } in
    let mark : c.index.result.now ≡ get_or set.marks.items other false = c.index.ensures ∙ get_or_default set.marks.items other c.index.result.now false (other_below clauses c.args.links.now set c.args.item other here).0 in
    let same : c.deref.result.now ≡ clause_at clauses n =
    c.deref.ensures.value ∙ ap (λ (v : Vec ℤ Global). v.items) c.index-clauses-item.is ∙ sym (get_or-map (λ (v : Vec ℤ Global). v.items) c.args.clauses.now n _ [] (omega (arith, inside, length-map c.args.clauses.now (λ (v : Vec ℤ Global). v.items)))) in
    let first : LooksAt (clause_at clauses n) c.deref-2.result.now other c.look_at.result = subst (λ (cl : List ℤ). LooksAt cl c.deref-2.result.now other c.look_at.result) same c.look_at.ensures in
    looks clauses c.args.links.now set c.args.item other c.look_at.result here (λ marked. false≢true (sym c.if-index.false ∙ mark ∙ marked)) (subst (λ ms. LooksAt (clause_at clauses n) ms other c.look_at.result) c.deref-2.ensures.value first)
