use Rattle.std.proofs.Common.{◌≡◌, ℕ, ◌<◌, ◌≤◌, ◌++◌, ◌∷◌, [], ℤ, List, Vec, length, sym, ap, ◌∙◌, arith, subst, Contains}
use Rattle.std.specs.Global.{Global}
use Rattle.std.proofs.lemmas.List.{length-map, map-append}
use Rattle.kat_clause.specs.Clauses.{lists}
use Rattle.kat_clause.specs.Literals.{code_of}
use Rattle.kat_links.specs.Lists.{Lists, list_at}
use Rattle.kat_watch.specs.Watched.{Watched, AreLiterals}
use Rattle.kat_watch.specs.States.{IsNoted, StartsWatch}
use Rattle.kat_watch.proofs.Sets.{literal_below}
use Rattle.kat_watch.proofs.Calls.{add_done}
use Rattle.kat_watch.proofs.watches.Watches.add.Goals as goal

-- how many clauses there are
counted : (clauses : List (Vec ℤ Global)) (n m : ℕ) → n ≡ m → m ≡ length clauses → n ≡ length (lists clauses)
counted clauses n m e f = e ∙ f ∙ sym (length-map clauses (λ (v : Vec ℤ Global). v.items))

-- one clause more, after the others
pushed : (old mid new : List (Vec ℤ Global)) (copy : Vec ℤ Global) (clause : List ℤ) → mid ≡ old → new ≡ mid ++ copy ∷ [] → copy.items ≡ clause → lists new ≡ lists old ++ clause ∷ []
pushed old mid new copy clause e f g = ap lists f ∙ map-append (λ (v : Vec ℤ Global). v.items) mid (copy ∷ []) ∙ (λ i. lists (e i) ++ g i ∷ [])

pub watch-requires-clause-codes : goal.watch-requires-clause-codes
watch-requires-clause-codes c = λ k has.
    let inside = c.self.inside in
    let P : Watched → Type 0 = λ v. AreLiterals v.greatest c.args.clause.now in
    let is = subst P (sym c.self.view_is) c.requires.literals k has in
    let below = (literal_below inside.set.greatest k is).0 in
    let Q : Lists → Type 0 = λ v. code_of k < length v.lists in
    subst Q (sym c.in_ok-copy.ensures.items) (omega (arith, below, c.self.invariant.core.watched.size))

pub watch-requires-clause-free : goal.watch-requires-clause-free
watch-requires-clause-free c = λ l x has.
    let inside = c.self.inside in
    let P : Lists → Type 0 = λ v. Contains (list_at v.lists l) x in
    let low = c.tells_arranged.ensures.below l x (subst P c.in_ok-copy.ensures.items has) in
    let count = counted inside.clauses.items c.len-count.result _ c.len-count.ensures inside.clauses.ok.0 in
    omega (arith, low, count, c.self.invariant.core.watched.items)

pub invariant_of-self-2 : goal.invariant_of-self-2
invariant_of-self-2 c =
    let inside = c.self.inside in
    let n = c.len-count.result in
    let P : List ℕ → Type 0 = λ s. length c.args.clause.now < 2 → IsNoted n s c.watch.new.shorts.items c.prepare.new.links c.watch.new.links inside.set c.watch.new.set in
    let Q : List ℕ → Type 0 = λ s. 2 ≤ length c.args.clause.now → StartsWatch n c.args.clause.now s c.watch.new.shorts.items c.prepare.new.links c.watch.new.links inside.set c.watch.new.set in
    (add_done (lists inside.clauses.items) (lists c.put.new.items.items) inside.shorts.items c.watch.new.shorts.items inside.links c.prepare.new.links c.watch.new.links c.args.clause.now inside.set c.watch.new.set c.args.self.now n
    c.self.view_is c.self.invariant c.tells_arranged.ensures c.requires.literals c.requires.plain (counted inside.clauses.items n _ c.len-count.ensures inside.clauses.ok.0) (omega (arith, c.if-count.false)) c.in_ok-copy.ensures.items
    (subst P c.prepare.ensures.shorts c.watch.ensures.short) (subst Q c.prepare.ensures.shorts c.watch.ensures.long)
    (pushed inside.clauses.items c.prepare.new.clauses.items c.put.new.items.items c.in_ok-copy.copy c.args.clause.now c.prepare.ensures.clauses c.put.ensures c.in_ok-copy.ensures.copy)).0

pub returns-clause-ok : goal.returns-clause-ok
returns-clause-ok c =
    let inside = c.self.inside in
    let n = c.len-count.result in
    let P : List ℕ → Type 0 = λ s. length c.args.clause.now < 2 → IsNoted n s c.watch.new.shorts.items c.prepare.new.links c.watch.new.links inside.set c.watch.new.set in
    let Q : List ℕ → Type 0 = λ s. 2 ≤ length c.args.clause.now → StartsWatch n c.args.clause.now s c.watch.new.shorts.items c.prepare.new.links c.watch.new.links inside.set c.watch.new.set in
    (add_done (lists inside.clauses.items) (lists c.put.new.items.items) inside.shorts.items c.watch.new.shorts.items inside.links c.prepare.new.links c.watch.new.links c.args.clause.now inside.set c.watch.new.set c.args.self.now n
    c.self.view_is c.self.invariant c.tells_arranged.ensures c.requires.literals c.requires.plain (counted inside.clauses.items n _ c.len-count.ensures inside.clauses.ok.0) (omega (arith, c.if-count.false)) c.in_ok-copy.ensures.items
    (subst P c.prepare.ensures.shorts c.watch.ensures.short) (subst Q c.prepare.ensures.shorts c.watch.ensures.long)
    (pushed inside.clauses.items c.prepare.new.clauses.items c.put.new.items.items c.in_ok-copy.copy c.args.clause.now c.prepare.ensures.clauses c.put.ensures c.in_ok-copy.ensures.copy)).1
