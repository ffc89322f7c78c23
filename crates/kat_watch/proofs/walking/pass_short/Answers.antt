use Rattle.std.proofs.Common.{◌≡◌, ℕ, ◌<◌, ℤ, neg_ℤ, List, Vec, [], length, get_or, Some, sym, ap, ◌∙◌, arith, rules, subst, Contains, FitsSigned}
use Rattle.std.specs.Int.{w32}
use Rattle.std.specs.Global.{Global}
use Rattle.std.proofs.lemmas.Int.{to_z-of_z}
use Rattle.std.proofs.lemmas.List.{length-map, get_or-map}
use Rattle.kat_clause.specs.Clauses.{lists}
use Rattle.kat_clause.specs.Literals.{code_of}
use Rattle.kat_clause.specs.Tables.{clause_at}
use Rattle.kat_watch.specs.Watched.{IsOpen}
use Rattle.kat_watch.specs.States.{Enters}
use Rattle.kat_watch.proofs.Walks.{clause_below, room_for, marked_read, unmarked_read}
use Rattle.kat_watch.proofs.Passes.{passes_true, passes_false, passes_empty, passes_unit, opens}
use Rattle.kat_watch.proofs.Calls.{room_left}
use Rattle.kat_watch.proofs.walking.pass_short.Goals as goal

-- the clause that is looked at
at_number : (clauses : List (Vec ℤ Global)) (n : ℕ) (v : Vec ℤ Global) → n < length (lists clauses) → v ≡ get_or clauses n v → v.items ≡ clause_at (lists clauses) n
at_number clauses n v h e = ap (λ (w : Vec ℤ Global). w.items) e ∙ sym (get_or-map (λ (w : Vec ℤ Global). w.items) clauses n v [] (omega (arith, h, length-map clauses (λ (w : Vec ℤ Global). w.items))))

pub returns-in_default : goal.returns-in_default
returns-in_default c =
    let clauses = lists c.args.clauses.now in
    let n = c.args.number in
    let same : c.deref.result.now ≡ clause_at clauses n = c.deref.ensures.value ∙ at_number c.args.clauses.now n c.index-clauses-number.result c.requires.number c.index-clauses-number.is in
    passes_empty clauses c.args.links.now c.args.set.now n c.requires.core c.requires.number (sym (ap length same) ∙ c.in_default.ensures)

pub index-requires : goal.index-requires
index-requires c =
    let clauses = lists c.args.clauses.now in
    let n = c.args.number in
    let same : c.deref.result.now ≡ clause_at clauses n = c.deref.ensures.value ∙ at_number c.args.clauses.now n c.index-clauses-number.result c.requires.number c.index-clauses-number.is in
    let k = c.in-Some.literal in
    let P : List ℤ → Type 0 = λ cl. Contains cl k in
    let below = clause_below clauses c.args.links.now c.args.set.now n c.requires.core c.requires.number k (subst P same c.in-Some.ensures) in
    let fits : FitsSigned w32 k = search rules in
    let code : c.code.result ≡ code_of k = c.code.ensures ∙ ap code_of (to_z-of_z w32 k fits) in
    omega (arith, code, below.0, c.args.set.now.marks.ok.0)

pub index-requires-2 : goal.index-requires-2
index-requires-2 c =
    let clauses = lists c.args.clauses.now in
    let n = c.args.number in
    let same : c.deref.result.now ≡ clause_at clauses n = c.deref.ensures.value ∙ at_number c.args.clauses.now n c.index-clauses-number.result c.requires.number c.index-clauses-number.is in
    let k = c.in-Some.literal in
    let P : List ℤ → Type 0 = λ cl. Contains cl k in
    let below = clause_below clauses c.args.links.now c.args.set.now n c.requires.core c.requires.number k (subst P same c.in-Some.ensures) in
    let fits : FitsSigned w32 k = search rules in
    let code : c.opposite_code.result ≡ code_of (neg_ℤ k) = c.opposite_code.ensures ∙ ap (λ (z : ℤ). code_of (neg_ℤ z)) (to_z-of_z w32 k fits) in
    omega (arith, code, below.1, c.args.set.now.marks.ok.0)

pub returns-then-index : goal.returns-then-index
returns-then-index c =
    let clauses = lists c.args.clauses.now in
    let n = c.args.number in
    let same : c.deref.result.now ≡ clause_at clauses n = c.deref.ensures.value ∙ at_number c.args.clauses.now n c.index-clauses-number.result c.requires.number c.index-clauses-number.is in
    let k = c.in-Some.literal in
    let P : List ℤ → Type 0 = λ cl. Contains cl k in
    let has = subst P same c.in-Some.ensures in
    let below = clause_below clauses c.args.links.now c.args.set.now n c.requires.core c.requires.number k has in
    let fits : FitsSigned w32 k = search rules in
    let code : c.code.result ≡ code_of k = c.code.ensures ∙ ap code_of (to_z-of_z w32 k fits) in
    passes_true clauses c.args.links.now c.args.set.now n k c.requires.core has (marked_read c.args.set.now.marks.items c.code.result (code_of k) c.index.result.now code below.0 c.index.ensures c.if-index.true)

pub returns-then-index-2 : goal.returns-then-index-2
returns-then-index-2 c =
    let clauses = lists c.args.clauses.now in
    let n = c.args.number in
    let same : c.deref.result.now ≡ clause_at clauses n = c.deref.ensures.value ∙ at_number c.args.clauses.now n c.index-clauses-number.result c.requires.number c.index-clauses-number.is in
    let k = c.in-Some.literal in
    let P : List ℤ → Type 0 = λ cl. Contains cl k in
    let has = subst P same c.in-Some.ensures in
    let below = clause_below clauses c.args.links.now c.args.set.now n c.requires.core c.requires.number k has in
    let fits : FitsSigned w32 k = search rules in
    let code : c.opposite_code.result ≡ code_of (neg_ℤ k) = c.opposite_code.ensures ∙ ap (λ (z : ℤ). code_of (neg_ℤ z)) (to_z-of_z w32 k fits) in
    passes_false clauses c.args.links.now c.args.set.now n k c.requires.core c.requires.number c.requires.short has (marked_read c.args.set.now.marks.items c.opposite_code.result (code_of (neg_ℤ k)) c.index-2.result.now code below.1 c.index-2.ensures c.if-index-2.true)

pub enter-requires-clause-mark : goal.enter-requires-clause-mark
enter-requires-clause-mark c =
    let clauses = lists c.args.clauses.now in
    let n = c.args.number in
    let same : c.deref.result.now ≡ clause_at clauses n = c.deref.ensures.value ∙ at_number c.args.clauses.now n c.index-clauses-number.result c.requires.number c.index-clauses-number.is in
    let k = c.in-Some.literal in
    let P : List ℤ → Type 0 = λ cl. Contains cl k in
    let is = c.requires.core.watched.literals n c.requires.number k (subst P same c.in-Some.ensures) in
    let fits : FitsSigned w32 k = search rules in
    rw (to_z-of_z w32 k fits) ((room_for clauses c.args.set.now k c.requires.core.assigned is).0)

pub enter-requires-clause-variable : goal.enter-requires-clause-variable
enter-requires-clause-variable c =
    let clauses = lists c.args.clauses.now in
    let n = c.args.number in
    let same : c.deref.result.now ≡ clause_at clauses n = c.deref.ensures.value ∙ at_number c.args.clauses.now n c.index-clauses-number.result c.requires.number c.index-clauses-number.is in
    let k = c.in-Some.literal in
    let P : List ℤ → Type 0 = λ cl. Contains cl k in
    let is = c.requires.core.watched.literals n c.requires.number k (subst P same c.in-Some.ensures) in
    let fits : FitsSigned w32 k = search rules in
    rw (to_z-of_z w32 k fits) ((room_for clauses c.args.set.now k c.requires.core.assigned is).1)

pub enter-requires-clause-room : goal.enter-requires-clause-room
enter-requires-clause-room c =
    let clauses = lists c.args.clauses.now in
    let set = c.args.set.now in
    let n = c.args.number in
    let same : c.deref.result.now ≡ clause_at clauses n = c.deref.ensures.value ∙ at_number c.args.clauses.now n c.index-clauses-number.result c.requires.number c.index-clauses-number.is in
    let k = c.in-Some.literal in
    let P : List ℤ → Type 0 = λ cl. Contains cl k in
    let has = subst P same c.in-Some.ensures in
    let is = c.requires.core.watched.literals n c.requires.number k has in
    let below = clause_below clauses c.args.links.now set n c.requires.core c.requires.number k has in
    let fits : FitsSigned w32 k = search rules in
    let code : c.code.result ≡ code_of k = c.code.ensures ∙ ap code_of (to_z-of_z w32 k fits) in
    let back : c.opposite_code.result ≡ code_of (neg_ℤ k) = c.opposite_code.ensures ∙ ap (λ (z : ℤ). code_of (neg_ℤ z)) (to_z-of_z w32 k fits) in
    let free : IsOpen set.trail.items k = opens clauses set k c.requires.core.assigned (unmarked_read set.marks.items c.code.result (code_of k) c.index.result.now code below.0 c.index.ensures c.if-index.false) (unmarked_read set.marks.items c.opposite_code.result (code_of (neg_ℤ k)) c.index-2.result.now back below.1 c.index-2.ensures c.if-index-2.false) in
    room_left clauses set k c.requires.core.assigned is free

pub returns : goal.returns
returns c =
    let clauses = lists c.args.clauses.now in
    let set = c.args.set.now in
    let n = c.args.number in
    let same : c.deref.result.now ≡ clause_at clauses n = c.deref.ensures.value ∙ at_number c.args.clauses.now n c.index-clauses-number.result c.requires.number c.index-clauses-number.is in
    let k = c.in-Some.literal in
    let P : List ℤ → Type 0 = λ cl. Contains cl k in
    let has = subst P same c.in-Some.ensures in
    let below = clause_below clauses c.args.links.now set n c.requires.core c.requires.number k has in
    let fits : FitsSigned w32 k = search rules in
    let code : c.code.result ≡ code_of k = c.code.ensures ∙ ap code_of (to_z-of_z w32 k fits) in
    let back : c.opposite_code.result ≡ code_of (neg_ℤ k) = c.opposite_code.ensures ∙ ap (λ (z : ℤ). code_of (neg_ℤ z)) (to_z-of_z w32 k fits) in
    let free : IsOpen set.trail.items k = opens clauses set k c.requires.core.assigned (unmarked_read set.marks.items c.code.result (code_of k) c.index.result.now code below.0 c.index.ensures c.if-index.false) (unmarked_read set.marks.items c.opposite_code.result (code_of (neg_ℤ k)) c.index-2.result.now back below.1 c.index-2.ensures c.if-index-2.false) in
    let R : ℤ → Type 0 = λ z. Enters set c.enter.new.self z (Some n) in
    passes_unit clauses c.args.links.now set c.enter.new.self n k c.requires.core c.requires.number c.requires.short has free (subst R (to_z-of_z w32 k fits) c.enter.ensures)
