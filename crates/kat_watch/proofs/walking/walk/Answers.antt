use Rattle.std.proofs.Common.{◌≡◌, ℕ, ◌/◌, ◌<◌, ℤ, neg_ℤ, Option, Some, None, sym, ap, ◌∙◌, arith, rules, subst, Contains, FitsSigned, to_z, of_z}
use Rattle.std.specs.Int.{w32}
use Rattle.std.proofs.lemmas.Int.{to_z-of_z}
use Rattle.kat_clause.specs.Clauses.{lists}
use Rattle.kat_clause.specs.Literals.{code_of}
use Rattle.kat_links.specs.Lists.{Lists, list_at, head, with_first, without}
use Rattle.kat_watch.specs.States.{Enters, Walks}
use Rattle.kat_watch.proofs.Cores.{after}
use Rattle.kat_watch.proofs.Cursors.{left}
use Rattle.kat_watch.proofs.Walks.{Walking, walking_start, walking_end, walking_listed, walking_done, walking_moved, walking_forced, walking_falsified, moves_list, forced_literal, room_for, code_small, list_in, false_literal}
use Rattle.kat_watch.proofs.Calls.{room_left}
use Rattle.kat_watch.proofs.walking.walk.Goals as goal

pub overflow_cast-code : goal.overflow_cast-code
overflow_cast-code c =
    let fits : FitsSigned w32 c.args.falsified = search rules in
    let same = to_z-of_z w32 c.args.falsified fits in
    let code : c.code.result ≡ code_of c.args.falsified = c.code.ensures ∙ ap code_of same in
    let core = c.requires.core in
    let inside = list_in (lists c.args.clauses.now) c.args.links.now c.args.set.now c.args.falsified core (false_literal (lists c.args.clauses.now) c.args.links.now c.args.set.now c.args.falsified core c.requires.falsified) in
    omega (arith, code, code_small (lists c.args.clauses.now) c.args.links.now c.args.set.now (code_of c.args.falsified) core inside)

pub first-next-requires : goal.first-next-requires
first-next-requires c =
    let fits : FitsSigned w32 c.args.falsified = search rules in
    let same = to_z-of_z w32 c.args.falsified fits in
    let code : c.code.result ≡ code_of c.args.falsified = c.code.ensures ∙ ap code_of same in
    let core = c.requires.core in
    omega (arith, code, list_in (lists c.args.clauses.now) c.args.links.now c.args.set.now c.args.falsified core (false_literal (lists c.args.clauses.now) c.args.links.now c.args.set.now c.args.falsified core c.requires.falsified))

pub items-init : goal.items-init
items-init c =
    let fits : FitsSigned w32 c.args.falsified = search rules in
    let same = to_z-of_z w32 c.args.falsified fits in
    let P : ℤ → Type 0 = λ k. Contains c.args.set.now.trail.items (neg_ℤ k) in
    walking_start (lists c.args.clauses.now) c.args.links.now c.args.set.now (to_z w32 (of_z w32 c.args.falsified)) c.first-next.result c.requires.core (subst P (sym same) c.requires.falsified)
    (c.first-next.ensures ∙ ap (λ (n : ℕ). head (list_at c.args.links.now.lists n)) c.code.ensures)

pub next-next-requires : goal.next-next-requires
next-next-requires c =
    let P : Option ℕ → Type 0 = Walking (lists c.args.clauses.now) c.args.set.now c.items.links c.items.set (to_z w32 (of_z w32 c.args.falsified)) in
    walking_listed (lists c.args.clauses.now) c.args.set.now c.items.links c.items.set (to_z w32 (of_z w32 c.args.falsified)) c.in-Some.item (subst P c.in-Some.is c.items.invariant)

pub look_up-requires-clause-core : goal.look_up-requires-clause-core
look_up-requires-clause-core c = c.items.invariant.core

pub look_up-requires-clause-listed : goal.look_up-requires-clause-listed
look_up-requires-clause-listed c =
    let P : Option ℕ → Type 0 = Walking (lists c.args.clauses.now) c.args.set.now c.items.links c.items.set (to_z w32 (of_z w32 c.args.falsified)) in
    walking_listed (lists c.args.clauses.now) c.args.set.now c.items.links c.items.set (to_z w32 (of_z w32 c.args.falsified)) c.in-Some.item (subst P c.in-Some.is c.items.invariant)

pub items-smaller-in-Done : goal.items-smaller-in-Done
items-smaller-in-Done c =
    let f = to_z w32 (of_z w32 c.args.falsified) in
    let P : Option ℕ → Type 0 = Walking (lists c.args.clauses.now) c.args.set.now c.items.links c.items.set f in
    let Q : Option ℕ → Type 0 = λ o. left c.items.links.lists f c.next-next.result < left c.items.links.lists f o in
    subst Q (sym c.in-Some.is) (walking_done (lists c.args.clauses.now) c.args.set.now c.items.links c.items.set f c.in-Some.item c.next-next.result c.tells_arranged.ensures (subst P c.in-Some.is c.items.invariant) c.next-next.ensures c.in-Done.ensures).1

pub items-preserved-in-Done : goal.items-preserved-in-Done
items-preserved-in-Done c =
    let f = to_z w32 (of_z w32 c.args.falsified) in
    let P : Option ℕ → Type 0 = Walking (lists c.args.clauses.now) c.args.set.now c.items.links c.items.set f in
    (walking_done (lists c.args.clauses.now) c.args.set.now c.items.links c.items.set f c.in-Some.item c.next-next.result c.tells_arranged.ensures (subst P c.in-Some.is c.items.invariant) c.next-next.ensures c.in-Done.ensures).0

pub overflow_cast-code-in-Moves : goal.overflow_cast-code-in-Moves
overflow_cast-code-in-Moves c =
    let f = to_z w32 (of_z w32 c.args.falsified) in
    let k = c.in-Moves.literal in
    let fits : FitsSigned w32 k = search rules in
    let code : c.code-in-Moves.result ≡ code_of k = c.code-in-Moves.ensures ∙ ap code_of (to_z-of_z w32 k fits) in
    let P : Option ℕ → Type 0 = Walking (lists c.args.clauses.now) c.args.set.now c.items.links c.items.set f in
    let inside = moves_list (lists c.args.clauses.now) c.args.set.now c.items.links c.items.set f c.in-Some.item k c.tells_arranged.ensures (subst P c.in-Some.is c.items.invariant) c.in-Moves.ensures in
    omega (arith, code, code_small (lists c.args.clauses.now) c.items.links c.items.set (code_of k) c.items.invariant.core inside)

pub move_to_front-requires-clause-list : goal.move_to_front-requires-clause-list
move_to_front-requires-clause-list c =
    let f = to_z w32 (of_z w32 c.args.falsified) in
    let k = c.in-Moves.literal in
    let fits : FitsSigned w32 k = search rules in
    let code : c.code-in-Moves.result ≡ code_of k = c.code-in-Moves.ensures ∙ ap code_of (to_z-of_z w32 k fits) in
    let P : Option ℕ → Type 0 = Walking (lists c.args.clauses.now) c.args.set.now c.items.links c.items.set f in
    omega (arith, code, moves_list (lists c.args.clauses.now) c.args.set.now c.items.links c.items.set f c.in-Some.item k c.tells_arranged.ensures (subst P c.in-Some.is c.items.invariant) c.in-Moves.ensures)

pub move_to_front-requires-clause-listed : goal.move_to_front-requires-clause-listed
move_to_front-requires-clause-listed c =
    let P : Option ℕ → Type 0 = Walking (lists c.args.clauses.now) c.args.set.now c.items.links c.items.set (to_z w32 (of_z w32 c.args.falsified)) in
    walking_listed (lists c.args.clauses.now) c.args.set.now c.items.links c.items.set (to_z w32 (of_z w32 c.args.falsified)) c.in-Some.item (subst P c.in-Some.is c.items.invariant)

pub items-smaller-in-Moves : goal.items-smaller-in-Moves
items-smaller-in-Moves c =
    let f = to_z w32 (of_z w32 c.args.falsified) in
    let k = c.in-Moves.literal in
    let fits : FitsSigned w32 k = search rules in
    let code : c.code-in-Moves.result ≡ code_of k = c.code-in-Moves.ensures ∙ ap code_of (to_z-of_z w32 k fits) in
    let P : Option ℕ → Type 0 = Walking (lists c.args.clauses.now) c.args.set.now c.items.links c.items.set f in
    let G : ℕ → Lists = λ n. record { items = c.items.links.items; lists = with_first n c.in-Some.item (without c.in-Some.item c.items.links.lists) } in
    let more : c.move_to_front.new.self ≡ after c.items.links k c.in-Some.item = c.move_to_front.ensures ∙ ap G code in
    let Q : Option ℕ → Type 0 = λ o. left c.move_to_front.new.self.lists f c.next-next.result < left c.items.links.lists f o in
    subst Q (sym c.in-Some.is) (walking_moved (lists c.args.clauses.now) c.args.set.now c.items.links c.move_to_front.new.self c.items.set f c.in-Some.item c.next-next.result k c.tells_arranged.ensures (subst P c.in-Some.is c.items.invariant) c.next-next.ensures c.in-Moves.ensures more).1

pub items-preserved-in-Moves : goal.items-preserved-in-Moves
items-preserved-in-Moves c =
    let f = to_z w32 (of_z w32 c.args.falsified) in
    let k = c.in-Moves.literal in
    let fits : FitsSigned w32 k = search rules in
    let code : c.code-in-Moves.result ≡ code_of k = c.code-in-Moves.ensures ∙ ap code_of (to_z-of_z w32 k fits) in
    let P : Option ℕ → Type 0 = Walking (lists c.args.clauses.now) c.args.set.now c.items.links c.items.set f in
    let G : ℕ → Lists = λ n. record { items = c.items.links.items; lists = with_first n c.in-Some.item (without c.in-Some.item c.items.links.lists) } in
    let more : c.move_to_front.new.self ≡ after c.items.links k c.in-Some.item = c.move_to_front.ensures ∙ ap G code in
    (walking_moved (lists c.args.clauses.now) c.args.set.now c.items.links c.move_to_front.new.self c.items.set f c.in-Some.item c.next-next.result k c.tells_arranged.ensures (subst P c.in-Some.is c.items.invariant) c.next-next.ensures c.in-Moves.ensures more).0

pub enter-requires-clause-mark : goal.enter-requires-clause-mark
enter-requires-clause-mark c =
    let f = to_z w32 (of_z w32 c.args.falsified) in
    let k = c.in-Forced.literal in
    let fits : FitsSigned w32 k = search rules in
    let P : Option ℕ → Type 0 = Walking (lists c.args.clauses.now) c.args.set.now c.items.links c.items.set f in
    let is = forced_literal (lists c.args.clauses.now) c.args.set.now c.items.links c.items.set f c.in-Some.item k c.tells_arranged.ensures (subst P c.in-Some.is c.items.invariant) c.in-Forced.ensures in
    rw (to_z-of_z w32 k fits) ((room_for (lists c.args.clauses.now) c.items.set k c.items.invariant.core.assigned is).0)

pub enter-requires-clause-variable : goal.enter-requires-clause-variable
enter-requires-clause-variable c =
    let f = to_z w32 (of_z w32 c.args.falsified) in
    let k = c.in-Forced.literal in
    let fits : FitsSigned w32 k = search rules in
    let P : Option ℕ → Type 0 = Walking (lists c.args.clauses.now) c.args.set.now c.items.links c.items.set f in
    let is = forced_literal (lists c.args.clauses.now) c.args.set.now c.items.links c.items.set f c.in-Some.item k c.tells_arranged.ensures (subst P c.in-Some.is c.items.invariant) c.in-Forced.ensures in
    rw (to_z-of_z w32 k fits) ((room_for (lists c.args.clauses.now) c.items.set k c.items.invariant.core.assigned is).1)

pub enter-requires-clause-room : goal.enter-requires-clause-room
enter-requires-clause-room c =
    let f = to_z w32 (of_z w32 c.args.falsified) in
    let k = c.in-Forced.literal in
    let P : Option ℕ → Type 0 = Walking (lists c.args.clauses.now) c.args.set.now c.items.links c.items.set f in
    let is = forced_literal (lists c.args.clauses.now) c.args.set.now c.items.links c.items.set f c.in-Some.item k c.tells_arranged.ensures (subst P c.in-Some.is c.items.invariant) c.in-Forced.ensures in
    room_left (lists c.args.clauses.now) c.items.set k c.items.invariant.core.assigned is c.in-Forced.ensures.2

pub items-smaller : goal.items-smaller
items-smaller c =
    let f = to_z w32 (of_z w32 c.args.falsified) in
    let k = c.in-Forced.literal in
    let fits : FitsSigned w32 k = search rules in
    let P : Option ℕ → Type 0 = Walking (lists c.args.clauses.now) c.args.set.now c.items.links c.items.set f in
    let R : ℤ → Type 0 = λ z. Enters c.items.set c.enter.new.self z (Some (c.in-Some.item / 2)) in
    let Q : Option ℕ → Type 0 = λ o. left c.items.links.lists f c.next-next.result < left c.items.links.lists f o in
    subst Q (sym c.in-Some.is) (walking_forced (lists c.args.clauses.now) c.args.set.now c.items.links c.items.set c.enter.new.self f c.in-Some.item c.next-next.result k c.tells_arranged.ensures (subst P c.in-Some.is c.items.invariant) c.next-next.ensures c.in-Forced.ensures (subst R (to_z-of_z w32 k fits) c.enter.ensures)).1

pub items-preserved : goal.items-preserved
items-preserved c =
    let f = to_z w32 (of_z w32 c.args.falsified) in
    let k = c.in-Forced.literal in
    let fits : FitsSigned w32 k = search rules in
    let P : Option ℕ → Type 0 = Walking (lists c.args.clauses.now) c.args.set.now c.items.links c.items.set f in
    let R : ℤ → Type 0 = λ z. Enters c.items.set c.enter.new.self z (Some (c.in-Some.item / 2)) in
    (walking_forced (lists c.args.clauses.now) c.args.set.now c.items.links c.items.set c.enter.new.self f c.in-Some.item c.next-next.result k c.tells_arranged.ensures (subst P c.in-Some.is c.items.invariant) c.next-next.ensures c.in-Forced.ensures (subst R (to_z-of_z w32 k fits) c.enter.ensures)).0

pub returns-in-Falsified : goal.returns-in-Falsified
returns-in-Falsified c =
    let f = to_z w32 (of_z w32 c.args.falsified) in
    let fits : FitsSigned w32 c.args.falsified = search rules in
    let P : Option ℕ → Type 0 = Walking (lists c.args.clauses.now) c.args.set.now c.items.links c.items.set f in
    let Q : ℤ → Type 0 = λ z. Walks (lists c.args.clauses.now) c.items.links c.args.set.now c.items.set z (Some (c.in-Some.item / 2)) in
    subst Q (to_z-of_z w32 c.args.falsified fits) (walking_falsified (lists c.args.clauses.now) c.args.set.now c.items.links c.items.set f c.in-Some.item c.tells_arranged.ensures (subst P c.in-Some.is c.items.invariant) c.in-Falsified.ensures)

pub returns : goal.returns
returns c =
    let f = to_z w32 (of_z w32 c.args.falsified) in
    let fits : FitsSigned w32 c.args.falsified = search rules in
    let P : Option ℕ → Type 0 = Walking (lists c.args.clauses.now) c.args.set.now c.items.links c.items.set f in
    let Q : ℤ → Type 0 = λ z. Walks (lists c.args.clauses.now) c.items.links c.args.set.now c.items.set z None in
    subst Q (to_z-of_z w32 c.args.falsified fits) (walking_end (lists c.args.clauses.now) c.args.set.now c.items.links c.items.set f (subst P c.in_default.is c.items.invariant))
