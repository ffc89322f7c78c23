-- What is always so of the fields, as literals are assigned and items move.
use Rattle.std.proofs.Common.{◌≡◌, ◌≢◌, ℕ, ◌+◌, ◌*◌, ◌/◌, ◌<◌, ◌≤◌, ℤ, pos, neg_ℤ, unsigned_abs, Bool, true, false, List, [], ◌∷◌, ◌++◌, length, get_or, set, take, ◌⊎◌, inl, inr, ⊎_elim, refl, sym, ap, ◌∙◌, arith, subst, Contains, Option, Some}
use Rattle.std.proofs.Math.IntN.{neg_ℤ-neg_ℤ}
use Rattle.std.proofs.lemmas.Bool.{cases_eq, cases_lt, cases_Bool, false≢true}
use Rattle.std.proofs.lemmas.List.{length-set, length_push, take_at, get_or_append_left, get_or_default}
use Rattle.std.proofs.lemmas.List.Elements.{Contains-push_cases, Contains-append_left}
use Rattle.kat_clause.specs.Literals.{code_of}
use Rattle.kat_clause.specs.Tables.{clause_at}
use Rattle.kat_clause.specs.Propagations.{unmarked, IsSettled}
use Rattle.kat_clause.proofs.Codes.{code_of-same, unmarked-set, cases_literal}
use Rattle.kat_clause.proofs.Runs.{Contains-take}
use Rattle.kat_links.specs.Lists.{Lists, list_at, IsArranged}
use Rattle.kat_watch.specs.declared.assignment.Assignment.{Assignment}
use Rattle.kat_watch.specs.Watched.{Step, IsLiteral, IsOpen, IsReason, IsSupported, AreSupported, Grows, IsQuiet}
use Rattle.kat_watch.specs.States.{steps_of, steps, at, IsSet, IsAssignment, partner, Holds, IsWatched, AreWatched, IsDone, place_at, AreWalked, HasTrue, IsCore, IsState, Enters, Advances}
use Rattle.kat_watch.proofs.Moves.{moved, moved_size, in_moved, moved_in, moved_here, partner_even, partner_odd, half_even, half_odd}
use Rattle.kat_watch.proofs.Sets.{literals_of, at_in, in_at, opposite_differs, literal_below, set_enters, steps_push, grows_push, grows_same, grows_trans, supported_push, take_more}

-- A LITERAL IS ASSIGNED

pub steps_enters : (clauses : List (List ℤ)) (old new : Assignment) (m : ℤ) (r : Option ℕ) → IsLiteral old.greatest m → IsOpen old.trail.items m → Enters old new m r → IsAssignment clauses old
    → steps new ≡ steps old ++ record { literal = m; reason = r } ∷ []
steps_enters clauses old new m r is opens enters was =
    (λ i. steps_of (enters.reasons i) (enters.trail i)) ∙ steps_push old.reasons.items old.trail.items m r (omega (arith, is.1, was.reasons)) opens

count_enters : (clauses : List (List ℤ)) (old new : Assignment) (m : ℤ) (r : Option ℕ) → IsLiteral old.greatest m → IsOpen old.trail.items m → Enters old new m r → IsAssignment clauses old
    → unmarked new.marks.items + length new.trail.items ≡ unmarked old.marks.items + length old.trail.items
count_enters clauses old new m r is opens enters was =
    let below : code_of m < length old.marks.items = omega (arith, (literal_below old.greatest m is).0, was.marks) in
    let less : unmarked (set old.marks.items (code_of m) true) + 1 ≡ unmarked old.marks.items = unmarked-set old.marks.items (code_of m) below (λ marked. opens.0 (was.set.listed m marked)) in
    rw (enters.marks, enters.trail) (omega (arith, less, length_push old.trail.items m))

pub assigned_enters : (clauses : List (List ℤ)) (old new : Assignment) (m : ℤ) (r : Option ℕ) → IsLiteral old.greatest m → IsOpen old.trail.items m → Enters old new m r → IsSupported clauses old.trail.items m r → IsAssignment clauses old → IsAssignment clauses new
assigned_enters clauses old new m r is opens enters by was =
    let below : code_of m < length old.marks.items = omega (arith, (literal_below old.greatest m is).0, was.marks) in
    let P : List ℤ → Type 0 = λ t. IsSupported clauses t m r in
    let Q : List Step → Type 0 = AreSupported clauses in
    record {
      limit = omega (arith, was.limit, enters.greatest);
      marks = omega (arith, ap length enters.marks, length-set old.marks.items (code_of m) true, was.marks, enters.greatest);
      reasons = omega (arith, ap length enters.reasons, length-set old.reasons.items (unsigned_abs m) r, was.reasons, enters.greatest);
      set = rw (enters.marks, enters.trail) (set_enters old.marks.items old.trail.items m below (opposite_differs m is.0) opens was.set);
      literals = λ k has.
          let R : List ℤ → Type 0 = λ t. Contains t k in
          let known : IsLiteral old.greatest k = ⊎_elim (λ (in' : Contains old.trail.items k). was.literals k in') (λ (e : m ≡ k). subst (IsLiteral old.greatest) e is) (Contains-push_cases old.trail.items m k (subst R enters.trail has)) in
          let S : ℕ → Type 0 = λ g. IsLiteral g k in subst S (sym enters.greatest) known;
      count = omega (arith, count_enters clauses old new m r is opens enters was, was.count, enters.greatest);
      room = omega (arith, was.room, enters.room, enters.greatest);
      reach = omega (arith, was.reach, ap length enters.reach, enters.greatest);
      supported = subst Q (sym (steps_enters clauses old new m r is opens enters was)) (supported_push clauses (steps old) m r (subst P (sym (literals_of old.reasons.items old.trail.items)) by) was.supported);
    }

pub advances_enters : (clauses : List (List ℤ)) (old new : Assignment) (m : ℤ) (c : ℕ) → IsLiteral old.greatest m → IsOpen old.trail.items m → Enters old new m (Some c) → IsReason clauses old.trail.items m c → IsAssignment clauses old → Advances clauses old new
advances_enters clauses old new m c is opens enters by was = record {
  greatest = enters.greatest;
  grows =
      let P : List ℤ → Type 0 = λ t. IsReason clauses t m c in
      let Q : List ℤ → Type 0 = λ t. IsOpen t m in
      let same = sym (literals_of old.reasons.items old.trail.items) in
      subst (Grows clauses (steps old)) (sym (steps_enters clauses old new m (Some c) is opens enters was)) (grows_push clauses (steps old) m c (subst P same by) (subst Q same opens));
  count = count_enters clauses old new m (Some c) is opens enters was;
}

pub advances_same : (clauses : List (List ℤ)) (a : Assignment) → Advances clauses a a
advances_same clauses a = record { greatest = refl; grows = grows_same clauses (steps a); count = refl }

pub advances_trans : (clauses : List (List ℤ)) (a b c : Assignment) → Advances clauses a b → Advances clauses b c → Advances clauses a c
advances_trans clauses a b c f g = record {
  greatest = g.greatest ∙ f.greatest;
  grows = grows_trans clauses (steps a) (steps b) (steps c) f.grows g.grows;
  count = g.count ∙ f.count;
}

pub done_more : (lists : List (List ℕ)) (trail : List ℤ) (m : ℤ) (x : ℕ) → IsDone lists trail x → IsDone lists (trail ++ m ∷ []) x
done_more lists trail m x is = (is.0, is.1, Contains-append_left trail (m ∷ []) is.0 is.2)

pub walked_more : (lists : List (List ℕ)) (trail : List ℤ) (m : ℤ) (reach : List ℕ) (looked : ℕ) → AreWalked lists trail reach looked → AreWalked lists (trail ++ m ∷ []) reach looked
walked_more lists trail m reach looked are = record {
  within = omega (arith, are.within, length_push trail m);
  far = λ j h. omega (arith, are.far j h, length_push trail m);
  climb = are.climb;
  done = λ j x h holds.
      let same : at (trail ++ m ∷ []) j ≡ at trail j = get_or_append_left trail (m ∷ []) (pos 0) j (omega (arith, h, are.within)) in
      let P : ℤ → Type 0 = λ k. Holds lists (neg_ℤ k) x in
      let was = are.done j x h (subst P same holds) in
      (was.0, was.1, take_more (place_at reach j) trail (trail ++ m ∷ []) (take_at trail (m ∷ []) (length trail) refl) was.0 was.2);
}

pub core_enters : (clauses : List (List ℤ)) (lists : Lists) (old new : Assignment) (m : ℤ) (r : Option ℕ) → IsLiteral old.greatest m → IsOpen old.trail.items m → Enters old new m r → IsSupported clauses old.trail.items m r → IsCore clauses lists old → IsCore clauses lists new
core_enters clauses lists old new m r is opens enters by was = record {
  assigned = assigned_enters clauses old new m r is opens enters by was.assigned;
  watched = let P : ℕ → Type 0 = λ g. AreWatched g clauses lists in subst P (sym enters.greatest) was.watched;
  walked = rw (enters.trail, enters.reach, enters.looked) (walked_more lists.lists old.trail.items m old.reach.items old.looked was.walked);
}

-- AN ITEM MOVES

-- What is known once an item of the list of a false literal moves to that of one that isn't false.
pub record Goes (clauses : List (List ℤ)) (lists : Lists) (a : Assignment) (f : ℤ) (y : ℕ) (k : ℤ) : Type 0 where
  pub arranged : IsArranged lists
  pub core : IsCore clauses lists a
  pub false : Contains a.trail.items (neg_ℤ f)
  pub from : Holds lists.lists f y
  pub has : Contains (clause_at clauses (y / 2)) k
  pub free : Contains a.trail.items (neg_ℤ k) → ⊥
  pub apart : Holds lists.lists k (partner y) → ⊥

abbrev pub after : Lists → ℤ → ℕ → Lists
after lists k y = record { items = lists.items; lists = moved (code_of k) y lists.lists }

-- an item is in the list of one literal
pub one_literal : (lists : Lists) → IsArranged lists → (j k : ℤ) (x : ℕ) → Holds lists.lists j x → Holds lists.lists k x → j ≡ k
one_literal lists arranged j k x a b = code_of-same j k (arranged.apart (code_of j) (code_of k) x a b)

-- an item's clause has two literals, and exists
pub item_clause : (g : ℕ) (clauses : List (List ℤ)) (lists : Lists) (l x : ℕ) → IsArranged lists → AreWatched g clauses lists → Contains (list_at lists.lists l) x → (x / 2 < length clauses) × (2 ≤ length (clause_at clauses (x / 2)))
item_clause g clauses lists l x arranged are has = (omega (arith, arranged.below l x has, are.items), are.long l x has)

k_literal : (clauses : List (List ℤ)) (lists : Lists) (a : Assignment) (f : ℤ) (y : ℕ) (k : ℤ) → Goes clauses lists a f y k → IsLiteral a.greatest k
k_literal clauses lists a f y k goes =
    let clause = item_clause a.greatest clauses lists (code_of f) y goes.arranged goes.core.watched goes.from in
    goes.core.watched.literals (y / 2) clause.0 k goes.has

k_list : (clauses : List (List ℤ)) (lists : Lists) (a : Assignment) (f : ℤ) (y : ℕ) (k : ℤ) → Goes clauses lists a f y k → code_of k < length lists.lists
k_list clauses lists a f y k goes = omega (arith, (literal_below a.greatest k (k_literal clauses lists a f y k goes)).0, goes.core.watched.size)

-- what is done stays so
pub done_after : (clauses : List (List ℤ)) (lists : Lists) (a : Assignment) (f : ℤ) (y : ℕ) (k : ℤ) (x : ℕ) (front : List ℤ) → ((z : ℤ) → Contains front z → Contains a.trail.items z) → Goes clauses lists a f y k → IsDone lists.lists front x → IsDone (after lists k y).lists front x
done_after clauses lists a f y k x front within goes is = ⊎_elim {C = IsDone (after lists k y).lists front x}
    (λ (e : partner x ≡ y).
    let P : ℕ → Type 0 = Holds lists.lists is.0 in
    let same : is.0 ≡ f = one_literal lists goes.arranged is.0 f y (subst P e is.1) goes.from in
    let Q : ℤ → Type 0 = Contains a.trail.items in
    absurd (goes.core.assigned.set.apart f (subst Q same (within is.0 is.2)) goes.false))
    (λ (ne : partner x ≡ y → ⊥). (is.0, moved_in (code_of k) y lists.lists (code_of is.0) (partner x) (k_list clauses lists a f y k goes) ne is.1, is.2))
    (cases_eq (partner x) y)

watched_one : (clauses : List (List ℤ)) (lists : Lists) (a : Assignment) (f : ℤ) (y : ℕ) (k : ℤ) (c : ℕ) → Goes clauses lists a f y k → IsWatched (clause_at clauses c) lists.lists c → IsWatched (clause_at clauses c) (after lists k y).lists c
watched_one clauses lists a f y k c goes w =
    let inside : code_of k < length lists.lists = k_list clauses lists a f y k goes in
    let stays : (j : ℤ) (x : ℕ) → x ≢ y → Holds lists.lists j x → Holds (after lists k y).lists j x = λ j x ne has. moved_in (code_of k) y lists.lists (code_of j) x inside ne has in
    let comes : Holds (after lists k y).lists k y = moved_here (code_of k) y lists.lists inside in
    let P : ℕ → Type 0 = λ n. Contains (clause_at clauses n) k in
    ⊎_elim {C = IsWatched (clause_at clauses c) (after lists k y).lists c}
    (λ (e : 2 * c ≡ y). record {
      one = k;
      two = w.two;
      has_one = let half : y / 2 ≡ c = ap (λ (n : ℕ). n / 2) (sym e) ∙ half_even c in subst P half goes.has;
      has_two = w.has_two;
      differ = λ same. goes.apart (let Q : ℤ → Type 0 = λ j. Holds lists.lists j (partner y) in
          let other : 2 * c + 1 ≡ partner y = sym (partner_even c) ∙ ap partner e in
          subst Q (sym same) (subst (Holds lists.lists w.two) other w.holds_two));
      holds_one = subst (Holds (after lists k y).lists k) (sym e) comes;
      holds_two = stays w.two (2 * c + 1) (λ g. omega (arith, e, g)) w.holds_two;
    })
    (λ (ne : 2 * c ≡ y → ⊥). ⊎_elim {C = IsWatched (clause_at clauses c) (after lists k y).lists c}
    (λ (e : 2 * c + 1 ≡ y). record {
      one = w.one;
      two = k;
      has_one = w.has_one;
      has_two = let half : y / 2 ≡ c = ap (λ (n : ℕ). n / 2) (sym e) ∙ half_odd c in subst P half goes.has;
      differ = λ same. goes.apart (let Q : ℤ → Type 0 = λ j. Holds lists.lists j (partner y) in
          let other : 2 * c ≡ partner y = sym (partner_odd c) ∙ ap partner e in
          subst Q same (subst (Holds lists.lists w.one) other w.holds_one));
      holds_one = stays w.one (2 * c) ne w.holds_one;
      holds_two = subst (Holds (after lists k y).lists k) (sym e) comes;
    })
    (λ (nf : 2 * c + 1 ≡ y → ⊥). record {
      one = w.one;
      two = w.two;
      has_one = w.has_one;
      has_two = w.has_two;
      differ = w.differ;
      holds_one = stays w.one (2 * c) ne w.holds_one;
      holds_two = stays w.two (2 * c + 1) nf w.holds_two;
    })
    (cases_eq (2 * c + 1) y))
    (cases_eq (2 * c) y)

pub core_after : (clauses : List (List ℤ)) (lists : Lists) (a : Assignment) (f : ℤ) (y : ℕ) (k : ℤ) → Goes clauses lists a f y k → IsCore clauses (after lists k y) a
core_after clauses lists a f y k goes =
    let are = goes.core.watched in
    let inside : code_of k < length lists.lists = k_list clauses lists a f y k goes in
    record {
      assigned = goes.core.assigned;
      watched = record {
        limit = are.limit;
        literals = are.literals;
        items = are.items;
        size = moved_size (code_of k) y lists.lists ∙ are.size;
        long = λ l x has. ⊎_elim
            (λ (m : (x ≡ y) × (l ≡ code_of k)). let P : ℕ → Type 0 = λ n. 2 ≤ length (clause_at clauses (n / 2)) in subst P (sym m.0) (are.long (code_of f) y goes.from))
            (λ (m : (x ≢ y) × Contains (list_at lists.lists l) x). are.long l x m.1)
            (in_moved (code_of k) y lists.lists l x inside has);
        watched = λ c h two. watched_one clauses lists a f y k c goes (are.watched c h two);
      };
      walked = record {
        within = goes.core.walked.within;
        far = goes.core.walked.far;
        climb = goes.core.walked.climb;
        done = λ j x h holds. ⊎_elim
            (λ (m : (x ≡ y) × (code_of (neg_ℤ (at a.trail.items j)) ≡ code_of k)).
            let same : neg_ℤ (at a.trail.items j) ≡ k = code_of-same (neg_ℤ (at a.trail.items j)) k m.1 in
            let back : at a.trail.items j ≡ neg_ℤ k = sym (neg_ℤ-neg_ℤ (at a.trail.items j)) ∙ ap neg_ℤ same in
            absurd (goes.free (subst (Contains a.trail.items) back (at_in a.trail.items j (omega (arith, h, goes.core.walked.within))))))
            (λ (m : (x ≢ y) × Holds lists.lists (neg_ℤ (at a.trail.items j)) x). done_after clauses lists a f y k x (take (place_at a.reach.items j) a.trail.items) (Contains-take (place_at a.reach.items j) a.trail.items) goes (goes.core.walked.done j x h m.1))
            (in_moved (code_of k) y lists.lists (code_of (neg_ℤ (at a.trail.items j))) x inside holds);
      };
    }

-- QUIET

-- a clause that is true by the first literals is true
pub true_front : (clause : List ℤ) (n : ℕ) (trail : List ℤ) → HasTrue clause (take n trail) → HasTrue clause trail
true_front clause n trail is = (is.0, is.1, Contains-take n trail is.0 is.2)

-- a clause with a true literal is settled
pub settled_true : (clause trail : List ℤ) → ((m : ℤ) → Contains trail m → Contains trail (neg_ℤ m) → ⊥) → HasTrue clause trail → IsSettled clause (λ k. Contains trail (neg_ℤ k)) (Contains trail)
settled_true clause trail apart is = record {
  unit = λ m has others. ⊎_elim
      (λ (e : is.0 ≡ m). subst (Contains trail) e is.2)
      (λ (ne : is.0 ≡ m → ⊥). absurd (apart is.0 is.2 (others is.0 is.1 ne)))
      (cases_literal is.0 m);
  unfalsified = λ all. apart is.0 is.2 (all is.0 is.1);
}

-- a clause with two literals that are not false is settled
pub settled_open : (clause trail : List ℤ) (j k : ℤ) → Contains clause j → Contains clause k → j ≢ k → (Contains trail (neg_ℤ j) → ⊥) → (Contains trail (neg_ℤ k) → ⊥) → IsSettled clause (λ k. Contains trail (neg_ℤ k)) (Contains trail)
settled_open clause trail j k in_j in_k ne free_j free_k = record {
  unit = λ m has others. ⊎_elim
      (λ (e : j ≡ m). absurd (free_k (others k in_k (λ f. ne (e ∙ sym f)))))
      (λ (differs : j ≡ m → ⊥). absurd (free_j (others j in_j differs)))
      (cases_literal j m);
  unfalsified = λ all. free_j (all j in_j);
}

-- the trail has a literal, or not
pub cases_trail : (marks : List Bool) (trail : List ℤ) (m : ℤ) → IsSet marks trail → Contains trail m ⊎ (Contains trail m → ⊥)
cases_trail marks trail m is = ⊎_elim
    (λ (e : get_or marks (code_of m) false ≡ true). inl (is.listed m e))
    (λ (e : get_or marks (code_of m) false ≡ false). inr (λ has. false≢true (sym e ∙ is.marked m has)))
    (cases_Bool (get_or marks (code_of m) false))

-- if a watched literal is false and its list is walked, the other one is true
other_true : (lists : Lists) (trail : List ℤ) (reach : List ℕ) (looked : ℕ) (j k : ℤ) (x : ℕ) → IsArranged lists → AreWalked lists.lists trail reach looked → length trail ≤ looked → Contains trail (neg_ℤ j) → Holds lists.lists j x → Holds lists.lists k (partner x) → Contains trail k
other_true lists trail reach looked j k x arranged are all denied holds_j holds_k =
    let place : at trail denied.0 ≡ neg_ℤ j = in_at trail (neg_ℤ j) denied in
    let back : j ≡ neg_ℤ (at trail denied.0) = sym (neg_ℤ-neg_ℤ j) ∙ ap neg_ℤ (sym place) in
    let P : ℤ → Type 0 = λ i. Holds lists.lists i x in
    let is = are.done denied.0 x (omega (arith, denied.1, all)) (subst P back holds_j) in
    subst (Contains trail) (one_literal lists arranged is.0 k (partner x) is.1 holds_k) (Contains-take (place_at reach denied.0) trail is.0 is.2)

quiet_long : (lists : Lists) (a : Assignment) (clause : List ℤ) (c : ℕ) → IsArranged lists → IsSet a.marks.items a.trail.items → AreWalked lists.lists a.trail.items a.reach.items a.looked → length a.trail.items ≤ a.looked → IsWatched clause lists.lists c
    → IsSettled clause (λ k. Contains a.trail.items (neg_ℤ k)) (Contains a.trail.items)
quiet_long lists a clause c arranged is are all w =
    let trail = a.trail.items in
    let P : ℤ → ℕ → Type 0 = λ k x. Holds lists.lists k x in
    ⊎_elim
    (λ (f : Contains trail (neg_ℤ w.one)).
    settled_true clause trail is.apart (w.two, w.has_two, other_true lists trail a.reach.items a.looked w.one w.two (2 * c) arranged are all f w.holds_one (subst (P w.two) (sym (partner_even c)) w.holds_two)))
    (λ (free : Contains trail (neg_ℤ w.one) → ⊥). ⊎_elim
    (λ (f : Contains trail (neg_ℤ w.two)).
    settled_true clause trail is.apart (w.one, w.has_one, other_true lists trail a.reach.items a.looked w.two w.one (2 * c + 1) arranged are all f w.holds_two (subst (P w.one) (sym (partner_odd c)) w.holds_one)))
    (λ (also : Contains trail (neg_ℤ w.two) → ⊥). settled_open clause trail w.one w.two w.has_one w.has_two w.differ free also)
    (cases_trail a.marks.items trail (neg_ℤ w.two) is))
    (cases_trail a.marks.items trail (neg_ℤ w.one) is)

-- if all lists are walked and all short clauses passed, no clause is falsified or unit
pub quiet : (clauses : List (List ℤ)) (shorts : List ℕ) (lists : Lists) (a : Assignment) → IsArranged lists → IsState clauses shorts lists a → length a.trail.items ≤ a.looked → length shorts ≤ a.seen → IsQuiet clauses a.trail.items
quiet clauses shorts lists a arranged state all seen c h = ⊎_elim
    (λ (short : length (clause_at clauses c) < 2).
    let listed = state.passed.short c h short in
    let place : get_or shorts listed.0 0 ≡ c = get_or_default shorts listed.0 0 c listed.1 ∙ listed.2 in
    let P : ℕ → Type 0 = λ n. HasTrue (clause_at clauses n) a.trail.items in
    settled_true (clause_at clauses c) a.trail.items state.core.assigned.set.apart (subst P place (true_front (clause_at clauses (get_or shorts listed.0 0)) a.base a.trail.items (state.passed.passed listed.0 (omega (arith, listed.1, seen))))))
    (λ (long : 2 ≤ length (clause_at clauses c)). quiet_long lists a (clause_at clauses c) c arranged state.core.assigned.set state.core.walked all (state.core.watched.watched c h long))
    (cases_lt (length (clause_at clauses c)) 2)
