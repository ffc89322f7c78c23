-- Whole propagations: all lists, the short clauses, and what is taken back.
use Rattle.std.proofs.Common.{◌≡◌, ◌≢◌, ℕ, zero, suc, ◌+◌, ◌<◌, ◌≤◌, ℤ, neg_ℤ, Bool, true, false, List, Vec, [], ◌∷◌, length, get_or, set, take, ⊎_elim, refl, sym, ap, ◌∙◌, arith, subst, Contains, Option, Some, None, is_some}
use Rattle.std.specs.Bool.{MatchBool}
use Rattle.std.specs.Global.{Global}
use Rattle.std.proofs.lemmas.Bool.{cases_eq}
use Rattle.std.proofs.lemmas.List.{length-set, take_all, get_or_default, get_or-set_same, get_or-set_other}
use Rattle.std.proofs.lemmas.List.Elements.{Contains-push}
use Rattle.kat_clause.specs.Literals.{code_of}
use Rattle.kat_clause.specs.Tables.{IsMarked, clause_at}
use Rattle.kat_links.specs.Lists.{Lists}
use Rattle.kat_watch.specs.declared.assignment.Assignment.{Assignment}
use Rattle.kat_watch.specs.Watched.{Step, literals, step_at, IsLiteral, IsOpen, IsReason, IsConflict}
use Rattle.kat_watch.specs.States.{steps, at, IsAssignment, IsDone, Holds, place_at, HasTrue, ArePassed, IsCore, IsState, Enters, Advances, Walks, WalksAll, Ends, EndsAll, PassesOne, PassesAll}
use Rattle.kat_watch.proofs.Sets.{literals_of, steps_size, at_in, in_at, front_step, front_literals, take_more}
use Rattle.kat_watch.proofs.Cores.{true_front, core_enters, advances_enters, advances_same, advances_trans}

-- WHAT HAS GROWN

pub trail_longer : (clauses : List (List ℤ)) (old new : Assignment) → Advances clauses old new → length old.trail.items ≤ length new.trail.items
trail_longer clauses old new on = omega (arith, on.grows.longer, steps_size old.reasons.items old.trail.items, steps_size new.reasons.items new.trail.items)

at_literals : (l : List Step) (i : ℕ) → i < length l → at (literals l) i ≡ (step_at l i).literal
at_literals [] i h = absurd (omega arith)
at_literals (s ∷ ss) zero h = refl
at_literals (s ∷ ss) (suc i) h = at_literals ss i (omega arith)

at_steps : (a : Assignment) (i : ℕ) → i < length a.trail.items → at a.trail.items i ≡ (step_at (steps a) i).literal
at_steps a i h = ap (λ (t : List ℤ). at t i) (sym (literals_of a.reasons.items a.trail.items)) ∙ at_literals (steps a) i (omega (arith, h, steps_size a.reasons.items a.trail.items))

pub trail_kept : (clauses : List (List ℤ)) (old new : Assignment) → Advances clauses old new → (i : ℕ) → i < length old.trail.items → at new.trail.items i ≡ at old.trail.items i
trail_kept clauses old new on i h =
    at_steps new i (omega (arith, h, trail_longer clauses old new on))
    ∙ ap (λ (s : Step). s.literal) (front_step (steps old) (steps new) on.grows.kept i (omega (arith, h, steps_size old.reasons.items old.trail.items)))
    ∙ sym (at_steps old i h)

pub trail_has : (clauses : List (List ℤ)) (old new : Assignment) → Advances clauses old new → (k : ℤ) → Contains old.trail.items k → Contains new.trail.items k
trail_has clauses old new on k has =
    let same : at new.trail.items has.0 ≡ k = trail_kept clauses old new on has.0 has.1 ∙ in_at old.trail.items k has in
    subst (Contains new.trail.items) same (at_in new.trail.items has.0 (omega (arith, has.1, trail_longer clauses old new on)))

-- the longer trail begins with the shorter one
pub trail_front : (clauses : List (List ℤ)) (old new : Assignment) → Advances clauses old new → take (length old.trail.items) new.trail.items ≡ old.trail.items
trail_front clauses old new on =
    let n = length (steps old) in
    let size : n ≡ length old.trail.items = steps_size old.reasons.items old.trail.items in
    let front : take n (literals (steps new)) ≡ take n (literals (steps old)) = front_literals (steps old) (steps new) on.grows.longer on.grows.kept n (omega arith) in
    let T : ℕ → List ℤ = λ m. take m new.trail.items in
    ap T (sym size) ∙ ap (take n) (sym (literals_of new.reasons.items new.trail.items)) ∙ front ∙ ap (take n) (literals_of old.reasons.items old.trail.items) ∙ take_all n old.trail.items (omega (arith, size))

true_more : (clause trail more : List ℤ) → ((k : ℤ) → Contains trail k → Contains more k) → HasTrue clause trail → HasTrue clause more
true_more clause trail more grows is = (is.0, is.1, grows is.0 is.2)

pub passed_more : (clauses : List (List ℤ)) (shorts : List ℕ) (trail more : List ℤ) (seen base : ℕ) → take (length trail) more ≡ trail → ArePassed clauses shorts trail seen base → ArePassed clauses shorts more seen base
passed_more clauses shorts trail more seen base front are = record {
  within = are.within;
  numbers = are.numbers;
  short = are.short;
  passed = λ j h. true_more (clause_at clauses (get_or shorts j 0)) (take base trail) (take base more) (take_more base trail more front) (are.passed j h);
}

-- ALL LISTS

-- one list more has been walked
pub core_looked : (clauses : List (List ℤ)) (lists : Lists) (a : Assignment) (r : Vec ℕ Global) → r.items ≡ set a.reach.items a.looked (length a.trail.items) → a.looked < length a.trail.items → ((x : ℕ) → Holds lists.lists (neg_ℤ (at a.trail.items a.looked)) x → IsDone lists.lists a.trail.items x) → IsCore clauses lists a
    → IsCore clauses lists (record a { reach = r; looked = a.looked + 1 })
core_looked clauses lists a r e h done core =
    let size = length a.trail.items in
    let inside : a.looked < length a.reach.items = omega (arith, h, core.assigned.count, core.assigned.reach) in
    let R : List ℕ → ℕ → ℕ = λ ps j. place_at ps j in
    let here : place_at r.items a.looked ≡ size = ap (λ (ps : List ℕ). place_at ps a.looked) e ∙ get_or-set_same a.reach.items a.looked size 0 inside in
    let other : (j : ℕ) → j ≢ a.looked → place_at r.items j ≡ place_at a.reach.items j = λ j ne. ap (λ (ps : List ℕ). place_at ps j) e ∙ get_or-set_other a.reach.items a.looked j size 0 ne in
    let before : (j : ℕ) → j < a.looked → place_at r.items j ≡ place_at a.reach.items j = λ j less. other j (λ f. omega (arith, less, f)) in
    record {
      assigned = record {
        limit = core.assigned.limit;
        marks = core.assigned.marks;
        reasons = core.assigned.reasons;
        set = core.assigned.set;
        literals = core.assigned.literals;
        count = core.assigned.count;
        room = core.assigned.room;
        reach = ap length e ∙ length-set a.reach.items a.looked size ∙ core.assigned.reach;
        supported = core.assigned.supported;
      };
      watched = core.watched;
      walked = record {
        within = omega (arith, h);
        far = λ j below. ⊎_elim {C = place_at r.items j ≤ size}
            (λ (f : j ≡ a.looked). let P : ℕ → Type 0 = λ n. place_at r.items n ≤ size in subst P (sym f) (omega (arith, here)))
            (λ (ne : j ≡ a.looked → ⊥). omega (arith, other j ne, core.walked.far j (omega (arith, below, ne))))
            (cases_eq j a.looked);
        climb = λ i j le below. ⊎_elim {C = place_at r.items i ≤ place_at r.items j}
            (λ (f : j ≡ a.looked). ⊎_elim {C = place_at r.items i ≤ place_at r.items j}
            (λ (g : i ≡ a.looked). let P : ℕ → Type 0 = λ n. place_at r.items n ≤ place_at r.items j in subst P (f ∙ sym g) (omega arith))
            (λ (ne : i ≡ a.looked → ⊥).
            let P : ℕ → Type 0 = λ n. place_at r.items i ≤ place_at r.items n in
            subst P (sym f) (omega (arith, here, other i ne, core.walked.far i (omega (arith, le, f, ne)))))
            (cases_eq i a.looked))
            (λ (ne : j ≡ a.looked → ⊥).
            let less : j < a.looked = omega (arith, below, ne) in
            omega (arith, before i (omega (arith, le, less)), before j less, core.walked.climb i j le less))
            (cases_eq j a.looked);
        done = λ j x below holds. ⊎_elim {C = IsDone lists.lists (take (place_at r.items j) a.trail.items) x}
            (λ (f : j ≡ a.looked).
            let P : ℕ → Type 0 = λ n. Holds lists.lists (neg_ℤ (at a.trail.items n)) x in
            let T : ℕ → List ℤ = λ n. take n a.trail.items in
            let whole : take (place_at r.items j) a.trail.items ≡ a.trail.items = ap T (ap (place_at r.items) f ∙ here) ∙ take_all size a.trail.items (omega arith) in
            let Q : List ℤ → Type 0 = λ t. IsDone lists.lists t x in
            subst Q (sym whole) (done x (subst P f holds)))
            (λ (ne : j ≡ a.looked → ⊥).
            let Q : ℕ → Type 0 = λ n. IsDone lists.lists (take n a.trail.items) x in
            subst Q (sym (other j ne)) (core.walked.done j x (omega (arith, below, ne)) holds))
            (cases_eq j a.looked);
      };
    }

pub record WalkingAll (clauses : List (List ℤ)) (start : Assignment) (lists : Lists) (a : Assignment) : Type 0 where
  pub core : IsCore clauses lists a
  pub advances : Advances clauses start a
  pub seen : a.seen ≡ start.seen
  pub base : a.base ≡ start.base

pub all_start : (clauses : List (List ℤ)) (lists : Lists) (a : Assignment) → IsCore clauses lists a → WalkingAll clauses a lists a
all_start clauses lists a core = record { core = core; advances = advances_same clauses a; seen = refl; base = refl }

pub all_conflict : (clauses : List (List ℤ)) (start : Assignment) (lists more : Lists) (a new : Assignment) (f : ℤ) (o : Option ℕ) (c : ℕ) → WalkingAll clauses start lists a → Walks clauses more a new f o → o ≡ Some c → WalksAll clauses more start new o
all_conflict clauses start lists more a new f o c w walks e =
    let P : Option ℕ → Type 0 = λ p. EndsAll clauses new p in
    let Q : Option ℕ → Type 0 = λ p. Ends clauses more.lists new.trail.items f p in
    record {
      core = walks.core;
      advances = advances_trans clauses start a new w.advances walks.advances;
      seen = walks.seen ∙ w.seen;
      base = walks.base ∙ w.base;
      ends = subst P (sym e) (subst Q e walks.ends);
    }

pub all_end : (clauses : List (List ℤ)) (start : Assignment) (lists : Lists) (a : Assignment) → length a.trail.items ≤ a.looked → WalkingAll clauses start lists a → WalksAll clauses lists start a None
all_end clauses start lists a h w = record { core = w.core; advances = w.advances; seen = w.seen; base = w.base; ends = h }

pub all_more : (clauses : List (List ℤ)) (start : Assignment) (lists more : Lists) (a new : Assignment) (f : ℤ) (o : Option ℕ) (r : Vec ℕ Global) → r.items ≡ set new.reach.items new.looked (length new.trail.items) → WalkingAll clauses start lists a → a.looked < length a.trail.items → f ≡ neg_ℤ (at a.trail.items a.looked) → Walks clauses more a new f o → o ≡ None
    → WalkingAll clauses start more (record new { reach = r; looked = new.looked + 1 })
all_more clauses start lists more a new f o r er w h e walks none =
    let Q : Option ℕ → Type 0 = λ p. Ends clauses more.lists new.trail.items f p in
    let ends : (x : ℕ) → Holds more.lists f x → IsDone more.lists new.trail.items x = subst Q none walks.ends in
    let same : f ≡ neg_ℤ (at new.trail.items new.looked) = e ∙ ap neg_ℤ (sym (trail_kept clauses a new walks.advances a.looked h) ∙ ap (at new.trail.items) (sym walks.looked)) in
    let P : ℤ → Type 0 = λ k. (x : ℕ) → Holds more.lists k x → IsDone more.lists new.trail.items x in
    let on = advances_trans clauses start a new w.advances walks.advances in
    record {
      core = core_looked clauses more new r er (omega (arith, walks.looked, h, trail_longer clauses a new walks.advances)) (subst P same ends) walks.core;
      advances = record { greatest = on.greatest; grows = on.grows; count = on.count };
      seen = walks.seen ∙ w.seen;
      base = walks.base ∙ w.base;
    }

-- SHORT CLAUSES

-- a clause of one literal has no other
only_one : (clause : List ℤ) (m k : ℤ) → length clause < 2 → Contains clause m → Contains clause k → m ≡ k
only_one clause m k h a b =
    let i : a.0 ≡ b.0 = omega (arith, h, a.1, b.1) in
    sym a.2 ∙ get_or_default clause a.0 m k a.1 ∙ ap (λ (n : ℕ). get_or clause n k) i ∙ b.2

pub passes_true : (clauses : List (List ℤ)) (lists : Lists) (a : Assignment) (c : ℕ) (m : ℤ) → IsCore clauses lists a → Contains (clause_at clauses c) m → IsMarked a.marks.items (code_of m) → PassesOne clauses lists a a c false
passes_true clauses lists a c m core has marked = record { core = core; advances = advances_same clauses a; seen = refl; base = refl; ends = (m, has, core.assigned.set.listed m marked) }

pub passes_false : (clauses : List (List ℤ)) (lists : Lists) (a : Assignment) (c : ℕ) (m : ℤ) → IsCore clauses lists a → c < length clauses → length (clause_at clauses c) < 2 → Contains (clause_at clauses c) m → IsMarked a.marks.items (code_of (neg_ℤ m)) → PassesOne clauses lists a a c true
passes_false clauses lists a c m core h short has marked = record {
  core = core;
  advances = advances_same clauses a;
  seen = refl;
  base = refl;
  ends = (h, λ k in'. let same : m ≡ k = only_one (clause_at clauses c) m k short has in' in let P : ℤ → Type 0 = λ j. Contains a.trail.items (neg_ℤ j) in subst P same (core.assigned.set.listed (neg_ℤ m) marked));
}

pub passes_empty : (clauses : List (List ℤ)) (lists : Lists) (a : Assignment) (c : ℕ) → IsCore clauses lists a → c < length clauses → length (clause_at clauses c) ≡ 0 → PassesOne clauses lists a a c true
passes_empty clauses lists a c core h empty = record {
  core = core;
  advances = advances_same clauses a;
  seen = refl;
  base = refl;
  ends = (h, λ k in'. absurd (omega (arith, in'.1, empty)));
}

pub opens : (clauses : List (List ℤ)) (a : Assignment) (m : ℤ) → IsAssignment clauses a → (IsMarked a.marks.items (code_of m) → ⊥) → (IsMarked a.marks.items (code_of (neg_ℤ m)) → ⊥) → IsOpen a.trail.items m
opens clauses a m is free also = (λ has. free (is.set.marked m has), λ has. also (is.set.marked (neg_ℤ m) has))

pub passes_unit : (clauses : List (List ℤ)) (lists : Lists) (a new : Assignment) (c : ℕ) (m : ℤ) → IsCore clauses lists a → c < length clauses → length (clause_at clauses c) < 2 → Contains (clause_at clauses c) m → IsOpen a.trail.items m → Enters a new m (Some c) → PassesOne clauses lists a new c false
passes_unit clauses lists a new c m core h short has free enters =
    let is : IsLiteral a.greatest m = core.watched.literals c h m has in
    let reason : IsReason clauses a.trail.items m c = (h, record { has = has; false = λ k in' ne. absurd (ne (sym (only_one (clause_at clauses c) m k short has in'))) }) in
    record {
      core = core_enters clauses lists a new m (Some c) is free enters reason core;
      advances = advances_enters clauses a new m c is free enters reason core.assigned;
      seen = enters.seen;
      base = enters.base;
      ends = (m, has, subst (λ (t : List ℤ). Contains t m) (sym enters.trail) (Contains-push a.trail.items m));
    }

pub record Passing (clauses : List (List ℤ)) (shorts : List ℕ) (lists : Lists) (start a : Assignment) : Type 0 where
  pub state : IsState clauses shorts lists a
  pub advances : Advances clauses start a

pub passing_start : (clauses : List (List ℤ)) (shorts : List ℕ) (lists : Lists) (a : Assignment) → IsState clauses shorts lists a → Passing clauses shorts lists a a
passing_start clauses shorts lists a state = record { state = state; advances = advances_same clauses a }

pub passing_more : (clauses : List (List ℤ)) (shorts : List ℕ) (lists : Lists) (start a new : Assignment) (c : ℕ) (b : Bool) (n : ℕ) → n ≡ length new.trail.items → Passing clauses shorts lists start a → a.seen < length shorts → get_or shorts a.seen 0 ≡ c → b ≡ false → PassesOne clauses lists a new c b
    → Passing clauses shorts lists start (record new { seen = new.seen + 1; base = n })
passing_more clauses shorts lists start a new c b n en w h e no_conflict one =
    let P : Bool → Type 0 = λ t. MatchBool t (IsConflict clauses new.trail.items c) (HasTrue (clause_at clauses c) new.trail.items) in
    let is : HasTrue (clause_at clauses c) new.trail.items = subst P no_conflict one.ends in
    let before = passed_more clauses shorts a.trail.items new.trail.items a.seen a.base (trail_front clauses a new one.advances) w.state.passed in
    let T : ℕ → List ℤ = λ m. take m new.trail.items in
    let whole : take n new.trail.items ≡ new.trail.items = ap T en ∙ take_all (length new.trail.items) new.trail.items (omega arith) in
    let on = advances_trans clauses start a new w.advances one.advances in
    record {
      state = record {
        core = record {
          assigned = record {
            limit = one.core.assigned.limit;
            marks = one.core.assigned.marks;
            reasons = one.core.assigned.reasons;
            set = one.core.assigned.set;
            literals = one.core.assigned.literals;
            count = one.core.assigned.count;
            room = one.core.assigned.room;
            reach = one.core.assigned.reach;
            supported = one.core.assigned.supported;
          };
          watched = one.core.watched;
          walked = one.core.walked;
        };
        passed = record {
          within = omega (arith, one.seen, h);
          numbers = before.numbers;
          short = before.short;
          passed = λ j below.
              let Q : ℕ → Type 0 = λ m. HasTrue (clause_at clauses m) new.trail.items in
              let R : List ℤ → Type 0 = HasTrue (clause_at clauses (get_or shorts j 0)) in
              subst R (sym whole) (⊎_elim {C = Q (get_or shorts j 0)}
              (λ (f : j ≡ a.seen). subst Q (sym (ap (λ (m : ℕ). get_or shorts m 0) f ∙ e)) is)
              (λ (ne : j ≡ a.seen → ⊥). true_front (clause_at clauses (get_or shorts j 0)) a.base new.trail.items (before.passed j (omega (arith, below, one.seen, ne))))
              (cases_eq j a.seen));
        };
      };
      advances = record { greatest = on.greatest; grows = on.grows; count = on.count };
    }

pub passing_conflict : (clauses : List (List ℤ)) (shorts : List ℕ) (lists : Lists) (start a new : Assignment) (c : ℕ) (b : Bool) → Passing clauses shorts lists start a → b ≡ true → PassesOne clauses lists a new c b → PassesAll clauses shorts lists start new (Some c)
passing_conflict clauses shorts lists start a new c b w conflict one =
    let P : Bool → Type 0 = λ t. MatchBool t (IsConflict clauses new.trail.items c) (HasTrue (clause_at clauses c) new.trail.items) in
    let Q : ℕ → Type 0 = λ n. ArePassed clauses shorts new.trail.items n new.base in
    let R : ℕ → Type 0 = λ n. ArePassed clauses shorts new.trail.items a.seen n in
    record {
      state = record {
        core = one.core;
        passed = subst Q (sym one.seen) (subst R (sym one.base) (passed_more clauses shorts a.trail.items new.trail.items a.seen a.base (trail_front clauses a new one.advances) w.state.passed));
      };
      advances = advances_trans clauses start a new w.advances one.advances;
      ends = subst P conflict one.ends;
    }

pub passing_end : (clauses : List (List ℤ)) (shorts : List ℕ) (lists : Lists) (start a : Assignment) → length shorts ≤ a.seen → Passing clauses shorts lists start a → PassesAll clauses shorts lists start a None
passing_end clauses shorts lists start a h w = record { state = w.state; advances = w.advances; ends = h }

-- after all lists the short clauses are still passed
pub state_after : (clauses : List (List ℤ)) (shorts : List ℕ) (lists more : Lists) (old new : Assignment) (o : Option ℕ) → IsState clauses shorts lists old → WalksAll clauses more old new o → IsState clauses shorts more new
state_after clauses shorts lists more old new o state walks =
    let Q : ℕ → Type 0 = λ n. ArePassed clauses shorts new.trail.items n new.base in
    let R : ℕ → Type 0 = λ n. ArePassed clauses shorts new.trail.items old.seen n in
    record { core = walks.core; passed = subst Q (sym walks.seen) (subst R (sym walks.base) (passed_more clauses shorts old.trail.items new.trail.items old.seen old.base (trail_front clauses old new walks.advances) state.passed)) }

pub all_some : (clauses : List (List ℤ)) (start : Assignment) (lists more : Lists) (a new : Assignment) (f : ℤ) (o : Option ℕ) → WalkingAll clauses start lists a → Walks clauses more a new f o → is_some o ≡ true → WalksAll clauses more start new o
all_some clauses start lists more a new f None w walks e = absurd (cc)
all_some clauses start lists more a new f (Some c) w walks e = all_conflict clauses start lists more a new f (Some c) c w walks refl

pub none_of : (o : Option ℕ) → is_some o ≡ false → o ≡ None
none_of None e = refl
none_of (Some c) e = absurd (cc)
