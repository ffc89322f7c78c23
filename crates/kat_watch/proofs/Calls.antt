-- What each call leaves.
use Rattle.std.proofs.Common.{◌≡◌, ◌≢◌, ℕ, ◌+◌, ◌-◌, ◌*◌, ◌/◌, ◌<◌, ◌≤◌, ◌^◌, ◌↔◌, ℤ, pos, neg_ℤ, unsigned_abs, Bool, true, false, List, [], ◌∷◌, ◌++◌, length, get_or, set, take, ◌⊎◌, inl, inr, ⊎_elim, refl, sym, ap, ◌∙◌, arith, subst, Contains, Option, Some, None, IfSome, IsTrue, vec_capacity, drop}
use Rattle.std.proofs.lemmas.Bool.{cases_eq, cases_lt}
use Rattle.std.proofs.lemmas.List.{length_push, length-set, take-map, take_at, take-take, length-take-le, get_or-take, take-append-drop, get_or_append_left, get_or_push, get_or_default, get_or-set_same, get_or-set_other, set_past}
use Rattle.std.proofs.lemmas.List.{get_or-map as mapped_at}
use Rattle.std.proofs.lemmas.List.Elements.{Contains-push, Contains-append_left}
use Rattle.kat_clause.specs.Literals.{code_of, has_of}
use Rattle.kat_clause.specs.Tables.{clause_at}
use Rattle.kat_clause.specs.Propagations.{unmarked}
use Rattle.kat_clause.proofs.Codes.{unmarked-set}
use Rattle.kat_links.specs.Lists.{Lists, list_at, with_first, IsArranged}
use Rattle.kat_links.proofs.Members.{here, there, cons_cases}
use Rattle.kat_watch.specs.declared.assignment.Assignment.{Assignment}
use Rattle.kat_watch.specs.declared.watches.Propagation.{Propagation}
use Rattle.kat_watch.specs.Answers.{IsAnswer}
use Rattle.kat_watch.specs.Watched.{Step, Watched, literals, step_at, no_step, IsLiteral, AreLiterals, IsPlain, IsOpen, IsReason, IsSupported, AreSupported, IsQuiet, Propagates}
use Rattle.kat_watch.specs.States.{steps, steps_of, reason_at, at, IsAssignment, IsWatched, AreWatched, Holds, IsDone, place_at, HasTrue, ArePassed, IsState, Enters, Advances, Forgets, WalksAll, IsNoted, StartsWatch}
use Rattle.kat_watch.proofs.Moves.{half_even, half_odd}
use Rattle.kat_watch.proofs.Sets.{literals_of, steps_size, at_in, literal_below, open_before, supported_take, supported_clause}
use Rattle.kat_watch.proofs.Cores.{core_enters, steps_enters, quiet}
use Rattle.kat_watch.proofs.Passes.{passed_more, state_after}

abbrev pub view : List (List ℤ) → Assignment → Watched
view clauses a = record { greatest = a.greatest; clauses = clauses; trail = steps a }

made : (g h : ℕ) (cs ds : List (List ℤ)) (t u : List Step) → g ≡ h → cs ≡ ds → t ≡ u → ◌≡◌ {A = Watched} (record { greatest = g; clauses = cs; trail = t }) (record { greatest = h; clauses = ds; trail = u })
made g h cs ds t u e f k = λ i. record { greatest = e i; clauses = f i; trail = k i }

-- there is room for a literal that isn't assigned
pub room_left : (clauses : List (List ℤ)) (a : Assignment) (m : ℤ) → IsAssignment clauses a → IsLiteral a.greatest m → IsOpen a.trail.items m → length a.trail.items < vec_capacity a.trail
room_left clauses a m is literal free =
    let below : code_of m < length a.marks.items = omega (arith, (literal_below a.greatest m literal).0, is.marks) in
    let less : unmarked (set a.marks.items (code_of m) true) + 1 ≡ unmarked a.marks.items = unmarked-set a.marks.items (code_of m) below (λ marked. free.0 (is.set.listed m marked)) in
    omega (arith, less, is.count, is.room)

-- ASSUME

abbrev pub Becomes : List (List ℤ) → List ℕ → Lists → Assignment → Watched → Type 0
Becomes clauses shorts lists a v = IsState clauses shorts lists a × (view clauses a ≡ v)

open_in : (clauses : List (List ℤ)) (a : Assignment) (v : Watched) (m : ℤ) → view clauses a ≡ v → IsOpen (literals v.trail) m → IsOpen a.trail.items m
open_in clauses a v m e free =
    let P : Watched → Type 0 = λ w. IsOpen (literals w.trail) m in
    let Q : List ℤ → Type 0 = λ t. IsOpen t m in
    subst Q (literals_of a.reasons.items a.trail.items) (subst P (sym e) free)

literal_in : (clauses : List (List ℤ)) (a : Assignment) (v : Watched) (m : ℤ) → view clauses a ≡ v → IsLiteral v.greatest m → IsLiteral a.greatest m
literal_in clauses a v m e is = let P : Watched → Type 0 = λ w. IsLiteral w.greatest m in subst P (sym e) is

pub assume_room : (clauses : List (List ℤ)) (shorts : List ℕ) (lists : Lists) (a : Assignment) (v : Watched) (m : ℤ) → view clauses a ≡ v → IsState clauses shorts lists a → IsLiteral v.greatest m → IsOpen (literals v.trail) m → length a.trail.items < vec_capacity a.trail
assume_room clauses shorts lists a v m e state literal free = room_left clauses a m state.core.assigned (literal_in clauses a v m e literal) (open_in clauses a v m e free)

pub assume_done : (clauses : List (List ℤ)) (shorts : List ℕ) (lists : Lists) (old new : Assignment) (v : Watched) (m : ℤ) → view clauses old ≡ v → IsState clauses shorts lists old → IsLiteral v.greatest m → IsOpen (literals v.trail) m → Enters old new m None
    → Becomes clauses shorts lists new (record { greatest = v.greatest; clauses = v.clauses; trail = v.trail ++ record { literal = m; reason = None } ∷ [] })
assume_done clauses shorts lists old new v m e state literal free enters =
    let is = literal_in clauses old v m e literal in
    let opens = open_in clauses old v m e free in
    let front : take (length old.trail.items) new.trail.items ≡ old.trail.items = ap (take (length old.trail.items)) enters.trail ∙ take_at old.trail.items (m ∷ []) (length old.trail.items) refl in
    let Q : ℕ → Type 0 = λ n. ArePassed clauses shorts new.trail.items n new.base in
    let R : ℕ → Type 0 = λ n. ArePassed clauses shorts new.trail.items old.seen n in
    let step : Step = record { literal = m; reason = None } in
    let P : Watched → Type 0 = λ w. view clauses new ≡ record { greatest = w.greatest; clauses = w.clauses; trail = w.trail ++ step ∷ [] } in (
      record {
        core = core_enters clauses lists old new m None is opens enters tt state.core;
        passed = subst Q (sym enters.seen) (subst R (sym enters.base) (passed_more clauses shorts old.trail.items new.trail.items old.seen old.base front state.passed));
      },
      subst P e (made new.greatest old.greatest clauses clauses (steps new) (steps old ++ step ∷ []) enters.greatest refl (steps_enters clauses old new m None is opens enters state.core.assigned)),
    )

-- UNDO

pub undo_kept : (clauses : List (List ℤ)) (a : Assignment) (v : Watched) (kept : ℕ) → view clauses a ≡ v → kept ≤ length v.trail → kept ≤ length a.trail.items
undo_kept clauses a v kept e h =
    let P : Watched → Type 0 = λ w. kept ≤ length w.trail in
    let was : kept ≤ length (steps a) = subst P (sym e) h in
    omega (arith, was, steps_size a.reasons.items a.trail.items)

pub undo_looked : (clauses : List (List ℤ)) (shorts : List ℕ) (lists : Lists) (a : Assignment) → IsState clauses shorts lists a → a.looked ≤ length a.reach.items
undo_looked clauses shorts lists a state = omega (arith, state.core.walked.within, state.core.assigned.count, state.core.assigned.reach)

take_in : (n : ℕ) (trail : List ℤ) (k : ℤ) → Contains (take n trail) k → Contains trail k
take_in n trail k has = let P : List ℤ → Type 0 = λ t. Contains t k in subst P (take-append-drop n trail) (Contains-append_left (take n trail) (drop n trail) k has)

pub undo_done : (clauses : List (List ℤ)) (shorts : List ℕ) (lists : Lists) (old new : Assignment) (v : Watched) (kept : ℕ) → view clauses old ≡ v → IsState clauses shorts lists old → kept ≤ length v.trail → Forgets old new kept
    → Becomes clauses shorts lists new (record { greatest = v.greatest; clauses = v.clauses; trail = take kept v.trail })
undo_done clauses shorts lists old new v kept e state h forgets =
    let leaves = forgets.both in
    let was = state.core.assigned in
    let walked = state.core.walked in
    let inside : kept ≤ length old.trail.items = undo_kept clauses old v kept e h in
    let fewer : steps new ≡ take kept (steps old) = (λ i. steps_of (leaves.reasons i) (leaves.trail i)) ∙ sym (take-map (λ (k : ℤ). record { literal = k; reason = reason_at old.reasons.items k }) kept old.trail.items) in
    let size : length new.trail.items ≡ kept = ap length leaves.trail ∙ length-take-le kept old.trail.items inside in
    let near : (j : ℕ) → j < new.looked → place_at old.reach.items j ≤ kept = λ j below. ⊎_elim {C = place_at old.reach.items j ≤ kept}
    (λ (none : new.looked ≡ 0). absurd (omega (arith, none, below)))
    (λ (last : place_at old.reach.items (new.looked - 1) ≤ kept). omega (arith, last, walked.climb j (new.looked - 1) (omega (arith, below)) (omega (arith, below, forgets.less))))
    forgets.near in
    let place : (j : ℕ) → place_at new.reach.items j ≡ place_at old.reach.items j = λ j. ap (λ (ps : List ℕ). place_at ps j) leaves.reach in
    let first : (n : ℕ) → n ≤ kept → take n new.trail.items ≡ take n old.trail.items = λ n low. ap (take n) leaves.trail ∙ take-take n kept old.trail.items low in
    let P : Watched → Type 0 = λ w. view clauses new ≡ record { greatest = w.greatest; clauses = w.clauses; trail = take kept w.trail } in (
      record {
        core = record {
          assigned = record {
            limit = omega (arith, was.limit, leaves.greatest);
            marks = omega (arith, was.marks, leaves.marks, leaves.greatest);
            reasons = omega (arith, was.reasons, ap length leaves.reasons, leaves.greatest);
            set = leaves.set;
            literals = λ k has.
                let Q : List ℤ → Type 0 = λ t. Contains t k in
                let R : ℕ → Type 0 = λ g. IsLiteral g k in
                subst R (sym leaves.greatest) (was.literals k (take_in kept old.trail.items k (subst Q leaves.trail has)));
            count = omega (arith, was.count, leaves.count, leaves.greatest);
            room = omega (arith, was.room, leaves.room, leaves.greatest);
            reach = omega (arith, was.reach, ap length leaves.reach, leaves.greatest);
            supported = subst (AreSupported clauses) (sym fewer) (supported_take clauses (steps old) kept (omega (arith, inside, steps_size old.reasons.items old.trail.items)) was.supported);
          };
          watched = let Q : ℕ → Type 0 = λ g. AreWatched g clauses lists in subst Q (sym leaves.greatest) state.core.watched;
          walked = record {
            within = omega (arith, forgets.within, size);
            far = λ j below. omega (arith, place j, near j below, size);
            climb = λ i j le below. omega (arith, place i, place j, walked.climb i j le (omega (arith, below, forgets.less)));
            done = λ j x below holds.
                let same : at new.trail.items j ≡ at old.trail.items j = ap (λ (t : List ℤ). at t j) leaves.trail ∙ get_or-take kept old.trail.items j (pos 0) (omega (arith, below, forgets.within)) in
                let H : ℤ → Type 0 = λ k. Holds lists.lists (neg_ℤ k) x in
                let done = walked.done j x (omega (arith, below, forgets.less)) (subst H same holds) in
                let front : take (place_at new.reach.items j) new.trail.items ≡ take (place_at old.reach.items j) old.trail.items = ap (λ (n : ℕ). take n new.trail.items) (place j) ∙ first (place_at old.reach.items j) (near j below) in
                let D : List ℤ → Type 0 = λ t. IsDone lists.lists t x in
                subst D (sym front) done;
          };
        };
        passed = record {
          within = ⊎_elim {C = new.seen ≤ length shorts} (λ (none : new.seen ≡ 0). omega (arith, none)) (λ (both : (new.seen ≡ old.seen) × (old.base ≤ kept)). omega (arith, both.0, state.passed.within)) forgets.seen;
          numbers = state.passed.numbers;
          short = state.passed.short;
          passed = λ j below. ⊎_elim {C = HasTrue (clause_at clauses (get_or shorts j 0)) (take new.base new.trail.items)}
              (λ (none : new.seen ≡ 0). absurd (omega (arith, none, below)))
              (λ (both : (new.seen ≡ old.seen) × (old.base ≤ kept)).
              let front : take new.base new.trail.items ≡ take old.base old.trail.items = ap (λ (n : ℕ). take n new.trail.items) leaves.base ∙ first old.base both.1 in
              let D : List ℤ → Type 0 = HasTrue (clause_at clauses (get_or shorts j 0)) in
              subst D (sym front) (state.passed.passed j (omega (arith, below, both.0))))
              forgets.seen;
        };
      },
      subst P e (made new.greatest old.greatest clauses clauses (steps new) (take kept (steps old)) leaves.greatest refl fewer),
    )

-- WHAT IS READ

pub trail_done : (clauses : List (List ℤ)) (a : Assignment) (v : Watched) → view clauses a ≡ v → a.trail.items ≡ literals v.trail
trail_done clauses a v e = sym (literals_of a.reasons.items a.trail.items) ∙ ap (λ (w : Watched). literals w.trail) e

pub marks_done : (clauses : List (List ℤ)) (shorts : List ℕ) (lists : Lists) (a : Assignment) (v : Watched) → view clauses a ≡ v → IsState clauses shorts lists a → (k : ℤ) → IsTrue (has_of a.marks.items k) ↔ Contains (literals v.trail) k
marks_done clauses shorts lists a v e state k =
    let P : List ℤ → Type 0 = λ t. Contains t k in (
      λ marked. subst P (trail_done clauses a v e) (state.core.assigned.set.listed k marked),
      λ has. state.core.assigned.set.marked k (subst P (sym (trail_done clauses a v e)) has),
    )

pub limit_done : (clauses : List (List ℤ)) (shorts : List ℕ) (lists : Lists) (a : Assignment) (v : Watched) → view clauses a ≡ v → IsState clauses shorts lists a → v.greatest ≤ 2 ^ 28
limit_done clauses shorts lists a v e state = let P : Watched → Type 0 = λ w. w.greatest ≤ 2 ^ 28 in subst P e state.core.assigned.limit

pub few_done : (clauses : List (List ℤ)) (shorts : List ℕ) (lists : Lists) (a : Assignment) (v : Watched) → view clauses a ≡ v → IsState clauses shorts lists a → length v.trail < 2 ^ 30
few_done clauses shorts lists a v e state =
    let P : Watched → Type 0 = λ w. length w.trail < 2 ^ 30 in
    subst P e (omega (arith, state.core.assigned.count, state.core.assigned.limit, steps_size a.reasons.items a.trail.items))

pub has_done : (clauses : List (List ℤ)) (shorts : List ℕ) (lists : Lists) (a : Assignment) (v : Watched) (m : ℤ) (n : ℕ) (b : Bool) → view clauses a ≡ v → IsState clauses shorts lists a → IsLiteral v.greatest m → n ≡ code_of m → b ≡ get_or a.marks.items n b → IsTrue b ↔ Contains (literals v.trail) m
has_done clauses shorts lists a v m n b e state literal en read =
    let is = literal_in clauses a v m e literal in
    let below : code_of m < length a.marks.items = omega (arith, (literal_below a.greatest m is).0, state.core.assigned.marks) in
    let mark : b ≡ has_of a.marks.items m = read ∙ ap (λ (i : ℕ). get_or a.marks.items i b) en ∙ get_or_default a.marks.items (code_of m) b false below in
    let told = marks_done clauses shorts lists a v e state m in
    (λ t. told.0 (sym mark ∙ t), λ has. mark ∙ told.1 has)

pub has_below : (clauses : List (List ℤ)) (shorts : List ℕ) (lists : Lists) (a : Assignment) (v : Watched) (m : ℤ) → view clauses a ≡ v → IsState clauses shorts lists a → IsLiteral v.greatest m → code_of m < length a.marks.items
has_below clauses shorts lists a v m e state literal = omega (arith, (literal_below a.greatest m (literal_in clauses a v m e literal)).0, state.core.assigned.marks)

pub apart_done : (clauses : List (List ℤ)) (shorts : List ℕ) (lists : Lists) (a : Assignment) (v : Watched) → view clauses a ≡ v → IsState clauses shorts lists a → (k : ℤ) → Contains (literals v.trail) k → Contains (literals v.trail) (neg_ℤ k) → ⊥
apart_done clauses shorts lists a v e state k has back =
    let P : List ℤ → Type 0 = λ t. Contains t k in
    let Q : List ℤ → Type 0 = λ t. Contains t (neg_ℤ k) in
    state.core.assigned.set.apart k (subst P (sym (trail_done clauses a v e)) has) (subst Q (sym (trail_done clauses a v e)) back)

pub reason_variable : (clauses : List (List ℤ)) (shorts : List ℕ) (lists : Lists) (a : Assignment) (v : Watched) (m : ℤ) → view clauses a ≡ v → IsState clauses shorts lists a → Contains (literals v.trail) m → unsigned_abs m < length a.reasons.items
reason_variable clauses shorts lists a v m e state has =
    let P : List ℤ → Type 0 = λ t. Contains t m in
    let is = state.core.assigned.literals m (subst P (sym (trail_done clauses a v e)) has) in
    omega (arith, is.1, state.core.assigned.reasons)

step_is : (reasons : List (Option ℕ)) (trail : List ℤ) (i : ℕ) → i < length (steps_of reasons trail) → step_at (steps_of reasons trail) i ≡ record { literal = at trail i; reason = reason_at reasons (at trail i) }
step_is reasons trail i h = mapped_at (λ (k : ℤ). record { literal = k; reason = reason_at reasons k }) trail i (pos 0) no_step (omega (arith, h, steps_size reasons trail))

pub reason_step : (clauses : List (List ℤ)) (a : Assignment) (v : Watched) (m : ℤ) (o : Option ℕ) → view clauses a ≡ v → o ≡ reason_at a.reasons.items m → (i : ℕ) → i < length v.trail → (step_at v.trail i).literal ≡ m → o ≡ (step_at v.trail i).reason
reason_step clauses a v m o e read i h is =
    let P : Watched → Type 0 = λ w. i < length w.trail → (step_at w.trail i).literal ≡ m → o ≡ (step_at w.trail i).reason in
    let base : P (view clauses a) = λ inside same.
    let at_i : step_at (steps a) i ≡ record { literal = at a.trail.items i; reason = reason_at a.reasons.items (at a.trail.items i) } = step_is a.reasons.items a.trail.items i inside in
    let k : at a.trail.items i ≡ m = sym (ap (λ (s : Step). s.literal) at_i) ∙ same in
    read ∙ ap (reason_at a.reasons.items) (sym k) ∙ sym (ap (λ (s : Step). s.reason) at_i) in
    subst P e base h is

supported_some : (clauses : List (List ℤ)) (before : List ℤ) (m : ℤ) (o : Option ℕ) → IsSupported clauses before m o → IfSome o (IsReason clauses before m)
supported_some clauses before m None is = tt
supported_some clauses before m (Some c) is = is

pub supported_done : (clauses : List (List ℤ)) (shorts : List ℕ) (lists : Lists) (a : Assignment) (v : Watched) → view clauses a ≡ v → IsState clauses shorts lists a → AreSupported v.clauses v.trail
supported_done clauses shorts lists a v e state = let P : Watched → Type 0 = λ w. AreSupported w.clauses w.trail in subst P e state.core.assigned.supported

pub reason_forces : (clauses : List (List ℤ)) (shorts : List ℕ) (lists : Lists) (a : Assignment) (v : Watched) (m : ℤ) (o : Option ℕ) → view clauses a ≡ v → IsState clauses shorts lists a → o ≡ reason_at a.reasons.items m
    → (i : ℕ) → i < length v.trail → (step_at v.trail i).literal ≡ m → IfSome o (IsReason v.clauses (take i (literals v.trail)) m)
reason_forces clauses shorts lists a v m o e state read i h is =
    let same : o ≡ (step_at v.trail i).reason = reason_step clauses a v m o e read i h is in
    let before = take i (literals v.trail) in
    let P : ℤ → Type 0 = λ k. IsSupported v.clauses before k (step_at v.trail i).reason in
    let Q : Option ℕ → Type 0 = λ p. IsSupported v.clauses before m p in
    supported_some v.clauses before m o (subst Q (sym same) (subst P is (supported_done clauses shorts lists a v e state i h)))

pub once_done : (clauses : List (List ℤ)) (shorts : List ℕ) (lists : Lists) (a : Assignment) (v : Watched) → view clauses a ≡ v → IsState clauses shorts lists a → IsPlain (literals v.trail)
once_done clauses shorts lists a v e state = let P : List ℤ → Type 0 = IsPlain in subst P (trail_done clauses a v e) state.core.assigned.set.once

pub open_done : (clauses : List (List ℤ)) (shorts : List ℕ) (lists : Lists) (a : Assignment) (v : Watched) → view clauses a ≡ v → IsState clauses shorts lists a → (i : ℕ) → i < length v.trail → IsOpen (take i (literals v.trail)) (step_at v.trail i).literal
open_done clauses shorts lists a v e state i h =
    let P : Watched → Type 0 = λ w. i < length w.trail → IsOpen (take i (literals w.trail)) (step_at w.trail i).literal in
    let base : P (view clauses a) = λ inside.
    let at_i : (step_at (steps a) i).literal ≡ at a.trail.items i = ap (λ (s : Step). s.literal) (step_is a.reasons.items a.trail.items i inside) in
    let Q : List ℤ → Type 0 = λ t. IsOpen (take i t) (step_at (steps a) i).literal in
    let R : ℤ → Type 0 = IsOpen (take i a.trail.items) in
    let was : IsOpen (take i a.trail.items) (at a.trail.items i) = open_before a.marks.items a.trail.items i state.core.assigned.set (omega (arith, inside, steps_size a.reasons.items a.trail.items)) in
    subst Q (sym (literals_of a.reasons.items a.trail.items)) (subst R (sym at_i) was) in
    subst P e base h

-- PROPAGATE

pub propagates : (clauses : List (List ℤ)) (old new : Assignment) (v : Watched) (answer : Propagation) → view clauses old ≡ v → Advances clauses old new → IsAnswer answer clauses new.trail.items → Propagates v (view clauses new) (IsAnswer answer)
propagates clauses old new v answer e on is =
    let P : Watched → Type 0 = λ w. Propagates w (view clauses new) (IsAnswer answer) in
    let Q : List ℤ → Type 0 = λ t. IsAnswer answer clauses t in
    subst P e (record { greatest = on.greatest; clauses = refl; grows = on.grows; answers = subst Q (sym (literals_of new.reasons.items new.trail.items)) is })

pub quiet_after : (clauses : List (List ℤ)) (shorts : List ℕ) (lists more : Lists) (mid new : Assignment) → IsArranged more → IsState clauses shorts lists mid → length shorts ≤ mid.seen → WalksAll clauses more mid new None → IsQuiet clauses new.trail.items
quiet_after clauses shorts lists more mid new arranged state seen walks =
    quiet clauses shorts more new arranged (state_after clauses shorts lists more mid new None state walks) walks.ends (omega (arith, seen, walks.seen))

-- ADD

-- a clause more, under an assignment that stays
more_clause : (clauses : List (List ℤ)) (clause : List ℤ) (a : Assignment) → IsAssignment clauses a → IsAssignment (clauses ++ clause ∷ []) a
more_clause clauses clause a is = record {
  limit = is.limit;
  marks = is.marks;
  reasons = is.reasons;
  set = is.set;
  literals = is.literals;
  count = is.count;
  room = is.room;
  reach = is.reach;
  supported = supported_clause clauses clause (steps a) is.supported;
}

clause_old : (clauses : List (List ℤ)) (clause : List ℤ) (c : ℕ) → c < length clauses → clause_at (clauses ++ clause ∷ []) c ≡ clause_at clauses c
clause_old clauses clause c h = get_or_append_left clauses (clause ∷ []) [] c h

clause_new : (clauses : List (List ℤ)) (clause : List ℤ) (c : ℕ) → length clauses ≡ c → clause_at (clauses ++ clause ∷ []) c ≡ clause
clause_new clauses clause c e = get_or_push clauses clause [] c e

-- each clause of the longer list is an old one or the new one
each_clause : (P : ℕ → List ℤ → Type 0) (clauses : List (List ℤ)) (clause : List ℤ) → ((c : ℕ) → c < length clauses → P c (clause_at clauses c)) → P (length clauses) clause → (c : ℕ) → c < length (clauses ++ clause ∷ []) → P c (clause_at (clauses ++ clause ∷ []) c)
each_clause P clauses clause old new c h = ⊎_elim
    (λ (l : c < length clauses). subst (P c) (sym (clause_old clauses clause c l)) (old c l))
    (λ (l : length clauses ≤ c).
    let e : length clauses ≡ c = omega (arith, h, l, length_push clauses clause) in
    let Q : ℕ → Type 0 = λ n. P n (clause_at (clauses ++ clause ∷ []) c) in
    subst Q e (subst (P (length clauses)) (sym (clause_new clauses clause c e)) new))
    (cases_lt c (length clauses))

-- the lists with two items more
abbrev pub put : List (List ℕ) → ℤ → ℕ → List (List ℕ)
put ls k x = with_first (code_of k) x ls

-- what is in a list was there, or is the item that was put in
pub first_cases : (ls : List (List ℕ)) (n x l y : ℕ) → Contains (list_at (with_first n x ls) l) y → (y ≡ x) ⊎ Contains (list_at ls l) y
first_cases ls n x l y has = ⊎_elim {C = (y ≡ x) ⊎ Contains (list_at ls l) y}
    (λ (e : l ≡ n). ⊎_elim {C = (y ≡ x) ⊎ Contains (list_at ls l) y}
    (λ (inside : n < length ls).
    let P : ℕ → Type 0 = λ m. list_at (with_first n x ls) m ≡ x ∷ list_at ls m in
    let same : list_at (with_first n x ls) l ≡ x ∷ list_at ls l = subst P (sym e) (get_or-set_same ls n (x ∷ list_at ls n) [] inside) in
    let Q : List ℕ → Type 0 = λ xs. Contains xs y in
    ⊎_elim {C = (y ≡ x) ⊎ Contains (list_at ls l) y} (λ (f : x ≡ y). inl (sym f)) (λ (later : Contains (list_at ls l) y). inr later) (cons_cases x (list_at ls l) y (subst Q same has)))
    (λ (outside : length ls ≤ n).
    let Q : List (List ℕ) → Type 0 = λ xs. Contains (list_at xs l) y in
    inr (subst Q (set_past ls n (x ∷ list_at ls n) outside) has))
    (cases_lt n (length ls)))
    (λ (ne : l ≡ n → ⊥).
    let Q : List ℕ → Type 0 = λ xs. Contains xs y in
    inr (subst Q (get_or-set_other ls n l (x ∷ list_at ls n) [] ne) has))
    (cases_eq l n)

put_in : (ls : List (List ℕ)) (k : ℤ) (x l y : ℕ) → Contains (list_at (put ls k x) l) y → (y ≡ x) ⊎ Contains (list_at ls l) y
put_in ls k x l y has = first_cases ls (code_of k) x l y has

put_keeps : (ls : List (List ℕ)) (k : ℤ) (x l y : ℕ) → code_of k < length ls → Contains (list_at ls l) y → Contains (list_at (put ls k x) l) y
put_keeps ls k x l y inside has = ⊎_elim
    (λ (e : l ≡ code_of k).
    let P : ℕ → Type 0 = λ n. list_at (put ls k x) n ≡ x ∷ list_at ls n in
    let same : list_at (put ls k x) l ≡ x ∷ list_at ls l = subst P (sym e) (get_or-set_same ls (code_of k) (x ∷ list_at ls (code_of k)) [] inside) in
    let Q : List ℕ → Type 0 = λ xs. Contains xs y in
    subst Q (sym same) (there x (list_at ls l) y has))
    (λ (ne : l ≡ code_of k → ⊥).
    let Q : List ℕ → Type 0 = λ xs. Contains xs y in
    subst Q (sym (get_or-set_other ls (code_of k) l (x ∷ list_at ls (code_of k)) [] ne)) has)
    (cases_eq l (code_of k))

put_here : (ls : List (List ℕ)) (k : ℤ) (x : ℕ) → code_of k < length ls → Holds (put ls k x) k x
put_here ls k x inside =
    let Q : List ℕ → Type 0 = λ xs. Contains xs x in
    subst Q (sym (get_or-set_same ls (code_of k) (x ∷ list_at ls (code_of k)) [] inside)) (here x (list_at ls (code_of k)))

put_size : (ls : List (List ℕ)) (k : ℤ) (x : ℕ) → length (put ls k x) ≡ length ls
put_size ls k x = length-set ls (code_of k) (x ∷ list_at ls (code_of k))

watch_kept : (clause : List ℤ) (ls more : List (List ℕ)) (c : ℕ) → ((l y : ℕ) → Contains (list_at ls l) y → Contains (list_at more l) y) → IsWatched clause ls c → IsWatched clause more c
watch_kept clause ls more c keeps w = record {
  one = w.one;
  two = w.two;
  has_one = w.has_one;
  has_two = w.has_two;
  differ = w.differ;
  holds_one = keeps (code_of w.one) (2 * c) w.holds_one;
  holds_two = keeps (code_of w.two) (2 * c + 1) w.holds_two;
}

-- a short clause
pub add_short : (clauses : List (List ℤ)) (shorts : List ℕ) (lists more : Lists) (clause : List ℤ) (a : Assignment) → AreLiterals a.greatest clause → length clause < 2 → length clauses < 2 ^ 28 → IsArranged lists → more.items ≡ lists.items + 2 → more.lists ≡ lists.lists
    → IsState clauses shorts lists a → IsState (clauses ++ clause ∷ []) (shorts ++ length clauses ∷ []) more a
add_short clauses shorts lists more clause a are short limit arranged items same state =
    let size : length (clauses ++ clause ∷ []) ≡ length clauses + 1 = length_push clauses clause in
    let w = state.core.watched in
    let listed : (l x : ℕ) → Contains (list_at more.lists l) x → Contains (list_at lists.lists l) x = λ l x has. (let P : List (List ℕ) → Type 0 = λ ls. Contains (list_at ls l) x in subst P same has) in
    let keeps : (l x : ℕ) → Contains (list_at lists.lists l) x → Contains (list_at more.lists l) x = λ l x has. (let P : List (List ℕ) → Type 0 = λ ls. Contains (list_at ls l) x in subst P (sym same) has) in
    let half : (l x : ℕ) → Contains (list_at lists.lists l) x → x / 2 < length clauses = λ l x has. omega (arith, arranged.below l x has, w.items) in
    let longer : length (shorts ++ length clauses ∷ []) ≡ length shorts + 1 = length_push shorts (length clauses) in
    let number_old : (j : ℕ) → j < length shorts → get_or (shorts ++ length clauses ∷ []) j 0 ≡ get_or shorts j 0 = λ j h. get_or_append_left shorts (length clauses ∷ []) 0 j h in
    let number_new : (j : ℕ) → length shorts ≡ j → get_or (shorts ++ length clauses ∷ []) j 0 ≡ length clauses = λ j e. get_or_push shorts (length clauses) 0 j e in
    record {
      core = record {
        assigned = more_clause clauses clause a state.core.assigned;
        watched = record {
          limit = omega arith;
          literals = each_clause (λ c cl. AreLiterals a.greatest cl) clauses clause w.literals are;
          items = omega (arith, items, w.items, size);
          size = ap length same ∙ w.size;
          long = λ l x has.
              let was = listed l x has in
              subst (λ (cl : List ℤ). 2 ≤ length cl) (sym (clause_old clauses clause (x / 2) (half l x was))) (w.long l x was);
          watched = each_clause (λ c cl. 2 ≤ length cl → IsWatched cl more.lists c) clauses clause (λ c h two. watch_kept (clause_at clauses c) lists.lists more.lists c keeps (w.watched c h two)) (λ two. absurd (omega (arith, two, short)));
        };
        walked = record {
          within = state.core.walked.within;
          far = state.core.walked.far;
          climb = state.core.walked.climb;
          done = λ j x below holds.
              let was = state.core.walked.done j x below (listed (code_of (neg_ℤ (at a.trail.items j))) x holds) in
              (was.0, keeps (code_of was.0) _ was.1, was.2);
        };
      };
      passed = record {
        within = omega (arith, state.passed.within, longer);
        numbers = λ j h. ⊎_elim
            (λ (l : j < length shorts).
            let was = state.passed.numbers j l in
            let P : ℕ → Type 0 = λ n. (n < length (clauses ++ clause ∷ [])) × (length (clause_at (clauses ++ clause ∷ []) n) < 2) in
            let Q : List ℤ → Type 0 = λ cl. length cl < 2 in
            subst P (sym (number_old j l)) (omega (arith, was.0, size), subst Q (sym (clause_old clauses clause (get_or shorts j 0) was.0)) was.1))
            (λ (l : length shorts ≤ j).
            let e : length shorts ≡ j = omega (arith, h, l, longer) in
            let P : ℕ → Type 0 = λ n. (n < length (clauses ++ clause ∷ [])) × (length (clause_at (clauses ++ clause ∷ []) n) < 2) in
            let Q : List ℤ → Type 0 = λ cl. length cl < 2 in
            subst P (sym (number_new j e)) (omega (arith, size), subst Q (sym (clause_new clauses clause (length clauses) refl)) short))
            (cases_lt j (length shorts));
        short = each_clause (λ c cl. length cl < 2 → Contains (shorts ++ length clauses ∷ []) c) clauses clause (λ c h less. Contains-append_left shorts (length clauses ∷ []) c (state.passed.short c h less)) (λ less. Contains-push shorts (length clauses));
        passed = λ j h.
            let l : j < length shorts = omega (arith, h, state.passed.within) in
            let was = state.passed.numbers j l in
            let P : ℕ → Type 0 = λ n. HasTrue (clause_at (clauses ++ clause ∷ []) n) (take a.base a.trail.items) in
            let Q : List ℤ → Type 0 = λ cl. HasTrue cl (take a.base a.trail.items) in
            subst P (sym (number_old j l)) (subst Q (sym (clause_old clauses clause (get_or shorts j 0) was.0)) (state.passed.passed j h));
      };
    }

-- a clause of two or more literals, of which the first two are watched: all lists must be walked again
pub add_long : (clauses : List (List ℤ)) (shorts : List ℕ) (lists more : Lists) (clause : List ℤ) (a : Assignment) (j k : ℤ) → AreLiterals a.greatest clause → 2 ≤ length clause → length clauses < 2 ^ 28 → IsArranged lists
    → Contains clause j → Contains clause k → j ≢ k → more.items ≡ lists.items + 2 → more.lists ≡ put (put lists.lists j (2 * length clauses)) k (2 * length clauses + 1)
    → IsState clauses shorts lists a → IsState (clauses ++ clause ∷ []) shorts more (record a { looked = 0 })
add_long clauses shorts lists more clause a j k are two limit arranged has_j has_k ne items same state =
    let n = length clauses in
    let size : length (clauses ++ clause ∷ []) ≡ n + 1 = length_push clauses clause in
    let w = state.core.watched in
    let first = put lists.lists j (2 * n) in
    let second = put first k (2 * n + 1) in
    let in_j : code_of j < length lists.lists = omega (arith, (literal_below a.greatest j (are j has_j)).0, w.size) in
    let in_k : code_of k < length first = omega (arith, (literal_below a.greatest k (are k has_k)).0, w.size, put_size lists.lists j (2 * n)) in
    let keeps : (l x : ℕ) → Contains (list_at lists.lists l) x → Contains (list_at second l) x = λ l x has. put_keeps first k (2 * n + 1) l x in_k (put_keeps lists.lists j (2 * n) l x in_j has) in
    let half : (l x : ℕ) → Contains (list_at lists.lists l) x → x / 2 < n = λ l x has. omega (arith, arranged.below l x has, w.items) in
    let base = more_clause clauses clause a state.core.assigned in
    let R : List (List ℕ) → Type 0 = λ ls. IsWatched clause ls n in
    record {
      core = record {
        assigned = record {
          limit = base.limit;
          marks = base.marks;
          reasons = base.reasons;
          set = base.set;
          literals = base.literals;
          count = base.count;
          room = base.room;
          reach = base.reach;
          supported = base.supported;
        };
        watched = record {
          limit = omega arith;
          literals = each_clause (λ c cl. AreLiterals a.greatest cl) clauses clause w.literals are;
          items = omega (arith, items, w.items, size);
          size = ap length same ∙ put_size first k (2 * n + 1) ∙ put_size lists.lists j (2 * n) ∙ w.size;
          long = λ l x has.
              let P : List (List ℕ) → Type 0 = λ ls. Contains (list_at ls l) x in
              let Q : ℕ → Type 0 = λ m. 2 ≤ length (clause_at (clauses ++ clause ∷ []) m) in
              let own : Q n = subst (λ (cl : List ℤ). 2 ≤ length cl) (sym (clause_new clauses clause n refl)) two in
              ⊎_elim
              (λ (e : x ≡ 2 * n + 1). subst Q (sym (ap (λ (m : ℕ). m / 2) e ∙ half_odd n)) own)
              (λ (in_first : Contains (list_at first l) x). ⊎_elim
              (λ (e : x ≡ 2 * n). subst Q (sym (ap (λ (m : ℕ). m / 2) e ∙ half_even n)) own)
              (λ (was : Contains (list_at lists.lists l) x). subst (λ (cl : List ℤ). 2 ≤ length cl) (sym (clause_old clauses clause (x / 2) (half l x was))) (w.long l x was))
              (put_in lists.lists j (2 * n) l x in_first))
              (put_in first k (2 * n + 1) l x (subst P same has));
          watched =
              let T : (ls : List (List ℕ)) → Type 0 = λ ls. (c : ℕ) → c < length (clauses ++ clause ∷ []) → 2 ≤ length (clause_at (clauses ++ clause ∷ []) c) → IsWatched (clause_at (clauses ++ clause ∷ []) c) ls c in
              let is : T second = each_clause (λ c cl. 2 ≤ length cl → IsWatched cl second c) clauses clause (λ c h long. watch_kept (clause_at clauses c) lists.lists second c keeps (w.watched c h long))
              (λ long. record {
                one = j;
                two = k;
                has_one = has_j;
                has_two = has_k;
                differ = ne;
                holds_one = put_keeps first k (2 * n + 1) (code_of j) (2 * n) in_k (put_here lists.lists j (2 * n) in_j);
                holds_two = put_here first k (2 * n + 1) in_k;
              }) in
              subst T (sym same) is;
        };
        walked = record { within = omega arith; far = λ i below. absurd (omega arith); climb = λ h i le below. absurd (omega arith); done = λ i x below holds. absurd (omega arith) };
      };
      passed = record {
        within = state.passed.within;
        numbers = λ i h.
            let was = state.passed.numbers i h in
            let Q : List ℤ → Type 0 = λ cl. length cl < 2 in
            (omega (arith, was.0, size), subst Q (sym (clause_old clauses clause (get_or shorts i 0) was.0)) was.1);
        short = each_clause (λ c cl. length cl < 2 → Contains shorts c) clauses clause (λ c h less. state.passed.short c h less) (λ less. absurd (omega (arith, less, two)));
        passed = λ i h.
            let was = state.passed.numbers i (omega (arith, h, state.passed.within)) in
            let Q : List ℤ → Type 0 = λ cl. HasTrue cl (take a.base a.trail.items) in
            subst Q (sym (clause_old clauses clause (get_or shorts i 0) was.0)) (state.passed.passed i h);
      };
    }

pub add_done : (clauses clauses' : List (List ℤ)) (shorts shorts' : List ℕ) (lists mid lists' : Lists) (clause : List ℤ) (a a' : Assignment) (v : Watched) (n : ℕ) → view clauses a ≡ v → IsState clauses shorts lists a → IsArranged lists → AreLiterals v.greatest clause → IsPlain clause
    → n ≡ length clauses → n < 2 ^ 28 → mid ≡ record lists { items = lists.items + 2 } → (length clause < 2 → IsNoted n shorts shorts' mid lists' a a') → (2 ≤ length clause → StartsWatch n clause shorts shorts' mid lists' a a') → clauses' ≡ clauses ++ clause ∷ []
    → Becomes clauses' shorts' lists' a' (record { greatest = v.greatest; clauses = v.clauses ++ clause ∷ []; trail = v.trail })
add_done clauses clauses' shorts shorts' lists mid lists' clause a a' v n e state arranged are plain en small emid short long ec =
    let literals' : AreLiterals a.greatest clause = let P : Watched → Type 0 = λ w. AreLiterals w.greatest clause in subst P (sym e) are in
    let limit : length clauses < 2 ^ 28 = omega (arith, en, small) in
    let both : IsState (clauses ++ clause ∷ []) shorts' lists' a' × (view (clauses ++ clause ∷ []) a' ≡ view (clauses ++ clause ∷ []) a) = ⊎_elim {C = IsState (clauses ++ clause ∷ []) shorts' lists' a' × (view (clauses ++ clause ∷ []) a' ≡ view (clauses ++ clause ∷ []) a)}
    (λ (less : length clause < 2).
    let noted = short less in
    let is : IsState (clauses ++ clause ∷ []) (shorts ++ length clauses ∷ []) lists' a = add_short clauses shorts lists lists' clause a literals' less limit arranged
    (ap (λ (l : Lists). l.items) (noted.same ∙ emid)) (ap (λ (l : Lists). l.lists) (noted.same ∙ emid)) state in
    let ns : shorts' ≡ shorts ++ length clauses ∷ [] = noted.noted ∙ ap (λ (m : ℕ). shorts ++ m ∷ []) en in
    let P : List ℕ → Type 0 = λ s. IsState (clauses ++ clause ∷ []) s lists' a in
    let Q : Assignment → Type 0 = λ b. IsState (clauses ++ clause ∷ []) shorts' lists' b in
    (subst Q (sym noted.set) (subst P (sym ns) is), ap (view (clauses ++ clause ∷ [])) noted.set))
    (λ (two : 2 ≤ length clause).
    let starts = long two in
    let j = at clause 0 in
    let k = at clause 1 in
    let differ : j ≢ k = λ same. plain 0 1 (omega arith) (omega (arith, two)) same in
    let lists_are : lists'.lists ≡ put (put lists.lists j (2 * length clauses)) k (2 * length clauses + 1) =
    ap (λ (l : Lists). l.lists) starts.put ∙ ap (λ (l : Lists). put (put l.lists j (2 * n)) k (2 * n + 1)) emid ∙ ap (λ (m : ℕ). put (put lists.lists j (2 * m)) k (2 * m + 1)) en in
    let is = add_long clauses shorts lists lists' clause a j k literals' two limit arranged (at_in clause 0 (omega (arith, two))) (at_in clause 1 (omega (arith, two))) differ
    (ap (λ (l : Lists). l.items) starts.put ∙ ap (λ (l : Lists). l.items) emid) lists_are state in
    let P : List ℕ → Type 0 = λ s. IsState (clauses ++ clause ∷ []) s lists' (record a { looked = 0 }) in
    let Q : Assignment → Type 0 = λ b. IsState (clauses ++ clause ∷ []) shorts' lists' b in
    (subst Q (sym starts.set) (subst P (sym starts.noted) is), ap (view (clauses ++ clause ∷ [])) starts.set))
    (cases_lt (length clause) 2) in
    let goal : Watched = record { greatest = v.greatest; clauses = v.clauses ++ clause ∷ []; trail = v.trail } in
    let P : Watched → Type 0 = λ w. view (clauses ++ clause ∷ []) a' ≡ record { greatest = w.greatest; clauses = w.clauses ++ clause ∷ []; trail = w.trail } in
    let Q : List (List ℤ) → Type 0 = λ cs. Becomes cs shorts' lists' a' goal in
    subst Q (sym ec) (both.0, subst P e both.1)
