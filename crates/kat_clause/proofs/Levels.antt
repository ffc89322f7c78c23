-- Assumed literals, and what is kept while clauses and literals come and go.
use Rattle.std.proofs.Common.{◌≡◌, ℕ, zero, suc, ◌+◌, ◌-◌, ◌<◌, ◌≤◌, ℤ, pos, negsuc, neg_ℤ, List, [], ◌∷◌, ◌++◌, length, get_or, take, unsigned_abs, Bool, true, false, ◌*◌, ◌^◌, ◌↔◌, ⊎_elim, refl, sym, ap, ◌∙◌, arith, Contains}
use Rattle.std.proofs.lemmas.Bool.{cases_lt, false≢true}
use Rattle.std.proofs.lemmas.List.{length-take-le, length_push, length-map, take_all, take_at, take-take, take-append-le, get_or_append_left, get_or_push, get_or_default, get_or-take, map-append, take-map}
use Rattle.std.proofs.lemmas.List.Elements.{Contains-push, Contains-push_cases, Contains-append_left}
use Rattle.kat_clause.specs.declared.propagation.Propagation.{Propagation}
use Rattle.kat_clause.specs.declared.known.Level.{Level}
use Rattle.kat_clause.specs.Clauses.{Derived, opposites}
use Rattle.kat_clause.specs.Clauses.Derived.{denied}
use Rattle.kat_clause.specs.Literals.{code_of}
use Rattle.kat_clause.specs.Tables.{clause_at, IsBelow, KeepsRows, KeepsBut, IsNoted}
use Rattle.kat_clause.specs.Propagations.{IsIn, IsSet, SameSet, Stands, Holds, Enters, Grows, IsFresh, Advances, IsSettledState, Unsees}
use Rattle.kat_clause.specs.Levels.{assumed_in, IsLevel, AreLevels, IsConsistent}
use Rattle.kat_clause.proofs.Sets.{IsSettled-weaker, IsIn-cases, IsIn-enters, Grows-enters}
use Rattle.kat_clause.proofs.Laws.{derived_more, among_itself}
use Rattle.kat_clause.proofs.Runs.{opposite_there, Advances-same, sound_whole, finds_all}
use Rattle.kat_clause.proofs.Indexes.{IsIndex-longer, IsIndex-push, IsIndex-back, below_size}

-- nothing is in a fresh set
pub holds_fresh : (size : ℕ) (state : Propagation) → IsFresh size state → Holds [] [] state
holds_fresh size state fresh = record {
  set = fresh.set;
  stands = rw (fresh.looked, fresh.seen, fresh.trail) (record {
    within = omega arith;
    among = omega arith;
    derived = λ m has. absurd (omega (arith, has.1));
    holds = λ l has. absurd (omega (arith, has.1));
    settled = λ i h. absurd (omega (arith, h));
  });
}

pub levels_none : (clauses : List (List ℤ)) (trail : List ℤ) → AreLevels clauses [] trail
levels_none clauses trail = record {
  stand = λ k d h. absurd (omega (arith, h));
  climb = λ j k d h below. absurd (omega (arith, below));
}

-- one clause more changes nothing of what has been found
pub stands_clause : (clauses : List (List ℤ)) (clause : List ℤ) (assumed trail : List ℤ) (looked seen : ℕ) → Stands clauses assumed trail looked seen → Stands (clauses ++ clause ∷ []) assumed trail looked seen
stands_clause clauses clause assumed trail looked seen stands = record {
  within = stands.within;
  among = omega (arith, stands.among, length_push clauses clause);
  derived = λ m has. rw (take-append-le seen clauses (clause ∷ []) stands.among) (stands.derived m has);
  holds = stands.holds;
  settled = λ i h. rw (get_or_append_left clauses (clause ∷ []) [] i (omega (arith, h, stands.among))) (stands.settled i h);
}

pub holds_clause : (clauses : List (List ℤ)) (clause : List ℤ) (assumed : List ℤ) (state : Propagation) → Holds clauses assumed state → Holds (clauses ++ clause ∷ []) assumed state
holds_clause clauses clause assumed state holds = record { set = holds.set; stands = stands_clause clauses clause assumed state.trail.items state.looked state.seen holds.stands }

pub levels_clause : (clauses : List (List ℤ)) (clause : List ℤ) (levels : List Level) (trail : List ℤ) → AreLevels clauses levels trail → AreLevels (clauses ++ clause ∷ []) levels trail
levels_clause clauses clause levels trail are = record {
  stand = λ k d h. let level = get_or levels k d in let was = are.stand k d h in (was.0, stands_clause clauses clause (take k (assumed_in levels)) (take level.trail trail) level.looked level.seen was.1);
  climb = are.climb;
}

-- a longer trail keeps the levels
pub levels_longer : (clauses : List (List ℤ)) (levels : List Level) (trail longer : List ℤ) → length trail ≤ length longer → take (length trail) longer ≡ trail → AreLevels clauses levels trail → AreLevels clauses levels longer
levels_longer clauses levels trail longer h front are = record {
  stand = λ k d below.
      let level = get_or levels k d in
      let was = are.stand k d below in
      let same : take level.trail longer ≡ take level.trail trail = sym (take-take level.trail (length trail) longer was.0) ∙ ap (take level.trail) front in
      (omega (arith, was.0, h), rw same was.1);
  climb = are.climb;
}

assumed_push : (levels : List Level) (level : Level) → assumed_in (levels ++ level ∷ []) ≡ assumed_in levels ++ level.literal ∷ []
assumed_push levels level = map-append (λ (l : Level). l.literal) levels (level ∷ [])

-- a level more, which says how far the propagation is
pub levels_push : (clauses : List (List ℤ)) (levels : List Level) (trail : List ℤ) (level : Level) → level.trail ≡ length trail → Stands clauses (assumed_in levels) trail level.looked level.seen → AreLevels clauses levels trail → AreLevels clauses (levels ++ level ∷ []) trail
levels_push clauses levels trail level at stands are =
    let size : length (assumed_in levels) ≡ length levels = length-map levels (λ (l : Level). l.literal) in
    let count : length (levels ++ level ∷ []) ≡ length levels + 1 = length_push levels level in
    let fronts : (k : ℕ) → k ≤ length levels → take k (assumed_in (levels ++ level ∷ [])) ≡ take k (assumed_in levels) = λ k h. ap (take k) (assumed_push levels level) ∙ take-append-le k (assumed_in levels) (level.literal ∷ []) (omega (arith, h, size)) in
    let before : (k : ℕ) (d : Level) → k < length levels → get_or (levels ++ level ∷ []) k d ≡ get_or levels k d = λ k d h. get_or_append_left levels (level ∷ []) d k h in
    let last : (k : ℕ) (d : Level) → k ≡ length levels → get_or (levels ++ level ∷ []) k d ≡ level = λ k d e. get_or_push levels level d k (sym e) in
    let whole : take (length levels) (assumed_in levels) ≡ assumed_in levels = take_all (length levels) (assumed_in levels) (omega (arith, size)) in
    let all_trail : take level.trail trail ≡ trail = take_all level.trail trail (omega (arith, at)) in
    let here : IsLevel clauses (assumed_in levels) trail level = (omega (arith, at), rw all_trail stands) in
    record {
      stand = λ k d h. ⊎_elim
          (λ (l : k < length levels). rw (before k d l, fronts k (omega arith)) (are.stand k d l))
          (λ (l : length levels ≤ k).
          let e : k ≡ length levels = omega (arith, h, l, count) in
          rw (last k d e, fronts k (omega (arith, e)), e, whole) here)
          (cases_lt k (length levels));
      climb = λ j k d less below. ⊎_elim
          (λ (l : k < length levels). rw (before k d l, before j d (omega (arith, less, l))) (are.climb j k d less l))
          (λ (l : length levels ≤ k).
          let e : k ≡ length levels = omega (arith, below, l, count) in
          ⊎_elim
          (λ (early : j < length levels). rw (last k d e, before j d early, at) ((are.stand j d early).0))
          (λ (late : length levels ≤ j). let f : j ≡ length levels = omega (arith, less, e, late) in rw (last k d e, last j d f) (omega arith))
          (cases_lt j (length levels)))
          (cases_lt k (length levels));
    }

-- an assumed literal enters
pub holds_assumed : (clauses : List (List ℤ)) (assumed : List ℤ) (old new : Propagation) (l : ℤ) → code_of l < length old.marks.items → Enters old new l → Holds clauses assumed old → Holds clauses (assumed ++ l ∷ []) new
holds_assumed clauses assumed old new l below enters holds =
    let grows : Grows old new = Grows-enters old new l below enters in
    let set : IsSet new = grows.set holds.set in
    let more : (m : ℤ) → Derived (take old.seen clauses) (opposites assumed) m → Derived (take old.seen clauses) (opposites (assumed ++ l ∷ [])) m = λ m.
    derived_more (take old.seen clauses) (take old.seen clauses) (opposites assumed) (opposites (assumed ++ l ∷ [])) (among_itself (take old.seen clauses))
    (λ k has. rw (map-append neg_ℤ assumed (l ∷ [])) (Contains-append_left (opposites assumed) (neg_ℤ l ∷ []) k has)) m in
    let front : take old.looked new.trail.items ≡ take old.looked old.trail.items = sym (take-take old.looked (length old.trail.items) new.trail.items holds.stands.within) ∙ ap (take old.looked) grows.trail in
    record {
      set = set;
      stands = rw (enters.looked, enters.seen) (record {
        within = omega (arith, holds.stands.within, grows.longer);
        among = holds.stands.among;
        derived = λ m has. ⊎_elim
            (λ was. more m (holds.stands.derived m (holds.set.listed m was)))
            (λ (e : m ≡ l). denied m (neg_ℤ l) (opposite_there (assumed ++ l ∷ []) l (Contains-push assumed l)) (e ∙ sym (twice l)))
            (IsIn-cases old new l enters m (set.marked m has));
        holds = λ k has. set.listed k (⊎_elim
            (λ was. grows.marks (code_of k) (holds.set.marked k (holds.stands.holds k was)))
            (λ (e : l ≡ k). rw (sym e) (IsIn-enters old new l below enters))
            (Contains-push_cases assumed l k has));
        settled = λ i h. IsSettled-weaker (clause_at clauses i) (λ k. Contains (take old.looked old.trail.items) (neg_ℤ k)) (Contains old.trail.items) (λ k. Contains (take old.looked new.trail.items) (neg_ℤ k)) (Contains new.trail.items)
            (λ k in' x. rw front at x)
            (λ m in'. set.listed m (grows.marks (code_of m) (holds.set.marked m in')))
            (holds.stands.settled i h);
      });
    }
  where
    twice : (z : ℤ) → neg_ℤ (neg_ℤ z) ≡ z
    twice (pos zero) = refl
    twice (pos (suc n)) = refl
    twice (negsuc n) = refl

-- taken back to a level
pub holds_back : (clauses : List (List ℤ)) (levels : List Level) (trail : List ℤ) (kept : ℕ) (d : Level) (new : Propagation) → kept < length levels → AreLevels clauses levels trail → IsSet new
    → new.trail.items ≡ take (get_or levels kept d).trail trail → new.looked ≡ (get_or levels kept d).looked → new.seen ≡ (get_or levels kept d).seen → Holds clauses (take kept (assumed_in levels)) new
holds_back clauses levels trail kept d new h are set at looked seen = record { set = set; stands = rw (at, looked, seen) ((are.stand kept d h).1) }

pub levels_back : (clauses : List (List ℤ)) (levels : List Level) (trail : List ℤ) (kept : ℕ) (d : Level) → kept < length levels → AreLevels clauses levels trail → AreLevels clauses (take kept levels) (take (get_or levels kept d).trail trail)
levels_back clauses levels trail kept d h are =
    let size : length (take kept levels) ≡ kept = length-take-le kept levels (omega (arith, h)) in
    let at : (k : ℕ) (e : Level) → k < kept → get_or (take kept levels) k e ≡ get_or levels k e = λ k e less. get_or-take kept levels k e less in
    let n = (get_or levels kept d).trail in
    let inside : n ≤ length trail = (are.stand kept d h).0 in
    let length_n : length (take n trail) ≡ n = length-take-le n trail inside in
    record {
      stand = λ k e below.
          let less : k < kept = omega (arith, below, size) in
          let level = get_or levels k e in
          let same_default : get_or levels kept e ≡ get_or levels kept d = get_or_default levels kept e d h in
          let low : level.trail ≤ n = rw same_default at (are.climb k kept e (omega arith) h) in
          let was = are.stand k e (omega (arith, less, h)) in
          let fronts : take k (assumed_in (take kept levels)) ≡ take k (assumed_in levels) = ap (take k) (sym (take-map (λ (l : Level). l.literal) kept levels)) ∙ take-take k kept (assumed_in levels) (omega arith) in
          rw (at k e less, fronts) ((omega (arith, low, length_n), rw (take-take level.trail n trail low) was.1));
      climb = λ j k e less below.
          let low : k < kept = omega (arith, below, size) in
          rw (at k e low, at j e (omega (arith, less, low))) (are.climb j k e less (omega (arith, low, h)));
    }

-- the whole state
pub consistent_new : (greatest : ℕ) (table : List (List ℕ)) (set : Propagation) → length table ≡ 2 * greatest + 2 → IsFresh (2 * greatest + 2) set → greatest ≤ 2 ^ 28 → IsConsistent greatest [] table set [] false
consistent_new greatest table set size fresh limit = record {
  index = record { below = λ i h. absurd (omega (arith, h)); occurrences = λ i h. absurd (omega (arith, h)) };
  size = size;
  marks = fresh.marks;
  limit = limit;
  holds = holds_fresh (2 * greatest + 2) set fresh;
  are_levels = levels_none [] set.trail.items;
  done = λ e. absurd (false≢true e);
}

pub consistent_table : (greatest : ℕ) (clauses : List (List ℤ)) (table table' : List (List ℕ)) (set : Propagation) (levels : List Level) (settled : Bool) → KeepsRows table table' → IsConsistent greatest clauses table set levels settled → IsConsistent greatest clauses table' set levels settled
consistent_table greatest clauses table table' set levels settled more is = record {
  index = IsIndex-longer clauses table table' more is.index;
  size = more.size ∙ is.size;
  marks = is.marks;
  limit = is.limit;
  holds = is.holds;
  are_levels = is.are_levels;
  done = is.done;
}

pub consistent_clause : (greatest : ℕ) (clauses : List (List ℤ)) (clause : List ℤ) (table : List (List ℕ)) (set : Propagation) (levels : List Level) (settled : Bool)
    → ((k : ℤ) → Contains clause k → IsBelow (length table) k) → IsNoted table clause (length clauses)
    → IsConsistent greatest clauses table set levels settled → IsConsistent greatest (clauses ++ clause ∷ []) table set levels false
consistent_clause greatest clauses clause table set levels settled below noted is = record {
  index = IsIndex-push clauses clause table is.index below noted;
  size = is.size;
  marks = is.marks;
  limit = is.limit;
  holds = holds_clause clauses clause (assumed_in levels) set is.holds;
  are_levels = levels_clause clauses clause levels set.trail.items is.are_levels;
  done = λ e. absurd (false≢true e);
}

-- a set that has gone on
pub consistent_advances : (greatest : ℕ) (clauses : List (List ℤ)) (table : List (List ℕ)) (old new : Propagation) (levels : List Level) (settled : Bool) → Advances clauses old new → IsConsistent greatest clauses table old levels settled → IsConsistent greatest clauses table new levels false
consistent_advances greatest clauses table old new levels settled on is = record {
  index = is.index;
  size = is.size;
  marks = on.size ∙ is.marks;
  limit = is.limit;
  holds = on.holds (assumed_in levels) is.holds;
  are_levels = levels_longer clauses levels old.trail.items new.trail.items on.longer on.trail is.are_levels;
  done = λ e. absurd (false≢true e);
}

pub consistent_settled : (greatest : ℕ) (clauses : List (List ℤ)) (table : List (List ℕ)) (set : Propagation) (levels : List Level) (settled : Bool) → IsSettledState clauses set → IsConsistent greatest clauses table set levels settled → IsConsistent greatest clauses table set levels true
consistent_settled greatest clauses table set levels settled all is = record {
  index = is.index;
  size = is.size;
  marks = is.marks;
  limit = is.limit;
  holds = is.holds;
  are_levels = is.are_levels;
  done = λ e. all;
}

pub consistent_unsettled : (greatest : ℕ) (clauses : List (List ℤ)) (table : List (List ℕ)) (set : Propagation) (levels : List Level) (settled : Bool) → IsConsistent greatest clauses table set levels settled → IsConsistent greatest clauses table set levels false
consistent_unsettled greatest clauses table set levels settled is = record {
  index = is.index;
  size = is.size;
  marks = is.marks;
  limit = is.limit;
  holds = is.holds;
  are_levels = is.are_levels;
  done = λ e. absurd (false≢true e);
}

-- the same literals, and as far
pub consistent_same : (greatest : ℕ) (clauses : List (List ℤ)) (table : List (List ℕ)) (old new : Propagation) (levels : List Level) (settled : Bool) → SameSet old new → IsConsistent greatest clauses table old levels settled → IsConsistent greatest clauses table new levels settled
consistent_same greatest clauses table old new levels settled same is =
    let on = Advances-same clauses old new same in
    record {
      index = is.index;
      size = is.size;
      marks = on.size ∙ is.marks;
      limit = is.limit;
      holds = on.holds (assumed_in levels) is.holds;
      are_levels = levels_longer clauses levels old.trail.items new.trail.items on.longer on.trail is.are_levels;
      done = λ e. let all = is.done e in (rw same.seen all.0, rw (same.looked, same.trail) all.1);
    }

pub consistent_assume : (greatest : ℕ) (clauses : List (List ℤ)) (table : List (List ℕ)) (old new : Propagation) (levels : List Level) (settled : Bool) (level : Level) → unsigned_abs level.literal ≤ greatest
    → level.trail ≡ length old.trail.items → level.looked ≡ old.looked → level.seen ≡ old.seen → Enters old new level.literal
    → IsConsistent greatest clauses table old levels settled → IsConsistent greatest clauses table new (levels ++ level ∷ []) false
consistent_assume greatest clauses table old new levels settled level up_to trail looked seen enters is =
    let below : code_of level.literal < length old.marks.items = rw is.marks (below_size greatest level.literal up_to).0 in
    let grows : Grows old new = Grows-enters old new level.literal below enters in
    let stands : Stands clauses (assumed_in levels) old.trail.items level.looked level.seen = rw (looked, seen) is.holds.stands in
    record {
      index = is.index;
      size = is.size;
      marks = grows.size ∙ is.marks;
      limit = is.limit;
      holds = rw (assumed_push levels level) (holds_assumed clauses (assumed_in levels) old new level.literal below enters is.holds);
      are_levels = levels_longer clauses (levels ++ level ∷ []) old.trail.items new.trail.items grows.longer grows.trail (levels_push clauses levels old.trail.items level trail stands is.are_levels);
      done = λ e. absurd (false≢true e);
    }

pub consistent_undo : (greatest : ℕ) (clauses : List (List ℤ)) (table : List (List ℕ)) (old new : Propagation) (levels : List Level) (settled : Bool) (kept : ℕ) (d : Level) → kept < length levels
    → length new.marks.items ≡ length old.marks.items → IsSet new → new.trail.items ≡ take (get_or levels kept d).trail old.trail.items → new.looked ≡ (get_or levels kept d).looked → new.seen ≡ (get_or levels kept d).seen
    → IsConsistent greatest clauses table old levels settled → IsConsistent greatest clauses table new (take kept levels) false
consistent_undo greatest clauses table old new levels settled kept d h size set trail looked seen is = record {
  index = is.index;
  size = is.size;
  marks = size ∙ is.marks;
  limit = is.limit;
  holds = rw (sym (take-map (λ (l : Level). l.literal) kept levels)) (holds_back clauses levels old.trail.items kept d new h is.are_levels set trail looked seen);
  are_levels = rw trail (levels_back clauses levels old.trail.items kept d h is.are_levels);
  done = λ e. absurd (false≢true e);
}

-- a settled assignment tells of each literal whether it is derived
pub tells : (clauses : List (List ℤ)) (assumed : List ℤ) (state : Propagation) → IsSettledState clauses state → Holds clauses assumed state → (k : ℤ) → IsIn state k ↔ Derived clauses (opposites assumed) k
tells clauses assumed state done holds k = (sound_whole clauses assumed state holds k, finds_all clauses assumed state done holds k)

pub lists_it : (clauses : List (List ℤ)) (assumed : List ℤ) (state : Propagation) → IsSettledState clauses state → Holds clauses assumed state → (k : ℤ) → Contains state.trail.items k ↔ Derived clauses (opposites assumed) k
lists_it clauses assumed state done holds k = (
  λ has. sound_whole clauses assumed state holds k (holds.set.marked k has),
  λ is. holds.set.listed k (finds_all clauses assumed state done holds k is),
)

-- what was pushed is popped
pub popped : {A : Type 0} (levels left all : List A) (level : A) (n : ℕ) → all ≡ levels ++ level ∷ [] → n ≡ length all → left ≡ take (n - 1) all → levels ≡ left
popped levels left all level n is count rest =
    let size : length all ≡ length levels + 1 = ap length is ∙ length_push levels level in
    sym (rest ∙ ap (take (n - 1)) is ∙ take_at levels (level ∷ []) (n - 1) (omega (arith, count, size)))

-- fewer clauses, none of which has been looked at in vain
stands_back : (clauses : List (List ℤ)) (number : ℕ) (trail : List ℤ) (looked seen : ℕ) → number < length clauses → seen ≤ number → Stands clauses [] trail looked seen → Stands (take number clauses) [] trail looked seen
stands_back clauses number trail looked seen h low stands = record {
  within = stands.within;
  among = omega (arith, low, length-take-le number clauses (omega (arith, h)));
  derived = λ m has. rw (take-take seen number clauses low) (stands.derived m has);
  holds = stands.holds;
  settled = λ i less. rw (get_or-take number clauses i [] (omega (arith, less, low))) (stands.settled i less);
}

holds_none : (clauses : List (List ℤ)) (size : ℕ) (state : Propagation) → IsFresh size state → Holds clauses [] state
holds_none clauses size state fresh = record {
  set = fresh.set;
  stands = rw (fresh.looked, fresh.seen, fresh.trail) (record {
    within = omega arith;
    among = omega arith;
    derived = λ m has. absurd (omega (arith, has.1));
    holds = λ l has. absurd (omega (arith, has.1));
    settled = λ i h. absurd (omega (arith, h));
  });
}

pub consistent_back : (greatest : ℕ) (clauses : List (List ℤ)) (table table' : List (List ℕ)) (old new : Propagation) (levels : List Level) (settled : Bool) (number : ℕ) → number < length clauses → assumed_in levels ≡ []
    → Unsees old new number → KeepsBut number table table' → IsConsistent greatest clauses table old levels settled → IsConsistent greatest (take number clauses) table' new levels false
consistent_back greatest clauses table table' old new levels settled number h none unsees keeps is =
    let no_level : length levels ≡ 0 = sym (length-map levels (λ (l : Level). l.literal)) ∙ ap length none in
    let before : Holds clauses [] old = rw none at is.holds in
    record {
      index = IsIndex-back clauses number table table' h keeps is.index;
      size = keeps.size ∙ is.size;
      marks = ⊎_elim (λ (same : SameSet old new × (new.seen ≤ number)). ap length same.0.marks ∙ is.marks) (λ (fresh : IsFresh (length old.marks.items) new). fresh.marks ∙ is.marks) unsees;
      limit = is.limit;
      holds = rw none (⊎_elim
          (λ (same : SameSet old new × (new.seen ≤ number)).
          let held : Holds clauses [] new = (Advances-same clauses old new same.0).holds [] before in
          record { set = held.set; stands = stands_back clauses number new.trail.items new.looked new.seen h same.1 held.stands })
          (λ (fresh : IsFresh (length old.marks.items) new). holds_none (take number clauses) (length old.marks.items) new fresh)
          unsees);
      are_levels = record { stand = λ k d below. absurd (omega (arith, below, no_level)); climb = λ j k d less below. absurd (omega (arith, below, no_level)) };
      done = λ e. absurd (false≢true e);
    }
