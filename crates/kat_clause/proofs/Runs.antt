-- A whole propagation: what it keeps, and that it ends with the least set.
use Rattle.std.proofs.Common.{◌≡◌, ◌≢◌, ℕ, zero, suc, ◌+◌, ◌<◌, ◌≤◌, ℤ, neg_ℤ, List, [], ◌∷◌, ◌++◌, ◌↔◌, length, get_or, take, replicate, false, true, Bool, Ok, Err, ◌⊎◌, inl, inr, ⊎_elim, refl, sym, ap, ◌∙◌, subst, arith, Contains, below_more, Vec}
use Rattle.std.specs.Global.{Global}
use Rattle.std.specs.Result.{IsErr, IfOk, OnErr, OnOk, is_err}
use Rattle.std.specs.Bool.{IsTrue}
use Rattle.std.specs.declared.result.Result.{Result}
use Rattle.std.specs.declared.alloc.AllocError.{AllocError}
use Rattle.std.proofs.Math.IntN.{neg_ℤ-neg_ℤ}
use Rattle.std.proofs.lemmas.Bool.{cases_eq, false≢true}
use Rattle.std.proofs.lemmas.List.{length-take, take_all, take_more, take-take, get_or-take, get_or_default, get_or-map, length-map, map-append}
use Rattle.std.proofs.lemmas.List.Elements.{Contains-push_cases}
use Rattle.kat_clause.specs.declared.propagation.Propagation.{Propagation}
use Rattle.kat_clause.specs.Clauses.{Derived, Follows, lists, opposites}
use Rattle.kat_clause.specs.Clauses.Derived.{denied, forced}
use Rattle.kat_clause.specs.Literals.{code_of}
use Rattle.kat_clause.specs.Tables.{IsMarked, IsIndex, clause_at}
use Rattle.kat_clause.specs.Propagations.{IsSettled, IsIn, IsDenied, IsSet, IsSound, SameSet, Grows, Visits, GrowsSoundly, VisitsAll, HaveVisited, Holds, Advances, LooksAtNew, LooksUp, IsSettledState}
use Rattle.kat_clause.proofs.Sets.{Grows-same, Grows-trans, IsSettled-weaker}
use Rattle.kat_clause.proofs.Laws.{derived_more, among_lists}

GrowsSoundly-trans : (clauses : List (List ℤ)) (a b c : Propagation) → GrowsSoundly clauses a b → GrowsSoundly clauses b c → GrowsSoundly clauses a c
GrowsSoundly-trans clauses a b c f g = record { grows = Grows-trans a b c f.grows g.grows; sound = λ line sound. g.sound line (f.sound line sound) }

pub GrowsSoundly-same : (clauses : List (List ℤ)) (old new : Propagation) → SameSet old new → GrowsSoundly clauses old new
GrowsSoundly-same clauses old new same = record { grows = Grows-same old new same; sound = λ line sound m now. sound m (rw (sym same.marks) now) }

-- looking at one more clause keeps what was looked at
pub visited_more : (clauses : List (List ℤ)) (numbers : List ℕ) (n : ℕ) (first old new : Propagation) → HaveVisited clauses numbers n first old
    → get_or numbers n 0 < length clauses → Contains clauses (clause_at clauses (get_or numbers n 0))
    → Visits (clause_at clauses (get_or numbers n 0)) old new (Ok false) → HaveVisited clauses numbers (n + 1) first new
visited_more clauses numbers n first old new before below among now = record {
  both = GrowsSoundly-trans clauses first old new before.both (record { grows = now.0; sound = λ line. now.1 clauses line among });
  settled = below_more (λ j. get_or numbers j 0 < length clauses → IsSettled (clause_at clauses (get_or numbers j 0)) (IsDenied first) (IsIn new)) n
      (λ j h is. IsSettled-weaker (clause_at clauses (get_or numbers j 0)) (IsDenied first) (IsIn old) (IsDenied first) (IsIn new) (λ k has d. d) (λ m in'. now.0.marks (code_of m) in') (before.settled j h is))
      (λ is. IsSettled-weaker (clause_at clauses (get_or numbers n 0)) (IsDenied old) (IsIn new) (IsDenied first) (IsIn new) (λ k has d. before.both.grows.marks (code_of (neg_ℤ k)) d) (λ m in'. in') now.2);
}

-- a number of no clause changes nothing
pub visited_past : (clauses : List (List ℤ)) (numbers : List ℕ) (n : ℕ) (first old : Propagation) → HaveVisited clauses numbers n first old → length clauses ≤ get_or numbers n 0 → HaveVisited clauses numbers (n + 1) first old
visited_past clauses numbers n first old before past = record {
  both = before.both;
  settled = below_more (λ j. get_or numbers j 0 < length clauses → IsSettled (clause_at clauses (get_or numbers j 0)) (IsDenied first) (IsIn old)) n before.settled (λ is. absurd (omega arith));
}

pub visited_none : (clauses : List (List ℤ)) (numbers : List ℕ) (first : Propagation) → HaveVisited clauses numbers 0 first first
visited_none clauses numbers first = record {
  both = GrowsSoundly-same clauses first first (record { marks = refl; trail = refl; looked = refl; seen = refl });
  settled = λ j h. absurd (omega arith);
}

-- a falsified clause among those looked at
pub visited_falsified : (clauses : List (List ℤ)) (numbers : List ℕ) (n : ℕ) (first old new : Propagation) → HaveVisited clauses numbers n first old
    → (clause : List ℤ) → Contains clauses clause → SameSet old new × ((all : List (List ℤ)) (line : List ℤ) → Contains all clause → IsSound all line old → Follows all line)
    → GrowsSoundly clauses first new × ((line : List ℤ) → IsSound clauses line first → Follows clauses line)
visited_falsified clauses numbers n first old new before clause among now = (
  GrowsSoundly-trans clauses first old new before.both (GrowsSoundly-same clauses old new now.0),
  λ line sound. now.1 clauses line among (before.both.sound line sound),
)

pub visited_fails : (clauses : List (List ℤ)) (numbers : List ℕ) (n : ℕ) (first old new : Propagation) → HaveVisited clauses numbers n first old → SameSet old new → GrowsSoundly clauses first new
visited_fails clauses numbers n first old new before same = GrowsSoundly-trans clauses first old new before.both (GrowsSoundly-same clauses old new same)

pub visited_all : (clauses : List (List ℤ)) (numbers : List ℕ) (n : ℕ) (first old : Propagation) → length numbers ≤ n → HaveVisited clauses numbers n first old → VisitsAll clauses numbers first old (Ok false)
visited_all clauses numbers n first old all before = (
  before.both,
  λ i h has.
      let at : get_or numbers has.0 0 ≡ i = get_or_default numbers has.0 0 i has.1 ∙ has.2 in
      let P : ℕ → Type 0 = λ x. IsSettled (clause_at clauses x) (IsDenied first) (IsIn old) in
      subst P at (before.settled has.0 (omega arith) (rw at h)),
)

tail_of : (y : ℕ) (ys : List ℕ) (x : ℕ) → Contains (y ∷ ys) x → y ≢ x → Contains ys x
tail_of y ys x (zero, h, e) ne = absurd (ne e)
tail_of y ys x (suc k, h, e) ne = (k, omega arith, e)

-- a list has a number or it hasn't
pub cases_among : (xs : List ℕ) (x : ℕ) → Contains xs x ⊎ (Contains xs x → ⊥)
cases_among [] x = inr (λ has. absurd (omega (arith, has.1)))
cases_among (y ∷ ys) x = ⊎_elim
    (λ (e : y ≡ x). inl (0, omega arith, e))
    (λ (ne : y ≢ x). ⊎_elim (λ (has : Contains ys x). inl (suc has.0, omega (arith, has.1), has.2)) (λ (without : Contains ys x → ⊥). inr (λ has. without (tail_of y ys x has ne))) (cases_among ys x))
    (cases_eq y x)

pub Contains-take : {X : Type 0} → (n : ℕ) (xs : List X) (x : X) → Contains (take n xs) x → Contains xs x
Contains-take n xs x has = (has.0, omega (arith, has.1, length-take n xs), sym (get_or-take n xs has.0 x (omega (arith, has.1, length-take n xs))) ∙ has.2)

pub Contains-longer : {X : Type 0} → (n p : ℕ) (xs : List X) (x : X) → n ≤ p → Contains (take n xs) x → Contains (take p xs) x
Contains-longer {X} n p xs x h has =
    let P : List X → Type 0 = λ ys. Contains ys x in
    Contains-take n (take p xs) x (subst P (sym (take-take n p xs h)) has)

-- more of the clauses derive no less
pub derived_longer : (clauses : List (List ℤ)) (n p : ℕ) (line : List ℤ) (m : ℤ) → n ≤ p → Derived (take n clauses) line m → Derived (take p clauses) line m
derived_longer clauses n p line m h = derived_more (take n clauses) (take p clauses) line line (among_lists (take n clauses) (take p clauses) (λ clause. Contains-longer n p clauses clause h)) (λ k has. has) m

pub derived_whole : (clauses : List (List ℤ)) (n : ℕ) (line : List ℤ) (m : ℤ) → Derived (take n clauses) line m → Derived clauses line m
derived_whole clauses n line m = derived_more (take n clauses) clauses line line (among_lists (take n clauses) clauses (λ clause. Contains-take n clauses clause)) (λ k has. has) m

-- the beginning of the trail stays
front_same : (n : ℕ) (old new : Propagation) → Grows old new → n ≤ length old.trail.items → take n new.trail.items ≡ take n old.trail.items
front_same n old new grows h = sym (take-take n (length old.trail.items) new.trail.items h) ∙ ap (take n) grows.trail

-- what a sound set has is derived from all clauses
pub sound_whole : (clauses : List (List ℤ)) (assumed : List ℤ) (state : Propagation) → Holds clauses assumed state → IsSound clauses (opposites assumed) state
sound_whole clauses assumed state holds m now = derived_whole clauses state.seen (opposites assumed) m (holds.stands.derived m (holds.set.listed m now))

pub sound_up_to : (clauses : List (List ℤ)) (assumed : List ℤ) (state : Propagation) (n : ℕ) → state.seen ≤ n → Holds clauses assumed state → IsSound (take n clauses) (opposites assumed) state
sound_up_to clauses assumed state n h holds m now = derived_longer clauses state.seen n (opposites assumed) m h (holds.stands.derived m (holds.set.listed m now))

-- a set that has grown by what the clauses looked at derive stays sound
holds_grown : (clauses : List (List ℤ)) (assumed : List ℤ) (old new : Propagation) → Grows old new → IsSound (take old.seen clauses) (opposites assumed) new → Holds clauses assumed old → Holds clauses assumed new
holds_grown clauses assumed old new grows sound holds = record {
  set = grows.set holds.set;
  stands = rw (grows.looked, grows.seen) (record {
    within = omega (arith, holds.stands.within, grows.longer);
    among = holds.stands.among;
    derived = λ m has. sound m ((grows.set holds.set).marked m has);
    holds = λ l has. (grows.set holds.set).listed l (grows.marks (code_of l) (holds.set.marked l (holds.stands.holds l has)));
    settled = λ i h. IsSettled-weaker (clause_at clauses i) (λ k. Contains (take old.looked old.trail.items) (neg_ℤ k)) (Contains old.trail.items) (λ k. Contains (take old.looked new.trail.items) (neg_ℤ k)) (Contains new.trail.items)
        (λ k in' now. rw (front_same old.looked old new grows holds.stands.within) at now)
        (λ m in'. (grows.set holds.set).listed m (grows.marks (code_of m) (holds.set.marked m in')))
        (holds.stands.settled i h);
  });
}

holds_same : (clauses : List (List ℤ)) (assumed : List ℤ) (old new : Propagation) → SameSet old new → Holds clauses assumed old → Holds clauses assumed new
holds_same clauses assumed old new same holds = holds_grown clauses assumed old new (Grows-same old new same) (λ m now. sound_up_to clauses assumed old old.seen (omega arith) holds m (rw (sym same.marks) now)) holds

pub Advances-same : (clauses : List (List ℤ)) (old new : Propagation) → SameSet old new → Advances clauses old new
Advances-same clauses old new same = record {
  size = ap length same.marks;
  trail = rw same.trail (take_all _ old.trail.items (omega arith));
  longer = rw same.trail (omega arith);
  holds = λ assumed. holds_same clauses assumed old new same;
}

pub Advances-trans : (clauses : List (List ℤ)) (a b c : Propagation) → Advances clauses a b → Advances clauses b c → Advances clauses a c
Advances-trans clauses a b c f g = record {
  size = g.size ∙ f.size;
  trail = sym (take-take (length a.trail.items) (length b.trail.items) c.trail.items f.longer) ∙ ap (take (length a.trail.items)) g.trail ∙ f.trail;
  longer = omega (arith, f.longer, g.longer);
  holds = λ assumed holds. g.holds assumed (f.holds assumed holds);
}

-- one more clause has been looked at
looked_at : (clauses : List (List ℤ)) (assumed : List ℤ) (old mid new : Propagation) → old.seen < length clauses → Visits (clause_at clauses old.seen) old mid (Ok false)
    → new.marks.items ≡ mid.marks.items → new.trail.items ≡ mid.trail.items → new.looked ≡ mid.looked → new.seen ≡ mid.seen + 1 → Holds clauses assumed old → Holds clauses assumed new
looked_at clauses assumed old mid new h now marks trail looked seen holds =
    let grows : Grows old mid = now.0 in
    let set : IsSet mid = grows.set holds.set in
    let there : Contains (take (old.seen + 1) clauses) (clause_at clauses old.seen) =
    (old.seen, omega (arith, length-take (old.seen + 1) clauses), get_or-take (old.seen + 1) clauses old.seen (clause_at clauses old.seen) (omega arith) ∙ get_or_default clauses old.seen (clause_at clauses old.seen) [] h) in
    let sound : IsSound (take (old.seen + 1) clauses) (opposites assumed) mid = now.1 (take (old.seen + 1) clauses) (opposites assumed) there (sound_up_to clauses assumed old (old.seen + 1) (omega arith) holds) in
    let is_seen : new.seen ≡ old.seen + 1 = seen ∙ ap (λ n. n + 1) grows.seen in
    let is_looked : new.looked ≡ old.looked = looked ∙ grows.looked in
    record {
      set = record {
        listed = λ m x. rw trail (set.listed m (rw (sym marks) x));
        marked = λ m x. rw marks (set.marked m (rw (sym trail) x));
        once = λ i j less below. rw trail (set.once i j less (rw (sym trail) below));
      };
      stands = rw (is_seen, is_looked, trail) (record {
        within = omega (arith, holds.stands.within, grows.longer);
        among = omega arith;
        derived = λ m has. sound m (set.marked m has);
        holds = λ l has. set.listed l (grows.marks (code_of l) (holds.set.marked l (holds.stands.holds l has)));
        settled = below_more (λ i. IsSettled (clause_at clauses i) (λ k. Contains (take old.looked mid.trail.items) (neg_ℤ k)) (Contains mid.trail.items)) old.seen
            (λ i less. IsSettled-weaker (clause_at clauses i) (λ k. Contains (take old.looked old.trail.items) (neg_ℤ k)) (Contains old.trail.items) (λ k. Contains (take old.looked mid.trail.items) (neg_ℤ k)) (Contains mid.trail.items)
            (λ k in' x. rw (front_same old.looked old mid grows holds.stands.within) at x)
            (λ m in'. set.listed m (grows.marks (code_of m) (holds.set.marked m in')))
            (holds.stands.settled i less))
            (IsSettled-weaker (clause_at clauses old.seen) (IsDenied old) (IsIn mid) (λ k. Contains (take old.looked mid.trail.items) (neg_ℤ k)) (Contains mid.trail.items)
            (λ k in' x. holds.set.marked (neg_ℤ k) (Contains-take old.looked old.trail.items (neg_ℤ k) (rw (front_same old.looked old mid grows holds.stands.within) at x)))
            (λ m in'. set.listed m in')
            now.2);
      });
    }

-- going on by one clause
pub new_more : (clauses : List (List ℤ)) (first old mid new : Propagation) → Advances clauses first old → old.seen < length clauses → Visits (clause_at clauses old.seen) old mid (Ok false)
    → new.marks.items ≡ mid.marks.items → new.trail.items ≡ mid.trail.items → new.looked ≡ mid.looked → new.seen ≡ mid.seen + 1 → Advances clauses first new
new_more clauses first old mid new before h now marks trail looked seen = Advances-trans clauses first old new before (record {
  size = ap length marks ∙ now.0.size;
  trail = rw trail now.0.trail;
  longer = rw trail now.0.longer;
  holds = λ assumed. looked_at clauses assumed old mid new h now marks trail looked seen;
})

pub new_falsified : (clauses : List (List ℤ)) (first old new : Propagation) → Advances clauses first old → old.seen < length clauses
    → SameSet old new × ((all : List (List ℤ)) (line : List ℤ) → Contains all (clause_at clauses old.seen) → IsSound all line old → Follows all line)
    → Advances clauses first new × ((assumed : List ℤ) → Holds clauses assumed first → Follows clauses (opposites assumed))
new_falsified clauses first old new before h now = (
  Advances-trans clauses first old new before (Advances-same clauses old new now.0),
  λ assumed holds. now.1 clauses (opposites assumed) (old.seen, h, get_or_default clauses old.seen (clause_at clauses old.seen) [] h) (sound_whole clauses assumed old (before.holds assumed holds)),
)

pub new_fails : (clauses : List (List ℤ)) (first old new : Propagation) → Advances clauses first old → SameSet old new → Advances clauses first new
new_fails clauses first old new before same = Advances-trans clauses first old new before (Advances-same clauses old new same)

-- if all clauses have been looked at, a set that grows soundly has all
stands_all : (clauses : List (List ℤ)) (assumed : List ℤ) (old new : Propagation) → length clauses ≤ old.seen → GrowsSoundly clauses old new → Holds clauses assumed old → Holds clauses assumed new
stands_all clauses assumed old new all both holds =
    let whole : take old.seen clauses ≡ clauses = take_all old.seen clauses all in
    holds_grown clauses assumed old new both.grows (rw whole (both.sound (opposites assumed) (sound_whole clauses assumed old holds))) holds

pub up_fails : (clauses : List (List ℤ)) (first old new : Propagation) → length clauses ≤ old.seen → Advances clauses first old → GrowsSoundly clauses old new → Advances clauses first new
up_fails clauses first old new all before both = Advances-trans clauses first old new before (record {
  size = both.grows.size;
  trail = both.grows.trail;
  longer = both.grows.longer;
  holds = λ assumed. stands_all clauses assumed old new all both;
})

pub up_falsified : (clauses : List (List ℤ)) (first old new : Propagation) → length clauses ≤ old.seen → Advances clauses first old → GrowsSoundly clauses old new × ((line : List ℤ) → IsSound clauses line old → Follows clauses line)
    → Advances clauses first new × ((assumed : List ℤ) → Holds clauses assumed first → Follows clauses (opposites assumed))
up_falsified clauses first old new all before now = (
  up_fails clauses first old new all before now.0,
  λ assumed holds. now.1 (opposites assumed) (sound_whole clauses assumed old (before.holds assumed holds)),
)

-- one more literal has been looked up
looked_up : (clauses : List (List ℤ)) (table : List (List ℕ)) (assumed : List ℤ) (old mid new : Propagation) (l : ℤ) → IsIndex clauses table → length clauses ≤ old.seen → old.looked < length old.trail.items → get_or old.trail.items old.looked l ≡ l
    → VisitsAll clauses (get_or table (code_of (neg_ℤ l)) []) old mid (Ok false)
    → new.marks.items ≡ mid.marks.items → new.trail.items ≡ mid.trail.items → new.looked ≡ mid.looked + 1 → new.seen ≡ mid.seen → Holds clauses assumed old → Holds clauses assumed new
looked_up clauses table assumed old mid new l index all h at now marks trail looked seen holds =
    let grows : Grows old mid = now.0.grows in
    let held : Holds clauses assumed mid = stands_all clauses assumed old mid all now.0 holds in
    let is_seen : new.seen ≡ mid.seen = seen in
    let is_looked : new.looked ≡ old.looked + 1 = looked ∙ ap (λ n. n + 1) grows.looked in
    let front : take (old.looked + 1) mid.trail.items ≡ take (old.looked + 1) old.trail.items = front_same (old.looked + 1) old mid grows (omega arith) in
    record {
      set = record {
        listed = λ m x. rw trail (held.set.listed m (rw (sym marks) x));
        marked = λ m x. rw marks (held.set.marked m (rw (sym trail) x));
        once = λ i j less below. rw trail (held.set.once i j less (rw (sym trail) below));
      };
      stands = rw (is_seen, is_looked, trail) (record {
        within = omega (arith, h, grows.longer);
        among = held.stands.among;
        derived = held.stands.derived;
        holds = held.stands.holds;
        settled = λ i less. let within : i < length clauses = omega (arith, less, held.stands.among) in ⊎_elim
            (λ (has : Contains (get_or table (code_of (neg_ℤ l)) []) i).
            IsSettled-weaker (clause_at clauses i) (IsDenied old) (IsIn mid) (λ k. Contains (take (old.looked + 1) mid.trail.items) (neg_ℤ k)) (Contains mid.trail.items)
            (λ k in' x. holds.set.marked (neg_ℤ k) (Contains-take (old.looked + 1) old.trail.items (neg_ℤ k) (rw front at x)))
            (λ m in'. held.set.listed m in')
            (now.1 i within has))
            (λ (without : Contains (get_or table (code_of (neg_ℤ l)) []) i → ⊥).
            IsSettled-weaker (clause_at clauses i) (λ k. Contains (take old.looked old.trail.items) (neg_ℤ k)) (Contains old.trail.items) (λ k. Contains (take (old.looked + 1) mid.trail.items) (neg_ℤ k)) (Contains mid.trail.items)
            (λ k in' x. ⊎_elim
            (λ was. was)
            (λ (e : l ≡ neg_ℤ k).
            let same : code_of (neg_ℤ l) ≡ code_of k = ap (λ z. code_of (neg_ℤ z)) e ∙ ap code_of (neg_ℤ-neg_ℤ k) in
            absurd (without (rw same (index.occurrences i within k in'))))
            (Contains-push_cases (take old.looked old.trail.items) l (neg_ℤ k) (rw (front, take_more old.trail.items old.looked l h, at) at x)))
            (λ m in'. held.set.listed m (grows.marks (code_of m) (holds.set.marked m in')))
            (holds.stands.settled i (omega (arith, within, all))))
            (cases_among (get_or table (code_of (neg_ℤ l)) []) i);
      });
    }

-- going on by one literal
pub up_more : (clauses : List (List ℤ)) (table : List (List ℕ)) (first old mid new : Propagation) (l : ℤ) → IsIndex clauses table → length clauses ≤ old.seen → Advances clauses first old → old.looked < length old.trail.items → get_or old.trail.items old.looked l ≡ l
    → VisitsAll clauses (get_or table (code_of (neg_ℤ l)) []) old mid (Ok false)
    → new.marks.items ≡ mid.marks.items → new.trail.items ≡ mid.trail.items → new.looked ≡ mid.looked + 1 → new.seen ≡ mid.seen → Advances clauses first new
up_more clauses table first old mid new l index all before h at now marks trail looked seen = Advances-trans clauses first old new before (record {
  size = ap length marks ∙ now.0.grows.size;
  trail = rw trail now.0.grows.trail;
  longer = rw trail now.0.grows.longer;
  holds = λ assumed. looked_up clauses table assumed old mid new l index all h at now marks trail looked seen;
})

-- each clause is settled by the whole set in the end
settled_whole : (clauses : List (List ℤ)) (assumed : List ℤ) (state : Propagation) → IsSettledState clauses state → Holds clauses assumed state → (clause : List ℤ) → Contains clauses clause → IsSettled clause (IsDenied state) (IsIn state)
settled_whole clauses assumed state done holds clause among =
    let at : clause_at clauses among.0 ≡ clause = get_or_default clauses among.0 [] clause among.1 ∙ among.2 in
    let P : List ℤ → Type 0 = λ x. IsSettled x (IsDenied state) (IsIn state) in
    subst P at (IsSettled-weaker (clause_at clauses among.0) (λ k. Contains (take state.looked state.trail.items) (neg_ℤ k)) (Contains state.trail.items) (IsDenied state) (IsIn state)
    (λ k in' d. rw (take_all state.looked state.trail.items done.1) (holds.set.listed (neg_ℤ k) d))
    (λ m in'. holds.set.marked m in')
    (holds.stands.settled among.0 (omega (arith, among.1, done.0))))

-- in the end the set has every derived literal
closed : (clauses : List (List ℤ)) (line : List ℤ) (state : Propagation) → ((l : ℤ) → Contains line l → IsDenied state l) → ((clause : List ℤ) → Contains clauses clause → IsSettled clause (IsDenied state) (IsIn state)) → (m : ℤ) → Derived clauses line m → IsIn state m
closed clauses line state denies settled m (denied _ l has e) = rw e (denies l has)
closed clauses line state denies settled m (forced _ clause among has others) =
    (settled clause among).unit m has (λ k in' ne. closed clauses line state denies settled (neg_ℤ k) (others k in' ne))

pub opposite_back : (assumed : List ℤ) (l : ℤ) → Contains (opposites assumed) l → Contains assumed (neg_ℤ l)
opposite_back [] l has = absurd (omega (arith, has.1))
opposite_back (a ∷ as') l (zero, h, e) = (0, omega arith, sym (neg_ℤ-neg_ℤ a) ∙ ap neg_ℤ e)
opposite_back (a ∷ as') l (suc j, h, e) = let rest = opposite_back as' l (j, omega (arith, h), e) in (suc rest.0, omega (arith, rest.1), rest.2)

pub opposite_there : (assumed : List ℤ) (a : ℤ) → Contains assumed a → Contains (opposites assumed) (neg_ℤ a)
opposite_there [] a has = absurd (omega (arith, has.1))
opposite_there (b ∷ bs) a (zero, h, e) = (0, omega arith, ap neg_ℤ e)
opposite_there (b ∷ bs) a (suc j, h, e) = let rest = opposite_there bs a (j, omega (arith, h), e) in (suc rest.0, omega (arith, rest.1), rest.2)

assumed_denied : (clauses : List (List ℤ)) (assumed : List ℤ) (state : Propagation) → Holds clauses assumed state → (l : ℤ) → Contains (opposites assumed) l → IsDenied state l
assumed_denied clauses assumed state holds l has = holds.set.marked (neg_ℤ l) (holds.stands.holds (neg_ℤ l) (opposite_back assumed l has))

pub finds_all : (clauses : List (List ℤ)) (assumed : List ℤ) (state : Propagation) → IsSettledState clauses state → Holds clauses assumed state → (m : ℤ) → Derived clauses (opposites assumed) m → IsIn state m
finds_all clauses assumed state done holds = closed clauses (opposites assumed) state (assumed_denied clauses assumed state holds) (settled_whole clauses assumed state done holds)

pub follows_not : (clauses : List (List ℤ)) (assumed : List ℤ) (state : Propagation) → IsSettledState clauses state → Holds clauses assumed state → Follows clauses (opposites assumed) → ⊥
follows_not clauses assumed state done holds (clause, among, falsified) =
    (settled_whole clauses assumed state done holds clause among).unfalsified (λ k in'. finds_all clauses assumed state done holds (neg_ℤ k) (falsified k in'))

-- no code of a fresh table is marked
pub unmarked_fresh : (n i : ℕ) → IsMarked (replicate n false) i → ⊥
unmarked_fresh zero i e = false≢true e
unmarked_fresh (suc n) zero e = false≢true e
unmarked_fresh (suc n) (suc i) e = unmarked_fresh n i e

-- a clause of the list, by its place
pub clause_lists : (clauses : List (Vec ℤ Global)) (i : ℕ) (clause : Vec ℤ Global) → i < length clauses → clause ≡ get_or clauses i clause → clause_at (lists clauses) i ≡ clause.items
clause_lists clauses i clause h is = get_or-map (λ (v : Vec ℤ Global). v.items) clauses i clause [] h ∙ ap (λ (v : Vec ℤ Global). v.items) (sym is)

pub below_lists : (clauses : List (Vec ℤ Global)) (i : ℕ) → i < length clauses → i < length (lists clauses)
below_lists clauses i h = omega (arith, length-map clauses (λ (v : Vec ℤ Global). v.items))

pub Contains-clause : (clauses : List (List ℤ)) (i : ℕ) (clause : List ℤ) → i < length clauses → clause_at clauses i ≡ clause → Contains clauses clause
Contains-clause clauses i clause h e = (i, h, get_or_default clauses i clause [] h ∙ e)

-- out of memory on the way
pub visits_fails : (clauses : List (List ℤ)) (numbers : List ℕ) (old new : Propagation) (r : Result Bool AllocError) → IsErr r → GrowsSoundly clauses old new → VisitsAll clauses numbers old new r
visits_fails clauses numbers old new (Ok b) e h = absurd (false≢true e)
visits_fails clauses numbers old new (Err x) e h = h

pub looks_new_fails : (clauses : List (List ℤ)) (old new : Propagation) (r : Result Bool AllocError) → IsErr r → Advances clauses old new → LooksAtNew clauses old new r
looks_new_fails clauses old new (Ok b) e h = absurd (false≢true e)
looks_new_fails clauses old new (Err x) e h = h

pub looks_up_fails : (clauses : List (List ℤ)) (old new : Propagation) (r : Result Bool AllocError) → IsErr r → (length clauses ≤ old.seen → Advances clauses old new) → LooksUp clauses old new r
looks_up_fails clauses old new (Ok b) e h = absurd (false≢true e)
looks_up_fails clauses old new (Err x) e h = h

pub on_err : {A : Type 0} (P : Type 0) (r : Result A AllocError) → is_err r ≡ true → OnErr r P → P
on_err P (Ok a) e h = absurd (false≢true e)
on_err P (Err x) e h = h

pub on_ok : {A : Type 0} (P : Type 0) (r : Result A AllocError) → is_err r ≡ false → OnOk r P → P
on_ok P (Ok a) e h = h
on_ok P (Err x) e h = absurd (false≢true (sym e))

-- an answer to one question is that to another with the same answer
pub if_ok_same : (P Q : Type 0) (r : Result Bool AllocError) → (P ↔ Q) → IfOk r (λ b. IsTrue b ↔ P) → IfOk r (λ b. IsTrue b ↔ Q)
if_ok_same P Q (Ok b) same h = (λ e. same.0 (h.0 e), λ q. h.1 (same.1 q))
if_ok_same P Q (Err x) same h = h

-- the opposites of assumed literals, and of the opposites of a line
pub denied_line : (assumed line : List ℤ) → opposites (assumed ++ opposites line) ≡ opposites assumed ++ line
denied_line assumed line = map-append neg_ℤ assumed (opposites line) ∙ ap (λ (ls : List ℤ). opposites assumed ++ ls) (twice line)
  where
    twice : (ls : List ℤ) → opposites (opposites ls) ≡ ls
    twice [] = refl
    twice (l ∷ ls) = let first = neg_ℤ-neg_ℤ l in let rest = twice ls in cc
