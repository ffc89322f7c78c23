-- Assumed literals, each with the length of the trail before it: what is kept while literals come and go.
use Rattle.std.proofs.Common.{◌≡◌, ℕ, ◌+◌, ◌<◌, ◌≤◌, ℤ, pos, neg_ℤ, List, [], ◌∷◌, ◌++◌, length, get_or, take, drop, ⊎_elim, refl, sym, ap, ◌∙◌, arith, subst, Contains, Option, Some, None}
use Rattle.std.proofs.Math.IntN.{neg_ℤ-neg_ℤ}
use Rattle.std.proofs.lemmas.Bool.{cases_lt}
use Rattle.std.proofs.lemmas.List.{length-map, length_push, length-take-le, take_more, take_all, take_at, take-take, take-append-le, take-append-drop, take-map, map-append, get_or_append_left, get_or_push, get_or_default, get_or-take, get_or-map}
use Rattle.std.proofs.lemmas.List.Elements.{Contains-push, Contains-push_cases, Contains-append_left}
use Rattle.kat_clause.specs.Clauses.{Follows, opposites}
use Rattle.kat_clause.specs.Tables.{clause_at}
use Rattle.kat_clause.proofs.Laws.{follows_more, among_itself}
use Rattle.kat_watch.specs.Watched.{Step, literals, step_at, no_step, AreSupported, IsSupported, Grows}
use Rattle.kat_watch.specs.Laws.{IsGiven}
use Rattle.kat_watch.proofs.Sets.{front_step}
use Rattle.kat_watch.proofs.Following.{opposite_in, opposite_of, all_derived}
use Rattle.kat_cases.specs.Levels.{Whole, IsBefore, AreLevels, kept_at}
use Rattle.kat_cases.proofs.LookedAt.{clash_refutes}

take_has : (n : ℕ) (t : List ℤ) (k : ℤ) → Contains (take n t) k → Contains t k
take_has n t k has = let P : List ℤ → Type 0 = λ u. Contains u k in subst P (take-append-drop n t) (Contains-append_left (take n t) (drop n t) k has)

longer_has : (old new : List Step) → take (length old) new ≡ old → (k : ℤ) → Contains (literals old) k → Contains (literals new) k
longer_has old new kept k has =
    let front : take (length old) (literals new) ≡ literals old = take-map (λ (s : Step). s.literal) (length old) new ∙ ap literals kept in
    let P : List ℤ → Type 0 = λ t. Contains t k in
    take_has (length old) (literals new) k (subst P (sym front) has)

-- a trail that has grown by forced steps has the same given literals
given_grows : (clauses : List (List ℤ)) (given : List ℤ) (old new : List Step) → Grows clauses old new → IsGiven given old → IsGiven given new
given_grows clauses given old new grows is = record {
  assumed = λ i h e. ⊎_elim
      (λ (l : i < length old).
      let same : step_at new i ≡ step_at old i = front_step old new grows.kept i l in
      let P : ℤ → Type 0 = Contains given in
      subst P (ap (λ (s : Step). s.literal) (sym same)) (is.assumed i l (sym (ap (λ (s : Step). s.reason) same) ∙ e)))
      (λ (l : length old ≤ i). let f = grows.forced i l h in absurd (let clash : None ≡ Some f.0 = sym e ∙ f.1 in cc))
      (cases_lt i (length old));
  within = λ k has. longer_has old new grows.kept k (is.within k has);
}

-- a given literal more that is assigned already
given_again : (given : List ℤ) (trail : List Step) (l : ℤ) → Contains (literals trail) l → IsGiven given trail → IsGiven (given ++ l ∷ []) trail
given_again given trail l has is = record {
  assumed = λ i h e. Contains-append_left given (l ∷ []) (step_at trail i).literal (is.assumed i h e);
  within = λ k in'. ⊎_elim (λ was. is.within k was) (λ (e : l ≡ k). subst (Contains (literals trail)) e has) (Contains-push_cases given l k in');
}

-- a literal that is assumed
given_assume : (given : List ℤ) (trail : List Step) (l : ℤ) → IsGiven given trail → IsGiven (given ++ l ∷ []) (trail ++ record { literal = l; reason = None } ∷ [])
given_assume given trail l is =
    let step : Step = record { literal = l; reason = None } in
    let size : length (trail ++ step ∷ []) ≡ length trail + 1 = length_push trail step in
    let whole : literals (trail ++ step ∷ []) ≡ literals trail ++ l ∷ [] = map-append (λ (s : Step). s.literal) trail (step ∷ []) in
    record {
      assumed = λ i h e. ⊎_elim
          (λ (low : i < length trail).
          let same : step_at (trail ++ step ∷ []) i ≡ step_at trail i = get_or_append_left trail (step ∷ []) no_step i low in
          subst (Contains (given ++ l ∷ [])) (ap (λ (s : Step). s.literal) (sym same)) (Contains-append_left given (l ∷ []) (step_at trail i).literal (is.assumed i low (sym (ap (λ (s : Step). s.reason) same) ∙ e))))
          (λ (high : length trail ≤ i).
          let last : step_at (trail ++ step ∷ []) i ≡ step = get_or_push trail step no_step i (omega arith) in
          subst (Contains (given ++ l ∷ [])) (ap (λ (s : Step). s.literal) (sym last)) (Contains-push given l))
          (cases_lt i (length trail));
      within = λ k in'.
          let P : List ℤ → Type 0 = λ t. Contains t k in
          subst P (sym whole) (⊎_elim (λ was. Contains-append_left (literals trail) (l ∷ []) k (is.within k was)) (λ (e : l ≡ k). subst (Contains (literals trail ++ l ∷ [])) e (Contains-push (literals trail) l)) (Contains-push_cases given l k in'));
    }

-- THE LEVELS

pub levels_none : AreLevels [] [] [] None
levels_none = record {
  size = refl;
  within = λ k h. absurd (omega arith);
  climb = λ j k e h. absurd (omega arith);
  each = λ k h open'. absurd (omega arith);
  whole = record { assumed = λ i h e. absurd (omega arith); within = λ k has. absurd (omega (arith, has.1)) };
}

fronts : (assumed : List ℤ) (l : ℤ) (k : ℕ) → k ≤ length assumed → take k (assumed ++ l ∷ []) ≡ take k assumed
fronts assumed l k h = take-append-le k assumed (l ∷ []) h

-- a level more, at the end of the trail, whatever the trail becomes after it
level_push : (assumed : List ℤ) (kept : List ℕ) (trail more : List Step) (l : ℤ) → length trail ≤ length more → take (length trail) more ≡ trail → AreLevels assumed kept trail None → Whole (assumed ++ l ∷ []) more None
    → AreLevels (assumed ++ l ∷ []) (kept ++ length trail ∷ []) more None
level_push assumed kept trail more l longer front are whole =
    let count : length (kept ++ length trail ∷ []) ≡ length kept + 1 = length_push kept (length trail) in
    let before : (k : ℕ) → k < length kept → kept_at (kept ++ length trail ∷ []) k ≡ kept_at kept k = λ k h. get_or_append_left kept (length trail ∷ []) 0 k h in
    let last : (k : ℕ) → length kept ≡ k → kept_at (kept ++ length trail ∷ []) k ≡ length trail = λ k e. get_or_push kept (length trail) 0 k e in
    record {
      size = omega (arith, count, length_push assumed l, are.size);
      within = λ k h. ⊎_elim
          (λ (low : k < length kept). omega (arith, before k low, are.within k low, longer))
          (λ (high : length kept ≤ k). omega (arith, last k (omega (arith, high, h, count)), longer))
          (cases_lt k (length kept));
      climb = λ j k e h. ⊎_elim
          (λ (low : k < length kept). omega (arith, before k low, before j (omega (arith, e, low)), are.climb j k e low))
          (λ (high : length kept ≤ k). ⊎_elim
          (λ (early : j < length kept). omega (arith, last k (omega (arith, high, h, count)), before j early, are.within j early))
          (λ (late : length kept ≤ j). omega (arith, last k (omega (arith, high, h, count)), last j (omega (arith, late, e, h, count))))
          (cases_lt j (length kept)))
          (cases_lt k (length kept));
      each = λ k h open'. ⊎_elim
          (λ (low : k < length kept).
          let same : take (kept_at kept k) more ≡ take (kept_at kept k) trail = sym (take-take (kept_at kept k) (length trail) more (are.within k low)) ∙ ap (take (kept_at kept k)) front in
          let P : List ℤ → List Step → Type 0 = λ g t. IsGiven g t in
          let was : P (take k assumed) (take (kept_at kept k) trail) = are.each k low tt in
          let Q : ℕ → Type 0 = λ n. P (take k (assumed ++ l ∷ [])) (take n more) in
          subst Q (sym (before k low)) (subst (P (take k (assumed ++ l ∷ []))) (sym same) (subst (λ (g : List ℤ). P g (take (kept_at kept k) trail)) (sym (fronts assumed l k (omega (arith, low, are.size)))) was)))
          (λ (high : length kept ≤ k).
          let e : length kept ≡ k = omega (arith, high, h, count) in
          let P : List ℤ → List Step → Type 0 = λ g t. IsGiven g t in
          let all : take k (assumed ++ l ∷ []) ≡ assumed = fronts assumed l k (omega (arith, e, are.size)) ∙ take_all k assumed (omega (arith, e, are.size)) in
          let Q : ℕ → Type 0 = λ n. P (take k (assumed ++ l ∷ [])) (take n more) in
          subst Q (sym (last k e)) (subst (P (take k (assumed ++ l ∷ []))) (sym front) (subst (λ (g : List ℤ). P g trail) (sym all) are.whole)))
          (cases_lt k (length kept));
      whole = whole;
    }

pub levels_again : (assumed : List ℤ) (kept : List ℕ) (trail : List Step) (l : ℤ) → Contains (literals trail) l → AreLevels assumed kept trail None → AreLevels (assumed ++ l ∷ []) (kept ++ length trail ∷ []) trail None
levels_again assumed kept trail l has are = level_push assumed kept trail trail l (omega arith) (take_all (length trail) trail (omega arith)) are (given_again assumed trail l has are.whole)

pub levels_assume : (assumed : List ℤ) (kept : List ℕ) (trail : List Step) (l : ℤ) → AreLevels assumed kept trail None → AreLevels (assumed ++ l ∷ []) (kept ++ length trail ∷ []) (trail ++ record { literal = l; reason = None } ∷ []) None
levels_assume assumed kept trail l are =
    let step : Step = record { literal = l; reason = None } in
    level_push assumed kept trail (trail ++ step ∷ []) l (omega (arith, length_push trail step)) (take_at trail (step ∷ []) (length trail) refl) are (given_assume assumed trail l are.whole)

-- propagation keeps the levels
pub levels_grow : (clauses : List (List ℤ)) (assumed : List ℤ) (kept : List ℕ) (old new : List Step) → Grows clauses old new → AreLevels assumed kept old None → AreLevels assumed kept new None
levels_grow clauses assumed kept old new grows are = record {
  size = are.size;
  within = λ k h. omega (arith, are.within k h, grows.longer);
  climb = are.climb;
  each = λ k h open'.
      let same : take (kept_at kept k) new ≡ take (kept_at kept k) old = sym (take-take (kept_at kept k) (length old) new (are.within k h)) ∙ ap (take (kept_at kept k)) grows.kept in
      subst (IsGiven (take k assumed)) (sym same) (are.each k h tt);
  whole = given_grows clauses assumed old new grows are.whole;
}

before_less : (k n : ℕ) (clash : Option ℕ) → k ≤ n → IsBefore n clash → IsBefore k clash
before_less k n None h is = tt
before_less k n (Some c) h is = omega (arith, h, is)

-- back to a level that comes before the clash
pub levels_back : (assumed : List ℤ) (kept : List ℕ) (trail : List Step) (clash : Option ℕ) (n : ℕ) → n < length kept → IsBefore n clash → AreLevels assumed kept trail clash → AreLevels (take n assumed) (take n kept) (take (kept_at kept n) trail) None
levels_back assumed kept trail clash n h early are =
    let count : length (take n kept) ≡ n = length-take-le n kept (omega arith) in
    let at : (k : ℕ) → k < n → kept_at (take n kept) k ≡ kept_at kept k = λ k low. get_or-take n kept k 0 low in
    let size : length (take (kept_at kept n) trail) ≡ kept_at kept n = length-take-le (kept_at kept n) trail (are.within n h) in
    record {
      size = omega (arith, count, length-take-le n assumed (omega (arith, h, are.size)));
      within = λ k low. omega (arith, at k (omega (arith, low, count)), are.climb k n (omega (arith, low, count)) h, size);
      climb = λ j k e low. omega (arith, at k (omega (arith, low, count)), at j (omega (arith, e, low, count)), are.climb j k e (omega (arith, low, count, h)));
      each = λ k low open'.
          let less : k < n = omega (arith, low, count) in
          let down : kept_at kept k ≤ kept_at kept n = are.climb k n (omega arith) h in
          let P : List ℤ → List Step → Type 0 = λ g t. IsGiven g t in
          let Q : ℕ → Type 0 = λ m. P (take k (take n assumed)) (take m (take (kept_at kept n) trail)) in
          subst Q (sym (at k less)) (subst (P (take k (take n assumed))) (sym (take-take (kept_at kept k) (kept_at kept n) trail down)) (subst (λ (g : List ℤ). P g (take (kept_at kept k) trail)) (sym (take-take k n assumed (omega arith))) (are.each k (omega (arith, less, h)) (before_less k n clash (omega arith) early))));
      whole = are.each n h early;
    }

-- back to a level after the clash
pub levels_back_behind : (assumed : List ℤ) (kept : List ℕ) (trail : List Step) (c n : ℕ) → n < length kept → c < n → AreLevels assumed kept trail (Some c) → AreLevels (take n assumed) (take n kept) trail (Some c)
levels_back_behind assumed kept trail c n h late are =
    let count : length (take n kept) ≡ n = length-take-le n kept (omega arith) in
    let many : length (take n assumed) ≡ n = length-take-le n assumed (omega (arith, h, are.size)) in
    let at : (k : ℕ) → k < n → kept_at (take n kept) k ≡ kept_at kept k = λ k low. get_or-take n kept k 0 low in
    record {
      size = omega (arith, count, many);
      within = λ k low. omega (arith, at k (omega (arith, low, count)), are.within k (omega (arith, low, count, h)));
      climb = λ j k e low. omega (arith, at k (omega (arith, low, count)), at j (omega (arith, e, low, count)), are.climb j k e (omega (arith, low, count, h)));
      each = λ k low early.
          let less : k < n = omega (arith, low, count) in
          let P : List ℤ → List Step → Type 0 = λ g t. IsGiven g t in
          let Q : ℕ → Type 0 = λ m. P (take k (take n assumed)) (take m trail) in
          subst Q (sym (at k less)) (subst (λ (g : List ℤ). P g (take (kept_at kept k) trail)) (sym (take-take k n assumed (omega arith))) (are.each k (omega (arith, less, h)) early));
      whole = (
        omega (arith, many, late),
        subst (λ (g : List ℤ). IsGiven g trail) (sym (take-take c n assumed (omega arith))) are.whole.1,
        (let P : ℤ → Type 0 = λ z. Contains (literals trail) (neg_ℤ z) in subst P (sym (get_or-take n assumed c (pos 0) late)) are.whole.2),
      );
    }

-- a level more after a clash
pub levels_behind : (assumed : List ℤ) (kept : List ℕ) (trail : List Step) (c : ℕ) (l : ℤ) → AreLevels assumed kept trail (Some c) → AreLevels (assumed ++ l ∷ []) (kept ++ length trail ∷ []) trail (Some c)
levels_behind assumed kept trail c l are =
    let count : length (kept ++ length trail ∷ []) ≡ length kept + 1 = length_push kept (length trail) in
    let before : (k : ℕ) → k < length kept → kept_at (kept ++ length trail ∷ []) k ≡ kept_at kept k = λ k h. get_or_append_left kept (length trail ∷ []) 0 k h in
    let last : (k : ℕ) → length kept ≡ k → kept_at (kept ++ length trail ∷ []) k ≡ length trail = λ k e. get_or_push kept (length trail) 0 k e in
    let inside : c < length assumed = are.whole.0 in
    record {
      size = omega (arith, count, length_push assumed l, are.size);
      within = λ k h. ⊎_elim
          (λ (low : k < length kept). omega (arith, before k low, are.within k low))
          (λ (high : length kept ≤ k). omega (arith, last k (omega (arith, high, h, count))))
          (cases_lt k (length kept));
      climb = λ j k e h. ⊎_elim
          (λ (low : k < length kept). omega (arith, before k low, before j (omega (arith, e, low)), are.climb j k e low))
          (λ (high : length kept ≤ k). ⊎_elim
          (λ (early : j < length kept). omega (arith, last k (omega (arith, high, h, count)), before j early, are.within j early))
          (λ (late : length kept ≤ j). omega (arith, last k (omega (arith, high, h, count)), last j (omega (arith, late, e, h, count))))
          (cases_lt j (length kept)))
          (cases_lt k (length kept));
      each = λ k h early.
          let low : k < length kept = omega (arith, early, inside, are.size) in
          let P : List ℤ → List Step → Type 0 = λ g t. IsGiven g t in
          let Q : ℕ → Type 0 = λ n. P (take k (assumed ++ l ∷ [])) (take n trail) in
          subst Q (sym (before k low)) (subst (λ (g : List ℤ). P g (take (kept_at kept k) trail)) (sym (fronts assumed l k (omega (arith, low, are.size)))) (are.each k low early));
      whole = (
        omega (arith, length_push assumed l, inside),
        subst (λ (g : List ℤ). IsGiven g trail) (sym (fronts assumed l c (omega (arith, inside)))) are.whole.1,
        (let P : ℤ → Type 0 = λ z. Contains (literals trail) (neg_ℤ z) in subst P (sym (get_or_append_left assumed (l ∷ []) (pos 0) c inside)) are.whole.2),
      );
    }

-- A literal whose opposite is assigned, and was not assumed, falsifies a clause, whatever else is assumed after it.
pub clash_follows : (clauses : List (List ℤ)) (trail : List Step) (given : List ℤ) (l : ℤ) → AreSupported clauses trail → IsGiven given trail → (Contains given (neg_ℤ l) → ⊥) → Contains (literals trail) (neg_ℤ l) → Follows clauses (opposites (given ++ l ∷ []))
clash_follows clauses trail given l are is apart has =
    let size : length (literals trail) ≡ length trail = length-map trail (λ (s : Step). s.literal) in
    let inside : has.0 < length trail = omega (arith, has.1, size) in
    let same : (step_at trail has.0).literal ≡ neg_ℤ l = sym (get_or-map (λ (s : Step). s.literal) trail has.0 no_step (neg_ℤ l) inside) ∙ has.2 in
    by_reason (step_at trail has.0).reason (step_at trail has.0).literal same (is.assumed has.0 inside) (are has.0 inside)
  where
    by_reason : (r : Option ℕ) (m : ℤ) → m ≡ neg_ℤ l → (r ≡ None → Contains given m) → IsSupported clauses (take has.0 (literals trail)) m r → Follows clauses (opposites (given ++ l ∷ []))
    by_reason None m e assumed supported = absurd (apart (subst (Contains given) e (assumed refl)))
    by_reason (Some c) m e assumed supported =
        let P : ℤ → Type 0 = Contains (clause_at clauses c) in
        clash_refutes clauses given l (clause_at clauses c) (c, supported.0, get_or_default clauses c (clause_at clauses c) [] supported.0) (subst P e supported.1.has)
        (λ k in' ne. all_derived clauses trail given are is (neg_ℤ k) (take_has has.0 (literals trail) (neg_ℤ k) (supported.1.false k in' (λ f. ne (f ∙ e)))))

-- a literal that clashes: all levels before it are as they were
pub levels_clash : (assumed : List ℤ) (kept : List ℕ) (trail : List Step) (l : ℤ) → Contains (literals trail) (neg_ℤ l) → AreLevels assumed kept trail None → AreLevels (assumed ++ l ∷ []) (kept ++ length trail ∷ []) trail (Some (length assumed))
levels_clash assumed kept trail l has are =
    let count : length (kept ++ length trail ∷ []) ≡ length kept + 1 = length_push kept (length trail) in
    let before : (k : ℕ) → k < length kept → kept_at (kept ++ length trail ∷ []) k ≡ kept_at kept k = λ k h. get_or_append_left kept (length trail ∷ []) 0 k h in
    let last : (k : ℕ) → length kept ≡ k → kept_at (kept ++ length trail ∷ []) k ≡ length trail = λ k e. get_or_push kept (length trail) 0 k e in
    record {
      size = omega (arith, count, length_push assumed l, are.size);
      within = λ k h. ⊎_elim
          (λ (low : k < length kept). omega (arith, before k low, are.within k low))
          (λ (high : length kept ≤ k). omega (arith, last k (omega (arith, high, h, count))))
          (cases_lt k (length kept));
      climb = λ j k e h. ⊎_elim
          (λ (low : k < length kept). omega (arith, before k low, before j (omega (arith, e, low)), are.climb j k e low))
          (λ (high : length kept ≤ k). ⊎_elim
          (λ (early : j < length kept). omega (arith, last k (omega (arith, high, h, count)), before j early, are.within j early))
          (λ (late : length kept ≤ j). omega (arith, last k (omega (arith, high, h, count)), last j (omega (arith, late, e, h, count))))
          (cases_lt j (length kept)))
          (cases_lt k (length kept));
      each = λ k h early.
          let P : List ℤ → List Step → Type 0 = λ g t. IsGiven g t in
          let same : take k (assumed ++ l ∷ []) ≡ take k assumed = fronts assumed l k early in
          ⊎_elim
          (λ (low : k < length kept).
          let Q : ℕ → Type 0 = λ n. P (take k (assumed ++ l ∷ [])) (take n trail) in
          subst Q (sym (before k low)) (subst (λ (g : List ℤ). P g (take (kept_at kept k) trail)) (sym same) (are.each k low tt)))
          (λ (high : length kept ≤ k).
          let e : length kept ≡ k = omega (arith, high, early, are.size) in
          let all : take k (assumed ++ l ∷ []) ≡ assumed = same ∙ take_all k assumed (omega (arith, e, are.size)) in
          let Q : ℕ → Type 0 = λ n. P (take k (assumed ++ l ∷ [])) (take n trail) in
          subst Q (sym (last k e)) (subst (P (take k (assumed ++ l ∷ []))) (sym (take_all (length trail) trail (omega arith))) (subst (λ (g : List ℤ). P g trail) (sym all) are.whole)))
          (cases_lt k (length kept));
      whole = (
        omega (arith, length_push assumed l),
        subst (λ (g : List ℤ). IsGiven g trail) (sym (fronts assumed l (length assumed) (omega arith) ∙ take_all (length assumed) assumed (omega arith))) are.whole,
        (let P : ℤ → Type 0 = λ z. Contains (literals trail) (neg_ℤ z) in subst P (sym (get_or_push assumed l (pos 0) (length assumed) refl)) has),
      );
    }

-- more is assumed after the clash
pub clash_whole : (clauses : List (List ℤ)) (trail : List Step) (assumed : List ℤ) (c : ℕ) → AreSupported clauses trail → Whole assumed trail (Some c) → (Contains (take c assumed) (neg_ℤ (get_or assumed c (pos 0))) → ⊥) → Follows clauses (opposites assumed)
clash_whole clauses trail assumed c are whole apart =
    let l = get_or assumed c (pos 0) in
    let first : Follows clauses (opposites (take c assumed ++ l ∷ [])) = clash_follows clauses trail (take c assumed) l are whole.1 apart whole.2 in
    let front : take (c + 1) assumed ≡ take c assumed ++ l ∷ [] = take_more assumed c (pos 0) whole.0 in
    follows_more clauses clauses (opposites (take c assumed ++ l ∷ [])) (opposites assumed) (among_itself clauses)
    (λ k has.
    let back : Contains (take c assumed ++ l ∷ []) (neg_ℤ k) = opposite_of (take c assumed ++ l ∷ []) k has in
    let P : List ℤ → Type 0 = λ t. Contains t (neg_ℤ k) in
    let there : Contains assumed (neg_ℤ k) = take_has (c + 1) assumed (neg_ℤ k) (subst P (sym front) back) in
    subst (Contains (opposites assumed)) (neg_ℤ-neg_ℤ k) (opposite_in assumed (neg_ℤ k) there))
    first
