-- Assigned literals: marks, trail, and steps.
use Rattle.std.proofs.Common.{◌≡◌, ◌≢◌, ℕ, zero, suc, ◌+◌, ◌*◌, ◌<◌, ◌≤◌, ℤ, pos, negsuc, neg_ℤ, unsigned_abs, Bool, true, List, [], ◌∷◌, ◌++◌, length, set, take, ◌⊎◌, inl, inr, ⊎_elim, refl, sym, ap, ◌∙◌, arith, subst, Contains, Option, Some, None}
use Rattle.std.proofs.Math.IntN.{neg_ℤ-neg_ℤ}
use Rattle.std.proofs.lemmas.Bool.{cases_lt}
use Rattle.std.proofs.lemmas.List.{length-map, length_push, length-take-le, map-append, take_at, take_all, take-take, take-map, get_or_append_left, get_or_push, get_or_default, get_or-take, get_or-set_same, get_or-set_other}
use Rattle.std.proofs.lemmas.List.Elements.{Contains-push, Contains-push_cases, Contains-append_left}
use Rattle.kat_clause.specs.Literals.{code_of}
use Rattle.kat_clause.specs.Tables.{IsBelow, clause_at}
use Rattle.kat_clause.proofs.Codes.{code_of-same, marked_at, marked_kept, marked_cases}
use Rattle.kat_clause.proofs.Indexes.{below_size}
use Rattle.kat_clause.proofs.Runs.{Contains-take, Contains-longer}
use Rattle.kat_watch.specs.Watched.{Step, literals, step_at, no_step, IsLiteral, IsOpen, Forces, IsReason, IsSupported, AreSupported, Grows}
use Rattle.kat_watch.specs.States.{reason_at, steps_of, at, IsSet}

-- the steps' literals are the trail
pub literals_of : (reasons : List (Option ℕ)) (trail : List ℤ) → literals (steps_of reasons trail) ≡ trail
literals_of reasons [] = refl
literals_of reasons (k ∷ ks) = ap (λ (l : List ℤ). k ∷ l) (literals_of reasons ks)

pub steps_size : (reasons : List (Option ℕ)) (trail : List ℤ) → length (steps_of reasons trail) ≡ length trail
steps_size reasons trail = length-map trail (λ (k : ℤ). record { literal = k; reason = reason_at reasons k })

-- a literal is in the trail at a place
pub at_in : (trail : List ℤ) (i : ℕ) → i < length trail → Contains trail (at trail i)
at_in trail i h = (i, h, get_or_default trail i _ (pos 0) h)

pub in_at : (trail : List ℤ) (k : ℤ) → (has : Contains trail k) → at trail has.0 ≡ k
in_at trail k has = get_or_default trail has.0 (pos 0) k has.1 ∙ has.2

-- what the first literals have, the first of a longer trail have
pub take_more : (n : ℕ) (old more : List ℤ) → take (length old) more ≡ old → (k : ℤ) → Contains (take n old) k → Contains (take n more) k
take_more n old more front k has =
    let P : List ℤ → Type 0 = λ t. Contains t k in
    ⊎_elim {C = Contains (take n more) k}
    (λ (h : n < length old).
    let same : take n more ≡ take n old = sym (take-take n (length old) more (omega (arith, h))) ∙ ap (take n) front in
    subst P (sym same) has)
    (λ (h : length old ≤ n). Contains-longer (length old) n more k h (subst P (sym front) (Contains-take n old k has)))
    (cases_lt n (length old))

-- variables
abs_zero : (k : ℤ) → unsigned_abs k ≡ 0 → k ≡ pos 0
abs_zero (pos n) e = ap pos e
abs_zero (negsuc n) e = absurd (omega arith)

-- literals of one variable are the same or opposite
pub same_variable : (a b : ℤ) → unsigned_abs a ≡ unsigned_abs b → (a ≡ b) ⊎ (a ≡ neg_ℤ b)
same_variable (pos a) (pos b) e = inl (ap pos e)
same_variable (pos zero) (negsuc b) e = absurd (omega arith)
same_variable (pos (suc a)) (negsuc b) e = let same : suc a ≡ suc b = omega arith in inr (ap pos same)
same_variable (negsuc a) (pos zero) e = absurd (omega arith)
same_variable (negsuc a) (pos (suc b)) e = let same : a ≡ b = omega arith in inr (ap negsuc same)
same_variable (negsuc a) (negsuc b) e = let same : a ≡ b = omega arith in inl (ap negsuc same)

pub opposite_variable : (k : ℤ) → unsigned_abs (neg_ℤ k) ≡ unsigned_abs k
opposite_variable (pos zero) = refl
opposite_variable (pos (suc n)) = refl
opposite_variable (negsuc n) = refl

pub opposite_literal : (greatest : ℕ) (k : ℤ) → IsLiteral greatest k → IsLiteral greatest (neg_ℤ k)
opposite_literal greatest k is = let P : ℕ → Type 0 = λ v. (0 < v) × (v ≤ greatest) in subst P (sym (opposite_variable k)) is

pub opposite_differs : (k : ℤ) → 0 < unsigned_abs k → neg_ℤ k ≢ k
opposite_differs (pos zero) h e = omega arith
opposite_differs (pos (suc n)) h e = let f : code_of (negsuc n) ≡ code_of (pos (suc n)) = ap code_of e in omega arith
opposite_differs (negsuc n) h e = let f : code_of (pos (suc n)) ≡ code_of (negsuc n) = ap code_of e in omega arith

pub literal_below : (greatest : ℕ) (k : ℤ) → IsLiteral greatest k → IsBelow (2 * greatest + 2) k
literal_below greatest k is = below_size greatest k is.1

pub literal_code : (k : ℤ) → 0 < unsigned_abs k → 2 ≤ code_of k
literal_code (pos n) h = omega arith
literal_code (negsuc n) h = omega arith

-- once more: a new literal is listed once
once_push : (trail : List ℤ) (m : ℤ) → (Contains trail m → ⊥) → ((i j : ℕ) → i < j → j < length trail → at trail i ≢ at trail j)
    → (i j : ℕ) → i < j → j < length (trail ++ m ∷ []) → at (trail ++ m ∷ []) i ≢ at (trail ++ m ∷ []) j
once_push trail m fresh before i j less below = ⊎_elim
    (λ (l : j < length trail).
    let at_i : at (trail ++ m ∷ []) i ≡ at trail i = get_or_append_left trail (m ∷ []) (pos 0) i (omega arith) in
    let at_j : at (trail ++ m ∷ []) j ≡ at trail j = get_or_append_left trail (m ∷ []) (pos 0) j l in
    λ e. before i j less l (sym at_i ∙ e ∙ at_j))
    (λ (l : length trail ≤ j).
    let at_i : at (trail ++ m ∷ []) i ≡ at trail i = get_or_append_left trail (m ∷ []) (pos 0) i (omega (arith, length_push trail m)) in
    let at_j : at (trail ++ m ∷ []) j ≡ m = get_or_push trail m (pos 0) j (omega (arith, length_push trail m)) in
    λ e. fresh (i, omega (arith, length_push trail m), get_or_default trail i _ (pos 0) (omega (arith, length_push trail m)) ∙ sym at_i ∙ e ∙ at_j))
    (cases_lt j (length trail))

pub set_enters : (marks : List Bool) (trail : List ℤ) (m : ℤ) → code_of m < length marks → neg_ℤ m ≢ m → IsOpen trail m → IsSet marks trail → IsSet (set marks (code_of m) true) (trail ++ m ∷ [])
set_enters marks trail m below differs opens is = record {
  listed = λ z now. ⊎_elim
      (λ was. Contains-append_left trail (m ∷ []) z (is.listed z was))
      (λ (same : code_of z ≡ code_of m). let P : ℤ → Type 0 = Contains (trail ++ m ∷ []) in subst P (sym (code_of-same z m same)) (Contains-push trail m))
      (marked_cases marks (code_of m) (code_of z) now);
  marked = λ z has. ⊎_elim
      (λ was. marked_kept marks (code_of m) (code_of z) below (is.marked z was))
      (λ (same : m ≡ z). rw (sym same) (marked_at marks (code_of m) below))
      (Contains-push_cases trail m z has);
  once = once_push trail m opens.0 is.once;
  apart = λ z has back. ⊎_elim
      (λ (was : Contains trail z). ⊎_elim
      (λ (too : Contains trail (neg_ℤ z)). is.apart z was too)
      (λ (e : m ≡ neg_ℤ z). opens.1 (let P : ℤ → Type 0 = Contains trail in subst P (sym (neg_ℤ-neg_ℤ z) ∙ ap neg_ℤ (sym e)) was))
      (Contains-push_cases trail m (neg_ℤ z) back))
      (λ (e : m ≡ z). ⊎_elim
      (λ (too : Contains trail (neg_ℤ z)). opens.1 (let P : ℤ → Type 0 = λ k. Contains trail (neg_ℤ k) in subst P (sym e) too))
      (λ (f : m ≡ neg_ℤ z). differs (ap neg_ℤ e ∙ sym f))
      (Contains-push_cases trail m (neg_ℤ z) back))
      (Contains-push_cases trail m z has);
}

-- each literal was open with what was before it
pub open_before : (marks : List Bool) (trail : List ℤ) (i : ℕ) → IsSet marks trail → i < length trail → IsOpen (take i trail) (at trail i)
open_before marks trail i is h =
    let size : length (take i trail) ≡ i = length-take-le i trail (omega (arith, h)) in (
      λ has.
          let less : has.0 < i = omega (arith, has.1, size) in
          is.once has.0 i less h (sym (get_or-take i trail has.0 (pos 0) less) ∙ in_at (take i trail) (at trail i) has),
      λ back. is.apart (at trail i) (at_in trail i h) (Contains-take i trail (neg_ℤ (at trail i)) back),
    )

-- a literal's reason is written if no assigned literal has its own
reasons_kept : (reasons : List (Option ℕ)) (m : ℤ) (r : Option ℕ) (trail : List ℤ) → ((k : ℤ) → Contains trail k → unsigned_abs k ≢ unsigned_abs m) → steps_of (set reasons (unsigned_abs m) r) trail ≡ steps_of reasons trail
reasons_kept reasons m r [] apart = refl
reasons_kept reasons m r (k ∷ ks) apart =
    let first : reason_at (set reasons (unsigned_abs m) r) k ≡ reason_at reasons k = get_or-set_other reasons (unsigned_abs m) (unsigned_abs k) r None (apart k (zero, omega arith, refl)) in
    let rest : steps_of (set reasons (unsigned_abs m) r) ks ≡ steps_of reasons ks = reasons_kept reasons m r ks (λ j has. apart j (suc has.0, omega (arith, has.1), has.2)) in
    λ i. record { literal = k; reason = first i } ∷ rest i

-- a step more
pub steps_push : (reasons : List (Option ℕ)) (trail : List ℤ) (m : ℤ) (r : Option ℕ) → unsigned_abs m < length reasons → IsOpen trail m
    → steps_of (set reasons (unsigned_abs m) r) (trail ++ m ∷ []) ≡ steps_of reasons trail ++ record { literal = m; reason = r } ∷ []
steps_push reasons trail m r below opens =
    let apart : (k : ℤ) → Contains trail k → unsigned_abs k ≢ unsigned_abs m = λ k has e. ⊎_elim
    (λ (same : k ≡ m). let P : ℤ → Type 0 = Contains trail in opens.0 (subst P same has))
    (λ (back : k ≡ neg_ℤ m). let P : ℤ → Type 0 = Contains trail in opens.1 (subst P back has))
    (same_variable k m e) in
    let last : reason_at (set reasons (unsigned_abs m) r) m ≡ r = get_or-set_same reasons (unsigned_abs m) r None below in
    map-append (λ (k : ℤ). record { literal = k; reason = reason_at (set reasons (unsigned_abs m) r) k }) trail (m ∷ [])
    ∙ (λ i. reasons_kept reasons m r trail apart i ++ record { literal = m; reason = last i } ∷ [])

-- steps in front of others
pub front_literals : (old new : List Step) → length old ≤ length new → take (length old) new ≡ old → (i : ℕ) → i ≤ length old → take i (literals new) ≡ take i (literals old)
front_literals old new longer kept i h =
    take-map (λ (s : Step). s.literal) i new ∙ ap literals (sym (take-take i (length old) new h) ∙ ap (take i) kept) ∙ sym (take-map (λ (s : Step). s.literal) i old)

pub front_step : (old new : List Step) → take (length old) new ≡ old → (i : ℕ) → i < length old → step_at new i ≡ step_at old i
front_step old new kept i h = sym (get_or-take (length old) new i no_step h) ∙ ap (λ (l : List Step). step_at l i) kept

-- growing
pub grows_same : (clauses : List (List ℤ)) (trail : List Step) → Grows clauses trail trail
grows_same clauses trail = record {
  longer = omega arith;
  kept = take_all (length trail) trail (omega arith);
  forced = λ i low high. absurd (omega arith);
}

pub grows_trans : (clauses : List (List ℤ)) (a b c : List Step) → Grows clauses a b → Grows clauses b c → Grows clauses a c
grows_trans clauses a b c f g = record {
  longer = omega (arith, f.longer, g.longer);
  kept = sym (take-take (length a) (length b) c f.longer) ∙ ap (take (length a)) g.kept ∙ f.kept;
  forced = λ i low high. ⊎_elim
      (λ (l : i < length b).
      let was = f.forced i low l in
      let same : step_at c i ≡ step_at b i = front_step b c g.kept i l in
      let before : take i (literals c) ≡ take i (literals b) = front_literals b c g.longer g.kept i (omega arith) in
      let P : Step → Type 0 = λ s. IsReason clauses (take i (literals b)) s.literal was.0 × IsOpen (take i (literals b)) s.literal in
      let Q : List ℤ → Type 0 = λ t. IsReason clauses t (step_at c i).literal was.0 × IsOpen t (step_at c i).literal in
      let now = subst Q (sym before) (subst P (sym same) (was.2, was.3)) in
      (was.0, ap (λ (s : Step). s.reason) same ∙ was.1, now.0, now.1))
      (λ (l : length b ≤ i). g.forced i l high)
      (cases_lt i (length b));
}

-- a forced step more
pub grows_push : (clauses : List (List ℤ)) (trail : List Step) (m : ℤ) (c : ℕ) → IsReason clauses (literals trail) m c → IsOpen (literals trail) m → Grows clauses trail (trail ++ record { literal = m; reason = Some c } ∷ [])
grows_push clauses trail m c is opens =
    let step : Step = record { literal = m; reason = Some c } in
    let size : length (trail ++ step ∷ []) ≡ length trail + 1 = length_push trail step in
    let front : take (length trail) (trail ++ step ∷ []) ≡ trail = take_at trail (step ∷ []) (length trail) refl in
    record {
      longer = omega arith;
      kept = front;
      forced = λ i low high.
          let e : length trail ≡ i = omega arith in
          let last : step_at (trail ++ step ∷ []) i ≡ step = get_or_push trail step no_step i e in
          let before : take i (literals (trail ++ step ∷ [])) ≡ literals trail =
          front_literals trail (trail ++ step ∷ []) (omega arith) front i (omega arith) ∙ take_all i (literals trail) (omega (arith, length-map trail (λ (s : Step). s.literal))) in
          let P : Step → Type 0 = λ s. IsReason clauses (literals trail) s.literal c × IsOpen (literals trail) s.literal in
          let Q : List ℤ → Type 0 = λ t. IsReason clauses t (step_at (trail ++ step ∷ []) i).literal c × IsOpen t (step_at (trail ++ step ∷ []) i).literal in
          let now = subst Q (sym before) (subst P (sym last) (is, opens)) in
          (c, ap (λ (s : Step). s.reason) last, now.0, now.1);
    }

-- what is supported stays so with a step more
pub supported_push : (clauses : List (List ℤ)) (trail : List Step) (m : ℤ) (r : Option ℕ) → IsSupported clauses (literals trail) m r → AreSupported clauses trail → AreSupported clauses (trail ++ record { literal = m; reason = r } ∷ [])
supported_push clauses trail m r is are i h =
    let step : Step = record { literal = m; reason = r } in
    let longer = trail ++ step ∷ [] in
    let size : length longer ≡ length trail + 1 = length_push trail step in
    let front : take (length trail) longer ≡ trail = take_at trail (step ∷ []) (length trail) refl in
    let P : List ℤ → Step → Type 0 = λ t s. IsSupported clauses t s.literal s.reason in
    ⊎_elim
    (λ (l : i < length trail).
    let same : step_at longer i ≡ step_at trail i = front_step trail longer front i l in
    let before : take i (literals longer) ≡ take i (literals trail) = front_literals trail longer (omega arith) front i (omega arith) in
    subst (λ (t : List ℤ). P t (step_at longer i)) (sym before) (subst (P (take i (literals trail))) (sym same) (are i l)))
    (λ (l : length trail ≤ i).
    let e : length trail ≡ i = omega arith in
    let last : step_at longer i ≡ step = get_or_push trail step no_step i e in
    let before : take i (literals longer) ≡ literals trail = front_literals trail longer (omega arith) front i (omega arith) ∙ take_all i (literals trail) (omega (arith, length-map trail (λ (s : Step). s.literal))) in
    subst (λ (t : List ℤ). P t (step_at longer i)) (sym before) (subst (P (literals trail)) (sym last) is))
    (cases_lt i (length trail))

-- fewer steps, or more clauses
pub supported_take : (clauses : List (List ℤ)) (trail : List Step) (n : ℕ) → n ≤ length trail → AreSupported clauses trail → AreSupported clauses (take n trail)
supported_take clauses trail n h are i below =
    let size : length (take n trail) ≡ n = length-take-le n trail h in
    let low : i < n = omega (arith, below, size) in
    let same : step_at (take n trail) i ≡ step_at trail i = get_or-take n trail i no_step low in
    let before : take i (literals (take n trail)) ≡ take i (literals trail) =
    take-map (λ (s : Step). s.literal) i (take n trail) ∙ ap literals (take-take i n trail (omega arith)) ∙ sym (take-map (λ (s : Step). s.literal) i trail) in
    let P : List ℤ → Step → Type 0 = λ t s. IsSupported clauses t s.literal s.reason in
    subst (λ (t : List ℤ). P t (step_at (take n trail) i)) (sym before) (subst (P (take i (literals trail))) (sym same) (are i (omega arith)))

supported_more : (clauses : List (List ℤ)) (clause : List ℤ) (before : List ℤ) (m : ℤ) (r : Option ℕ) → IsSupported clauses before m r → IsSupported (clauses ++ clause ∷ []) before m r
supported_more clauses clause before m None is = tt
supported_more clauses clause before m (Some c) is =
    let same : clause_at (clauses ++ clause ∷ []) c ≡ clause_at clauses c = get_or_append_left clauses (clause ∷ []) [] c is.0 in
    let P : List ℤ → Type 0 = λ cl. Forces cl before m in
    (omega (arith, is.0, length_push clauses clause), subst P (sym same) is.1)

pub supported_clause : (clauses : List (List ℤ)) (clause : List ℤ) (trail : List Step) → AreSupported clauses trail → AreSupported (clauses ++ clause ∷ []) trail
supported_clause clauses clause trail are i h = supported_more clauses clause (take i (literals trail)) (step_at trail i).literal (step_at trail i).reason (are i h)
