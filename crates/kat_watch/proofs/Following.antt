-- What is assigned is derived, and what is derived is assigned.
use Rattle.std.proofs.Common.{◌≡◌, ℕ, zero, suc, ◌<◌, ◌≤◌, ℤ, pos, neg_ℤ, List, [], length, get_or, take, ⊎_elim, refl, sym, ap, ◌∙◌, arith, subst, Contains, Option, Some, None}
use Rattle.std.proofs.Math.IntN.{neg_ℤ-neg_ℤ}
use Rattle.std.proofs.lemmas.Bool.{cases_lt}
use Rattle.std.proofs.lemmas.List.{length-map, length-take-le, take_all, get_or_default, get_or-take, get_or-map}
use Rattle.kat_clause.specs.Clauses.{Derived, opposites}
use Rattle.kat_clause.specs.Clauses.Derived.{denied, forced}
use Rattle.kat_clause.specs.Tables.{clause_at}
use Rattle.kat_watch.specs.Watched.{Step, literals, step_at, no_step, AreSupported, IsSupported, IsQuiet}
use Rattle.kat_watch.specs.States.{at}
use Rattle.kat_watch.specs.Laws.{IsGiven, QuietDerives, QuietRefutesNot, ConflictRefutes}

-- an opposite, and what it is the opposite of
pub opposite_in : (given : List ℤ) (k : ℤ) → Contains given k → Contains (opposites given) (neg_ℤ k)
opposite_in given k has = (has.0, omega (arith, has.1, length-map given neg_ℤ), get_or-map neg_ℤ given has.0 k (neg_ℤ k) has.1 ∙ ap neg_ℤ has.2)

pub opposite_of : (given : List ℤ) (l : ℤ) → Contains (opposites given) l → Contains given (neg_ℤ l)
opposite_of given l has =
    let below : has.0 < length given = omega (arith, has.1, length-map given neg_ℤ) in
    let same : neg_ℤ (get_or given has.0 (neg_ℤ l)) ≡ l = sym (get_or-map neg_ℤ given has.0 (neg_ℤ l) l below) ∙ has.2 in
    (has.0, below, sym (neg_ℤ-neg_ℤ (get_or given has.0 (neg_ℤ l))) ∙ ap neg_ℤ same)

clause_in : (clauses : List (List ℤ)) (c : ℕ) → c < length clauses → Contains clauses (clause_at clauses c)
clause_in clauses c h = (c, h, get_or_default clauses c (clause_at clauses c) [] h)

literal_at : (trail : List Step) (i : ℕ) → i < length trail → at (literals trail) i ≡ (step_at trail i).literal
literal_at trail i h = get_or-map (λ (s : Step). s.literal) trail i no_step (pos 0) h

-- the literal at a place is derived, if all before it are
step_derived : (clauses : List (List ℤ)) (given : List ℤ) (before : List ℤ) (m : ℤ) (r : Option ℕ) → (r ≡ None → Contains given m) → IsSupported clauses before m r → ((k : ℤ) → Contains before k → Derived clauses (opposites given) k) → Derived clauses (opposites given) m
step_derived clauses given before m None assumed is all = denied m (neg_ℤ m) (opposite_in given m (assumed refl)) (sym (neg_ℤ-neg_ℤ m))
step_derived clauses given before m (Some c) assumed is all = forced m (clause_at clauses c) (clause_in clauses c is.0) is.1.has (λ k in' ne. all (neg_ℤ k) (is.1.false k in' ne))

front_derived : (clauses : List (List ℤ)) (given : List ℤ) (trail : List Step) → AreSupported clauses trail → IsGiven given trail → (n : ℕ) → n ≤ length trail → (k : ℤ) → Contains (take n (literals trail)) k → Derived clauses (opposites given) k
front_derived clauses given trail are is zero h k has = absurd (omega (arith, has.1))
front_derived clauses given trail are is (suc n) h k has =
    let size : length (literals trail) ≡ length trail = length-map trail (λ (s : Step). s.literal) in
    let sized : length (take (suc n) (literals trail)) ≡ suc n = length-take-le (suc n) (literals trail) (omega (arith, h, size)) in
    let place : get_or (literals trail) has.0 k ≡ k = sym (get_or-take (suc n) (literals trail) has.0 k (omega (arith, has.1, sized))) ∙ has.2 in
    let less : length (take n (literals trail)) ≡ n = length-take-le n (literals trail) (omega (arith, h, size)) in
    ⊎_elim
    (λ (l : has.0 < n). front_derived clauses given trail are is n (omega (arith, h)) k (has.0, omega (arith, l, less), get_or-take n (literals trail) has.0 k l ∙ place))
    (λ (l : n ≤ has.0).
    let e : has.0 ≡ n = omega (arith, l, has.1, sized) in
    let same : (step_at trail n).literal ≡ k = sym (literal_at trail n (omega (arith, h))) ∙ get_or_default (literals trail) n (pos 0) k (omega (arith, h, size)) ∙ ap (λ (i : ℕ). get_or (literals trail) i k) (sym e) ∙ place in
    subst (Derived clauses (opposites given)) same
    (step_derived clauses given (take n (literals trail)) (step_at trail n).literal (step_at trail n).reason (is.assumed n (omega (arith, h))) (are n (omega (arith, h))) (front_derived clauses given trail are is n (omega (arith, h)))))
    (cases_lt has.0 n)

pub all_derived : (clauses : List (List ℤ)) (trail : List Step) (given : List ℤ) → AreSupported clauses trail → IsGiven given trail → (k : ℤ) → Contains (literals trail) k → Derived clauses (opposites given) k
all_derived clauses trail given are is k has =
    let size : length (literals trail) ≡ length trail = length-map trail (λ (s : Step). s.literal) in
    let whole : take (length trail) (literals trail) ≡ literals trail = take_all (length trail) (literals trail) (omega (arith, size)) in
    let P : List ℤ → Type 0 = λ t. Contains t k in
    front_derived clauses given trail are is (length trail) (omega arith) k (subst P (sym whole) has)

-- a quiet trail has all that is derived
pub all_found : (clauses : List (List ℤ)) (trail given : List ℤ) → ((k : ℤ) → Contains given k → Contains trail k) → IsQuiet clauses trail → (m : ℤ) → Derived clauses (opposites given) m → Contains trail m
all_found clauses trail given within quiet m (denied _ l among e) = let P : ℤ → Type 0 = Contains trail in subst P (sym e) (within (neg_ℤ l) (opposite_of given l among))
all_found clauses trail given within quiet m (forced _ clause among in' others) =
    let same : clause_at clauses among.0 ≡ clause = get_or_default clauses among.0 [] clause among.1 ∙ among.2 in
    let P : List ℤ → Type 0 = λ cl. Contains cl m in
    (quiet among.0 among.1).unit m (subst P (sym same) in') (λ k has ne. let Q : List ℤ → Type 0 = λ cl. Contains cl k in all_found clauses trail given within quiet (neg_ℤ k) (others k (subst Q same has) ne))

pub quiet_derives : QuietDerives
quiet_derives clauses trail given are is quiet k = (all_derived clauses trail given are is k, all_found clauses (literals trail) given is.within quiet k)

pub quiet_refutes_not : QuietRefutesNot
quiet_refutes_not clauses trail given are is quiet (clause, among, falsified) =
    let same : clause_at clauses among.0 ≡ clause = get_or_default clauses among.0 [] clause among.1 ∙ among.2 in
    (quiet among.0 among.1).unfalsified (λ k has. let Q : List ℤ → Type 0 = λ cl. Contains cl k in all_found clauses (literals trail) given is.within quiet (neg_ℤ k) (falsified k (subst Q same has)))

pub conflict_refutes : ConflictRefutes
conflict_refutes clauses trail given c are is conflict = (clause_at clauses c, clause_in clauses c conflict.0, λ k has. all_derived clauses trail given are is (neg_ℤ k) (conflict.1 k has))
