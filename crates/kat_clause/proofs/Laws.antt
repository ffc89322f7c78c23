-- The laws of unit propagation.
use Rattle.std.proofs.Common.{◌≡◌, ◌≢◌, ℕ, zero, suc, ℤ, pos, negsuc, neg_ℤ, List, [], ◌∷◌, ◌++◌, Bool, true, false, not, IsTrue, ◌⊎◌, inl, inr, ⊎_elim, refl, sym, ap, ◌∙◌, subst, arith, Contains, All}
use Rattle.std.proofs.lemmas.Bool.{cases_Bool, false≢true}
use Rattle.std.proofs.lemmas.List.Elements.{All-contains, Contains-push, Contains-push_cases, Contains-append_left}
use Rattle.kat_clause.specs.Clauses.{Derived, Follows, SameMembers, AreAmong}
use Rattle.kat_clause.specs.Clauses.Derived.{denied, forced}
use Rattle.kat_clause.specs.Valuations.{literal_value, IsTrueClause, AreTrueClauses, HasNoZero}
use Rattle.kat_clause.specs.Laws.{IsClosed}
use Rattle.kat_clause.proofs.Codes.{cases_literal}

pub least : (clauses : List (List ℤ)) (line : List ℤ) (has : ℤ → Bool) → IsClosed clauses line has → (m : ℤ) → Derived clauses line m → IsTrue (has m)
least clauses line has closed m (denied _ l among e) = let P : ℤ → Type 0 = λ x. IsTrue (has x) in subst P (sym e) (closed.denies l among)
least clauses line has closed m (forced _ clause among in' others) = closed.forces m clause among in' (λ k k_in ne. least clauses line has closed (neg_ℤ k) (others k k_in ne))

not-not : (b : Bool) → b ≡ not (not b)
not-not true = refl
not-not false = refl

-- opposite literals have opposite values
opposite_value : (values : ℕ → Bool) (k : ℤ) → k ≢ pos 0 → literal_value values (neg_ℤ k) ≡ not (literal_value values k)
opposite_value values (pos zero) ne = absurd (ne refl)
opposite_value values (pos (suc n)) ne = refl
opposite_value values (negsuc n) ne = not-not (values (suc n))

false_in : (values : ℕ → Bool) (x : ℤ) (xs : List ℤ) → literal_value values x ≡ false → ((k : ℤ) → Contains xs k → literal_value values k ≡ false) → (k : ℤ) → Contains (x ∷ xs) k → literal_value values k ≡ false
false_in values x xs e rest k (zero, h, is) = sym (ap (literal_value values) is) ∙ e
false_in values x xs e rest k (suc j, h, is) = rest k (j, omega arith, is)

-- a clause is true, or all its literals are false
pub cases_clause : (values : ℕ → Bool) (clause : List ℤ) → IsTrueClause values clause ⊎ ((k : ℤ) → Contains clause k → literal_value values k ≡ false)
cases_clause values [] = inr (λ k has. absurd (omega (arith, has.1)))
cases_clause values (x ∷ xs) = ⊎_elim
    (λ (e : literal_value values x ≡ true). inl (x, (0, omega arith, refl), e))
    (λ (e : literal_value values x ≡ false). ⊎_elim
    (λ (found : IsTrueClause values xs). inl (found.0, (suc found.1.0, omega (arith, found.1.1), found.1.2), found.2))
    (λ (rest : (k : ℤ) → Contains xs k → literal_value values k ≡ false). inr (false_in values x xs e rest))
    (cases_clause values xs))
    (cases_Bool (literal_value values x))

-- if the line is false and the clauses are true, derived literals are true
derived_true : (clauses : List (List ℤ)) (line : List ℤ) (values : ℕ → Bool) → All HasNoZero clauses → HasNoZero line → AreTrueClauses values clauses → ((k : ℤ) → Contains line k → literal_value values k ≡ false) → (m : ℤ) → Derived clauses line m → literal_value values m ≡ true
derived_true clauses line values some_in some_on hold none m (denied _ l has e) = ap (literal_value values) e ∙ opposite_value values l (some_on l has) ∙ ap not (none l has)
derived_true clauses line values some_in some_on hold none m (forced _ clause among has others) =
    let holds : IsTrueClause values clause = All-contains (IsTrueClause values) clauses clause hold among in
    ⊎_elim
    (λ (e : holds.0 ≡ m). sym (ap (literal_value values) e) ∙ holds.2)
    (λ (ne : holds.0 ≢ m).
    let denial : literal_value values (neg_ℤ holds.0) ≡ true = derived_true clauses line values some_in some_on hold none (neg_ℤ holds.0) (others holds.0 holds.1 ne) in
    let opposite : literal_value values (neg_ℤ holds.0) ≡ false = opposite_value values holds.0 (All-contains HasNoZero clauses clause some_in among holds.0 holds.1) ∙ ap not holds.2 in
    absurd (false≢true (sym opposite ∙ denial)))
    (cases_literal holds.0 m)

pub sound : (clauses : List (List ℤ)) (line : List ℤ) (values : ℕ → Bool) → All HasNoZero clauses → HasNoZero line → Follows clauses line → AreTrueClauses values clauses → IsTrueClause values line
sound clauses line values some_in some_on (clause, among, falsified) hold = ⊎_elim
    (λ (h : IsTrueClause values line). h)
    (λ (none : (k : ℤ) → Contains line k → literal_value values k ≡ false).
    let holds : IsTrueClause values clause = All-contains (IsTrueClause values) clauses clause hold among in
    let denial : literal_value values (neg_ℤ holds.0) ≡ true = derived_true clauses line values some_in some_on hold none (neg_ℤ holds.0) (falsified holds.0 holds.1) in
    let opposite : literal_value values (neg_ℤ holds.0) ≡ false = opposite_value values holds.0 (All-contains HasNoZero clauses clause some_in among holds.0 holds.1) ∙ ap not holds.2 in
    absurd (false≢true (sym opposite ∙ denial)))
    (cases_clause values line)

-- more clauses and a longer line derive no less
pub derived_more : (clauses more : List (List ℤ)) (line longer : List ℤ) → AreAmong clauses more → ((k : ℤ) → Contains line k → Contains longer k) → (m : ℤ) → Derived clauses line m → Derived more longer m
derived_more clauses more line longer among on m (denied _ l has e) = denied m l (on l has) e
derived_more clauses more line longer among on m (forced _ clause there has others) =
    let other = among clause there in
    forced m other.0 other.1 ((other.2 m).0 has) (λ k in' ne. derived_more clauses more line longer among on (neg_ℤ k) (others k ((other.2 k).1 in') ne))

pub follows_more : (clauses more : List (List ℤ)) (line longer : List ℤ) → AreAmong clauses more → ((k : ℤ) → Contains line k → Contains longer k) → Follows clauses line → Follows more longer
follows_more clauses more line longer among on (clause, there, falsified) =
    let other = among clause there in
    (other.0, other.1, λ k has. derived_more clauses more line longer among on (neg_ℤ k) (falsified k ((other.2 k).1 has)))

pub follows_sets : (clauses others : List (List ℤ)) (line same : List ℤ) → AreAmong clauses others → AreAmong others clauses → SameMembers line same → Follows clauses line → Follows others same
follows_sets clauses others line same on back members = follows_more clauses others line same on (λ k. (members k).0)

pub same_members : (clause : List ℤ) → SameMembers clause clause
same_members clause k = (λ has. has, λ has. has)

-- clauses are among clauses that have them
pub among_lists : (few many : List (List ℤ)) → ((clause : List ℤ) → Contains few clause → Contains many clause) → AreAmong few many
among_lists few many on clause has = (clause, on clause has, same_members clause)

pub among_itself : (clauses : List (List ℤ)) → AreAmong clauses clauses
among_itself clauses = among_lists clauses clauses (λ clause has. has)

pub among_then : (a b c : List (List ℤ)) → AreAmong a b → AreAmong b c → AreAmong a c
among_then a b c first second clause has =
    let x = first clause has in
    let y = second x.0 x.1 in
    (y.0, y.1, λ k. (λ h. (y.2 k).0 ((x.2 k).0 h), λ h. (x.2 k).1 ((y.2 k).1 h)))

-- one clause more on both sides, with the same literals
pub among_push : (few many : List (List ℤ)) (clause same : List ℤ) → SameMembers clause same → AreAmong few many → AreAmong (few ++ clause ∷ []) (many ++ same ∷ [])
among_push few many clause same members among x has = ⊎_elim
    (λ was. let other = among x was in (other.0, Contains-append_left many (same ∷ []) other.0 other.1, other.2))
    (λ (e : clause ≡ x). let P : List ℤ → Type 0 = λ c. SameMembers c same in (same, Contains-push many same, subst P e members))
    (Contains-push_cases few clause x has)

pub members_back : (a b : List ℤ) → SameMembers a b → SameMembers b a
members_back a b same k = ((same k).1, (same k).0)
