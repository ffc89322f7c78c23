-- What the tests of the hints' definition say.
use Rattle.std.proofs.Common.{◌≡◌, ◌≢◌, ℕ, zero, suc, ◌<◌, ◌≤◌, ℤ, neg_ℤ, List, [], ◌∷◌, length, Bool, true, false, not, ◌&&◌, ◌||◌, Some, None, ◌⊎◌, inl, inr, ⊎_elim, refl, sym, ap, ◌∙◌, subst, arith, Contains}
use Rattle.std.specs.List.{list_any, list_all}
use Rattle.std.specs.Ordering.{int_eq}
use Rattle.std.proofs.lemmas.Bool.{false≢true, cases_Bool, cases_lt}
use Rattle.std.proofs.lemmas.Bool.Decides.{Decides-int_eq}
use Rattle.kat_clause.specs.Tables.{clause_at, IsCovered}
use Rattle.kat_clause.specs.Hints.{Falsifies, IsOnlyOpen, has_literal, is_falsified, open_literal, gives_literal, is_unit, first_place}
use Rattle.kat_clause.specs.Choices.{IsUnit, Gives, IsNone, IsFirst}
use Rattle.kat_clause.proofs.Codes.{cases_literal}

pub here : {A : Type 0} (x : A) (xs : List A) → Contains (x ∷ xs) x
here x xs = (0, omega arith, refl)

pub behind : {A : Type 0} (x y : A) (xs : List A) → Contains xs y → Contains (x ∷ xs) y
behind x y xs has = (suc has.0, omega (arith, has.1), has.2)

pub cases_cons : {A : Type 0} (x y : A) (xs : List A) → Contains (x ∷ xs) y → (x ≡ y) ⊎ Contains xs y
cases_cons x y xs (zero, h, is) = inl is
cases_cons x y xs (suc j, h, is) = inr (j, omega arith, is)

pub in_nothing : {A : Type 0} (y : A) → Contains [] y → ⊥
in_nothing y has = omega (arith, has.1)

pub and_both : (a b : Bool) → a ≡ true → b ≡ true → (a && b) ≡ true
and_both a b e f = rw (e, f) refl

pub and_left : (a b : Bool) → (a && b) ≡ true → a ≡ true
and_left true b e = refl
and_left false b e = absurd (false≢true e)

pub and_right : (a b : Bool) → (a && b) ≡ true → b ≡ true
and_right true b e = e
and_right false b e = absurd (false≢true e)

or_left : (a b : Bool) → a ≡ true → (a || b) ≡ true
or_left a b e = rw e refl

or_right : (a b : Bool) → b ≡ true → (a || b) ≡ true
or_right true b e = refl
or_right false b e = e

or_cases : (a b : Bool) → (a || b) ≡ true → (a ≡ true) ⊎ (b ≡ true)
or_cases true b e = inl refl
or_cases false b e = inr e

not_true : (b : Bool) → not b ≡ true → b ≡ false
not_true true e = absurd (false≢true e)
not_true false e = refl

pub is_false : (b : Bool) → (b ≡ true → ⊥) → b ≡ false
is_false true h = absurd (h refl)
is_false false h = refl

-- a test of all, and of some
pub all_of : {A : Type 0} (test : A → Bool) (xs : List A) → list_all test xs ≡ true → (x : A) → Contains xs x → test x ≡ true
all_of test [] e x has = absurd (in_nothing x has)
all_of test (y ∷ ys) e x has = ⊎_elim
    (λ (same : y ≡ x). ap test (sym same) ∙ and_left (test y) (list_all test ys) e)
    (λ (later : Contains ys x). all_of test ys (and_right (test y) (list_all test ys) e) x later)
    (cases_cons y x ys has)

pub of_all : {A : Type 0} (test : A → Bool) (xs : List A) → ((x : A) → Contains xs x → test x ≡ true) → list_all test xs ≡ true
of_all test [] h = refl
of_all test (y ∷ ys) h = and_both (test y) (list_all test ys) (h y (here y ys)) (of_all test ys (λ x has. h x (behind y x ys has)))

pub any_of : {A : Type 0} (test : A → Bool) (xs : List A) → list_any test xs ≡ true → (x : A) × Contains xs x × (test x ≡ true)
any_of test [] e = absurd (false≢true e)
any_of test (y ∷ ys) e = ⊎_elim
    (λ (h : test y ≡ true). (y, here y ys, h))
    (λ (h : list_any test ys ≡ true). let r = any_of test ys h in (r.0, behind y r.0 ys r.1, r.2))
    (or_cases (test y) (list_any test ys) e)

pub of_any : {A : Type 0} (test : A → Bool) (xs : List A) (x : A) → Contains xs x → test x ≡ true → list_any test xs ≡ true
of_any test [] x has e = absurd (in_nothing x has)
of_any test (y ∷ ys) x has e = ⊎_elim
    (λ (same : y ≡ x). or_left (test y) (list_any test ys) (ap test same ∙ e))
    (λ (later : Contains ys x). or_right (test y) (list_any test ys) (of_any test ys x later e))
    (cases_cons y x ys has)

-- a set has a literal or it hasn't
pub has_in : (known : List ℤ) (k : ℤ) → has_literal known k ≡ true → Contains known k
has_in known k e =
    let r = any_of (λ l. int_eq l k) known e in
    let P : ℤ → Type 0 = Contains known in
    subst P ((Decides-int_eq r.0 k).0 r.2) r.1

pub in_has : (known : List ℤ) (k : ℤ) → Contains known k → has_literal known k ≡ true
in_has known k has = of_any (λ l. int_eq l k) known k has ((Decides-int_eq k k).1 refl)

pub cases_in : (known : List ℤ) (k : ℤ) → Contains known k ⊎ (Contains known k → ⊥)
cases_in known k = ⊎_elim
    (λ (e : has_literal known k ≡ true). inl (has_in known k e))
    (λ (e : has_literal known k ≡ false). inr (λ has. false≢true (sym e ∙ in_has known k has)))
    (cases_Bool (has_literal known k))

pub not_in : (known : List ℤ) (k : ℤ) → (Contains known k → ⊥) → has_literal known k ≡ false
not_in known k without = is_false (has_literal known k) (λ e. without (has_in known k e))

-- a clause is falsified
pub falsified_true : (known clause : List ℤ) → is_falsified known clause ≡ true → Falsifies known clause
falsified_true known clause e k has = has_in known (neg_ℤ k) (all_of (λ l. has_literal known (neg_ℤ l)) clause e k has)

pub true_falsified : (known clause : List ℤ) → Falsifies known clause → is_falsified known clause ≡ true
true_falsified known clause falsified = of_all (λ l. has_literal known (neg_ℤ l)) clause (λ k has. in_has known (neg_ℤ k) (falsified k has))

-- the one open literal is the first one
open_there : (known : List ℤ) (k m : ℤ) (ks : List ℤ) → IsOnlyOpen known (k ∷ ks) m → Contains known (neg_ℤ k) → IsOnlyOpen known ks m
open_there known k m ks only denied = record {
  has = ⊎_elim
      (λ (e : k ≡ m). absurd (only.free (let P : ℤ → Type 0 = λ x. Contains known (neg_ℤ x) in subst P e denied)))
      (λ (later : Contains ks m). later)
      (cases_cons k m ks only.has);
  free = only.free;
  others = λ x has ne. only.others x (behind k x ks has) ne;
}

open_here : (known : List ℤ) (k m : ℤ) (ks : List ℤ) → IsOnlyOpen known (k ∷ ks) m → (Contains known (neg_ℤ k) → ⊥) → k ≡ m
open_here known k m ks only free = ⊎_elim
    (λ (e : k ≡ m). e)
    (λ (ne : k ≢ m). absurd (free (only.others k (here k ks) ne)))
    (cases_literal k m)

pub open_is : (known clause : List ℤ) (m : ℤ) → IsOnlyOpen known clause m → open_literal known clause ≡ m
open_is known [] m only = absurd (in_nothing m only.has)
open_is known (k ∷ ks) m only = ⊎_elim
    (λ (e : has_literal known (neg_ℤ k) ≡ true). rw e (open_is known ks m (open_there known k m ks only (has_in known (neg_ℤ k) e))))
    (λ (e : has_literal known (neg_ℤ k) ≡ false). rw e (open_here known k m ks only (λ has. false≢true (sym e ∙ in_has known (neg_ℤ k) has))))
    (cases_Bool (has_literal known (neg_ℤ k)))

-- a clause has a literal to give
other_true : (known : List ℤ) (m k : ℤ) → (k ≢ m → Contains known (neg_ℤ k)) → (int_eq k m || has_literal known (neg_ℤ k)) ≡ true
other_true known m k h = ⊎_elim
    (λ (e : k ≡ m). or_left (int_eq k m) (has_literal known (neg_ℤ k)) ((Decides-int_eq k m).1 e))
    (λ (ne : k ≢ m). or_right (int_eq k m) (has_literal known (neg_ℤ k)) (in_has known (neg_ℤ k) (h ne)))
    (cases_literal k m)

true_gives : (known clause : List ℤ) (m : ℤ) → IsUnit known clause m → gives_literal known clause m ≡ true
true_gives known clause m unit =
    let all : list_all (λ k. int_eq k m || has_literal known (neg_ℤ k)) clause ≡ true = of_all (λ k. int_eq k m || has_literal known (neg_ℤ k)) clause (λ k has. other_true known m k (unit.only.others k has)) in
    and_both _ _ (in_has clause m unit.only.has) (and_both _ _ (ap not (not_in known (neg_ℤ m) unit.only.free)) (and_both _ _ (ap not (not_in known m unit.fresh)) all))

pub true_unit : (known clause : List ℤ) (m : ℤ) → IsUnit known clause m → is_unit known clause ≡ true
true_unit known clause m unit =
    let P : ℤ → Type 0 = λ x. gives_literal known clause x ≡ true in
    subst P (sym (open_is known clause m unit.only)) (true_gives known clause m unit)

gives_true : (known clause : List ℤ) (m : ℤ) → gives_literal known clause m ≡ true → IsUnit known clause m
gives_true known clause m e =
    let first : has_literal clause m ≡ true = and_left _ _ e in
    let rest = and_right (has_literal clause m) _ e in
    let free : not (has_literal known (neg_ℤ m)) ≡ true = and_left _ _ rest in
    let last = and_right (not (has_literal known (neg_ℤ m))) _ rest in
    let fresh : not (has_literal known m) ≡ true = and_left _ _ last in
    let all : list_all (λ k. int_eq k m || has_literal known (neg_ℤ k)) clause ≡ true = and_right (not (has_literal known m)) _ last in
    record {
      only = record {
        has = has_in clause m first;
        free = λ has. false≢true (sym (not_true _ free) ∙ in_has known (neg_ℤ m) has);
        others = λ k has ne. ⊎_elim
            (λ (same : int_eq k m ≡ true). absurd (ne ((Decides-int_eq k m).0 same)))
            (λ (there : has_literal known (neg_ℤ k) ≡ true). has_in known (neg_ℤ k) there)
            (or_cases (int_eq k m) (has_literal known (neg_ℤ k)) (all_of (λ x. int_eq x m || has_literal known (neg_ℤ x)) clause all k has));
      };
      fresh = λ has. false≢true (sym (not_true _ fresh) ∙ in_has known m has);
    }

pub unit_true : (known clause : List ℤ) → is_unit known clause ≡ true → Gives known clause
unit_true known clause e = (open_literal known clause, gives_true known clause (open_literal known clause) e)

pub gives_unit : (known clause : List ℤ) → Gives known clause → is_unit known clause ≡ true
gives_unit known clause gives = true_unit known clause gives.0 gives.1

-- the first place that passes
none_there : (P : List ℤ → Type 0) (clause : List ℤ) (clauses : List (List ℤ)) → IsNone P (clause ∷ clauses) → IsNone P clauses
none_there P clause clauses none j h = none (suc j) (omega arith)

first_there : {P : List ℤ → Type 0} (clause : List ℤ) (clauses : List (List ℤ)) (i : ℕ) → IsFirst P (clause ∷ clauses) (suc i) → IsFirst P clauses i
first_there clause clauses i first = record {
  within = omega (arith, first.within);
  here = first.here;
  before = λ j less. first.before (suc j) (omega arith);
}

pub first_is : (P : List ℤ → Type 0) (test : List ℤ → Bool) → ((clause : List ℤ) → test clause ≡ true → P clause) → ((clause : List ℤ) → P clause → test clause ≡ true)
    → (clauses : List (List ℤ)) (i : ℕ) → IsFirst P clauses i → first_place test clauses ≡ Some i
first_is P test on back [] i first = absurd (omega (arith, first.within))
first_is P test on back (clause ∷ clauses) zero first = rw (back clause first.here) refl
first_is P test on back (clause ∷ clauses) (suc i) first =
    let not_here : test clause ≡ false = is_false (test clause) (λ e. first.before 0 (omega arith) (on clause e)) in
    rw (not_here, first_is P test on back clauses i (first_there clause clauses i first)) refl

pub none_is : (P : List ℤ → Type 0) (test : List ℤ → Bool) → ((clause : List ℤ) → test clause ≡ true → P clause)
    → (clauses : List (List ℤ)) → IsNone P clauses → first_place test clauses ≡ None
none_is P test on [] none = refl
none_is P test on (clause ∷ clauses) none =
    let not_here : test clause ≡ false = is_false (test clause) (λ e. none 0 (omega arith) (on clause e)) in
    rw (not_here, none_is P test on clauses (none_there P clause clauses none)) refl

first_behind : {P : List ℤ → Type 0} (clause : List ℤ) (clauses : List (List ℤ)) (i : ℕ) → (P clause → ⊥) → IsFirst P clauses i → IsFirst P (clause ∷ clauses) (suc i)
first_behind {P} clause clauses i without first = record {
  within = omega (arith, first.within);
  here = first.here;
  before = before;
}
  where
    before : (j : ℕ) → j < suc i → P (clause_at (clause ∷ clauses) j) → ⊥
    before zero less here' = without here'
    before (suc j) less here' = first.before j (omega arith) here'

none_behind : (P : List ℤ → Type 0) (clause : List ℤ) (clauses : List (List ℤ)) → (P clause → ⊥) → IsNone P clauses → IsNone P (clause ∷ clauses)
none_behind P clause clauses without none zero h here' = without here'
none_behind P clause clauses without none (suc j) h here' = none j (omega arith) here'

pub find_first : (P : List ℤ → Type 0) (test : List ℤ → Bool) → ((clause : List ℤ) → test clause ≡ true → P clause) → ((clause : List ℤ) → P clause → test clause ≡ true)
    → (clauses : List (List ℤ)) → ((i : ℕ) × IsFirst P clauses i) ⊎ IsNone P clauses
find_first P test on back [] = inr (λ j h. absurd (omega (arith, h)))
find_first P test on back (clause ∷ clauses) = ⊎_elim
    (λ (e : test clause ≡ true). inl (0, record { within = omega arith; here = on clause e; before = λ j less. absurd (omega (arith, less)) }))
    (λ (e : test clause ≡ false).
    let without : P clause → ⊥ = λ h. false≢true (sym e ∙ back clause h) in
    ⊎_elim
    (λ (found : (i : ℕ) × IsFirst P clauses i). inl (suc found.0, first_behind {P = P} clause clauses found.0 without found.1))
    (λ (none : IsNone P clauses). inr (none_behind P clause clauses without none))
    (find_first P test on back clauses))
    (cases_Bool (test clause))

-- what covers a falsified clause is falsified
pub falsified_up : (known few clause : List ℤ) → ((k : ℤ) → Contains few k → Contains clause k) → Falsifies known clause → Falsifies known few
falsified_up known few clause on falsified k has = falsified k (on k has)

-- what covers a clause with a literal to give has it to give too, unless it is falsified
gives_up : (known few clause : List ℤ) → ((k : ℤ) → Contains few k → Contains clause k) → (Falsifies known few → ⊥) → Gives known clause → Gives known few
gives_up known few clause on standing (m, unit) = ⊎_elim
    (λ (has : Contains few m). (
      m,
      record { only = record { has = has; free = unit.only.free; others = λ k there ne. unit.only.others k (on k there) ne }; fresh = unit.fresh },
    ))
    (λ (without : Contains few m → ⊥). absurd (standing (λ k there. unit.only.others k (on k there) (λ e. without (let P : ℤ → Type 0 = Contains few in subst P e there)))))
    (cases_in few m)

-- if a clause passes, the first one that does is no later, and no earlier one covers it
abbrev pub Climbs : (List ℤ → Type 0) → List (List ℤ) → Type 0
Climbs P clauses = (i j : ℕ) → j < length clauses → ((k : ℤ) → Contains (clause_at clauses j) k → Contains (clause_at clauses i) k) → P (clause_at clauses i) → P (clause_at clauses j)

once : {P : List ℤ → Type 0} (clauses : List (List ℤ)) → Climbs P clauses → (i : ℕ) → IsFirst P clauses i → IsCovered clauses i → ⊥
once {P} clauses up i first (j, less, on) = first.before j less (up i j (omega (arith, less, first.within)) on first.here)

first_once : (P : List ℤ → Type 0) (test : List ℤ → Bool) → ((clause : List ℤ) → test clause ≡ true → P clause) → ((clause : List ℤ) → P clause → test clause ≡ true)
    → (clauses : List (List ℤ)) → Climbs P clauses → (j : ℕ) → j < length clauses → P (clause_at clauses j) → (i : ℕ) × IsFirst P clauses i × (i ≤ j) × (IsCovered clauses i → ⊥)
first_once P test on back clauses up j h passes = ⊎_elim
    (λ (found : (i : ℕ) × IsFirst P clauses i). (
      found.0,
      found.1,
      ⊎_elim (λ (l : j < found.0). absurd (found.1.before j l passes)) (λ (l : found.0 ≤ j). l) (cases_lt j found.0),
      once {P = P} clauses up found.0 found.1,
    ))
    (λ (none : IsNone P clauses). absurd (none j h passes))
    (find_first P test on back clauses)

pub falsified_once : (known : List ℤ) (clauses : List (List ℤ)) (j : ℕ) → j < length clauses → Falsifies known (clause_at clauses j) → (i : ℕ) × IsFirst (Falsifies known) clauses i × (i ≤ j) × (IsCovered clauses i → ⊥)
falsified_once known clauses j h passes = first_once (Falsifies known) (is_falsified known) (falsified_true known) (true_falsified known) clauses
    (λ i n l on falsified. falsified_up known (clause_at clauses n) (clause_at clauses i) on falsified) j h passes

pub gives_once : (known : List ℤ) (clauses : List (List ℤ)) → IsNone (Falsifies known) clauses → (j : ℕ) → j < length clauses → Gives known (clause_at clauses j) → (i : ℕ) × IsFirst (Gives known) clauses i × (i ≤ j) × (IsCovered clauses i → ⊥)
gives_once known clauses standing j h passes = first_once (Gives known) (is_unit known) (unit_true known) (gives_unit known) clauses
    (λ i n l on gives. gives_up known (clause_at clauses n) (clause_at clauses i) on (standing n l) gives) j h passes
