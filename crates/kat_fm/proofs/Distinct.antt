-- Rows that are tidy, and stay so if some are left out.
use Rattle.std.proofs.Common.{◌≡◌, ◌≢◌, ℕ, suc, ◌==◌, length, ℤ, Bool, true, false, if◌then◌else◌, None, List, [], ◌∷◌, ◌++◌, All, Contains, get_or, filter, pos, Some, ◌⊎◌, inl, inr, refl, sym, ap, ◌∙◌, ⊎_elim, arith}
use Rattle.std.specs.Prelude.{not, ◌&&◌, ◌||◌, int_le, int_lt}
use Rattle.std.specs.List.{list_any}
use Rattle.std.proofs.lemmas.Int.{ints}
use Rattle.std.proofs.lemmas.Bool.{false≢true}
use Rattle.std.proofs.lemmas.List.Elements.{All-nil, All-cons, All-head, All-tail, All-filter, All-push, All-contains, Contains-get_or, filter_passes}
use Rattle.kat_fm.specs.Combinations.{Combination}
use Rattle.kat_fm.specs.Comparisons.{has_variables, are_same, covers, exceeds}
use Rattle.kat_fm.specs.Eliminations.{contradiction, strongest, tidied, couples}
use Rattle.kat_fm.specs.declared.working.Combination.{Combination as Working}
use Rattle.kat_fm.specs.Views.{combinations, AreDistinct, AreTidy}
use Rattle.kat_fm.proofs.Certificates.{in_nothing, cases_cons, strongest_within}
use Rattle.kat_fm.proofs.Spreads.{same_lists, same_itself}

-- a test of two lists that differ, and of equal ones
unlike_lists : (cs bs : List ℤ) → cs ≢ bs → are_same cs bs ≡ false
unlike_lists cs bs h = at_test (are_same cs bs) refl
  where
    at_test : (b : Bool) → are_same cs bs ≡ b → are_same cs bs ≡ false
    at_test true e = absurd (h (same_lists cs bs e))
    at_test false e = e

like_lists : (cs bs : List ℤ) → cs ≡ bs → are_same cs bs ≡ true
like_lists cs bs e = ap (are_same cs) (sym e) ∙ same_itself cs

no_cover : (other row : Combination) → other.coefficients ≢ row.coefficients → covers other row ≡ false
no_cover other row h = ap (λ b. b && int_le row.constant other.constant) (unlike_lists other.coefficients row.coefficients h)

no_excess : (other row : Combination) → other.coefficients ≢ row.coefficients → exceeds other row ≡ false
no_excess other row h = ap (λ b. b && int_lt row.constant other.constant) (unlike_lists other.coefficients row.coefficients h)

none_of : (test : Combination → Bool) (rows : List Combination) → All (λ r. test r ≡ false) rows → list_any test rows ≡ false
none_of test [] h = refl
none_of test (r ∷ rs) h = ap (λ b. b || list_any test rs) (All-head (λ x. test x ≡ false) r rs h) ∙ none_of test rs (All-tail (λ x. test x ≡ false) r rs h)

or_none : (a b : Bool) → (a || b) ≡ false → (a ≡ false) × (b ≡ false)
or_none true b e = absurd (false≢true (sym e))
or_none false b e = (refl, e)

each_none : (test : Combination → Bool) (rows : List Combination) → list_any test rows ≡ false → All (λ r. test r ≡ false) rows
each_none test [] e = All-nil (λ r. test r ≡ false)
each_none test (r ∷ rs) e = let parts = or_none (test r) (list_any test rs) e in All-cons (λ x. test x ≡ false) r rs parts.0 (each_none test rs parts.1)

any_front : (test : Combination → Bool) (xs ys : List Combination) → list_any test (xs ++ ys) ≡ false → list_any test xs ≡ false
any_front test [] ys e = refl
any_front test (x ∷ xs) ys e = let parts = or_none (test x) (list_any test (xs ++ ys)) e in ap (λ b. b || list_any test xs) parts.0 ∙ any_front test xs ys parts.1

any_last : (test : Combination → Bool) (xs : List Combination) (y : Combination) → list_any test (xs ++ y ∷ []) ≡ false → test y ≡ false
any_last test [] y e = (or_none (test y) false e).0
any_last test (x ∷ xs) y e = any_last test xs y (or_none (test x) (list_any test (xs ++ y ∷ [])) e).1

kept_cases : (b : Bool) (x y : Combination) (rest : List Combination) → Contains ((if b then [] else x ∷ []) ++ rest) y → ((b ≡ false) × (x ≡ y)) ⊎ Contains rest y
kept_cases true x y rest h = inr h
kept_cases false x y rest h = ⊎_elim (λ (e : x ≡ y). inl (refl, e)) (λ (k : Contains rest y). inr k) (cases_cons x y rest h)

-- no row before a row that is kept covers it
uncovered : (before rows : List Combination) (x : Combination) → Contains (strongest before rows) x → list_any (λ other. covers other x) before ≡ false
uncovered before [] x h = absurd (in_nothing x h)
uncovered before (r ∷ rs) x h =
    let b = list_any (λ other. covers other r) before || list_any (λ other. exceeds other r) rs in
    ⊎_elim
    (λ (k : (b ≡ false) × (r ≡ x)). ap (λ y. list_any (λ other. covers other y) before) (sym k.1) ∙ (or_none (list_any (λ other. covers other r) before) (list_any (λ other. exceeds other r) rs) k.0).0)
    (λ (k : Contains (strongest (before ++ r ∷ []) rs) x). any_front (λ other. covers other x) before (r ∷ []) (uncovered (before ++ r ∷ []) rs x k))
    (kept_cases b r x (strongest (before ++ r ∷ []) rs) h)

apart : (row other : Combination) → covers row other ≡ false → exceeds other row ≡ false → other.coefficients ≢ row.coefficients
apart row other c x e =
    let no_more : int_le other.constant row.constant ≡ false = sym (ap (λ b. b && int_le other.constant row.constant) (like_lists row.coefficients other.coefficients (sym e))) ∙ c in
    let no_less : int_lt row.constant other.constant ≡ false = sym (ap (λ b. b && int_lt row.constant other.constant) (like_lists other.coefficients row.coefficients e)) ∙ x in
    both_false other.constant row.constant no_more no_less
  where
    both_false : (a b : ℤ) → int_le a b ≡ false → int_lt b a ≡ false → ⊥
    both_false a b h k = grind (arith, ints)

distinct_strongest : (before rows : List Combination) → AreDistinct (strongest before rows)
distinct_strongest before [] = tt
distinct_strongest before (r ∷ rs) =
    at_test (list_any (λ other. covers other r) before || list_any (λ other. exceeds other r) rs) refl (distinct_strongest (before ++ r ∷ []) rs)
  where
    at_test : (b : Bool) → (list_any (λ other. covers other r) before || list_any (λ other. exceeds other r) rs) ≡ b → AreDistinct (strongest (before ++ r ∷ []) rs) → AreDistinct ((if b then [] else r ∷ []) ++ strongest (before ++ r ∷ []) rs)
    at_test true e h = h
    at_test false e h =
        let rest = strongest (before ++ r ∷ []) rs in
        let least = each_none (λ other. exceeds other r) rs (or_none (list_any (λ other. covers other r) before) (list_any (λ other. exceeds other r) rs) e).1 in (
          λ i d below.
              let o = get_or rest i d in
              let on : Contains rest o = Contains-get_or rest i d below in
              apart r o (any_last (λ other. covers other o) before r (uncovered (before ++ r ∷ []) rs o on)) (All-contains (λ other. exceeds other r ≡ false) rs o least (strongest_within (before ++ r ∷ []) rs o on)),
          h,
        )

pub tidied_tidy : (rows : List Combination) → AreTidy (tidied rows)
tidied_tidy rows = record {
  have = λ i d below.
      let row = get_or (tidied rows) i d in
      All-contains (λ r. has_variables r ≡ true) (filter has_variables rows) row (filter_passes has_variables rows) (strongest_within [] (filter has_variables rows) row (Contains-get_or (tidied rows) i d below));
  distinct = distinct_strongest [] (filter has_variables rows);
}

-- some of the rows
distinct_filter : (test : Combination → Bool) (rows : List Combination) → AreDistinct rows → AreDistinct (filter test rows)
distinct_filter test [] h = tt
distinct_filter test (r ∷ rs) h = at_test (test r) (distinct_filter test rs h.1)
  where
    at_test : (b : Bool) → AreDistinct (filter test rs) → AreDistinct (if b then r ∷ filter test rs else filter test rs)
    at_test true k = (All-filter test (λ (other : Combination). other.coefficients ≢ r.coefficients) rs h.0, k)
    at_test false k = k

pub filter_tidy : (test : Combination → Bool) (rows : List Combination) → AreTidy rows → AreTidy (filter test rows)
filter_tidy test rows h = record { have = All-filter test (λ r. has_variables r ≡ true) rows h.have; distinct = distinct_filter test rows h.distinct }

-- tidy rows have no contradiction, and stay
pub tidy_calm : (rows : List Combination) → All (λ r. has_variables r ≡ true) rows → contradiction rows ≡ None
tidy_calm [] h = refl
tidy_calm (r ∷ rs) h =
    ap (λ b. if not b && int_lt (pos 0) r.constant then Some r.multipliers else contradiction rs) (All-head (λ x. has_variables x ≡ true) r rs h) ∙ tidy_calm rs (All-tail (λ x. has_variables x ≡ true) r rs h)

all_pass : (rows : List Combination) → All (λ r. has_variables r ≡ true) rows → filter has_variables rows ≡ rows
all_pass [] h = refl
all_pass (r ∷ rs) h =
    ap (λ b. if b then r ∷ filter has_variables rs else filter has_variables rs) (All-head (λ x. has_variables x ≡ true) r rs h) ∙ ap (λ xs. r ∷ xs) (all_pass rs (All-tail (λ x. has_variables x ≡ true) r rs h))

all_stand : (before rows : List Combination) → All (λ (r : Combination). All (λ (b : Combination). b.coefficients ≢ r.coefficients) before) rows → AreDistinct rows → strongest before rows ≡ rows
all_stand before [] h k = refl
all_stand before (r ∷ rs) h k =
    let P : Combination → Type 0 = λ x. All (λ (b : Combination). b.coefficients ≢ x.coefficients) before in
    let first : list_any (λ other. covers other r) before ≡ false = none_of (λ other. covers other r) before (λ i d below. no_cover (get_or before i d) r (All-head P r rs h i d below)) in
    let later : list_any (λ other. exceeds other r) rs ≡ false = none_of (λ other. exceeds other r) rs (λ i d below. no_excess (get_or rs i d) r (k.0 i d below)) in
    ap (λ b. (if b then [] else r ∷ []) ++ strongest (before ++ r ∷ []) rs) (ap (λ b. b || list_any (λ other. exceeds other r) rs) first ∙ later)
    ∙ ap (λ xs. r ∷ xs) (all_stand (before ++ r ∷ []) rs
    (λ i d below. All-push (λ (b : Combination). b.coefficients ≢ (get_or rs i d).coefficients) before r (All-tail P r rs h i d below) (λ e. k.0 i d below (sym e))) k.1)

pub tidy_stays : (rows : List Combination) → AreTidy rows → tidied rows ≡ rows
tidy_stays rows h = ap (strongest []) (all_pass rows h.have) ∙ all_stand [] rows (λ i d below j e none. absurd (omega arith)) h.distinct

pub couples_none : (ps : List Combination) → couples ps [] ≡ []
couples_none [] = refl
couples_none (p ∷ ps) = couples_none ps

pub none_made : (plus minus : List Working) (n : ℕ) → n ≡ length minus → (n == 0) ≡ true → couples (combinations plus) (combinations minus) ≡ []
none_made plus [] n e h = couples_none (combinations plus)
none_made plus (w ∷ ws) n e h = absurd (some n (length ws) e h)
  where
    some : (k l : ℕ) → k ≡ suc l → (k == 0) ≡ true → ⊥
    some k l e h = grind arith
