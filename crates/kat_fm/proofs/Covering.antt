-- Rows that may be left out: one that an earlier row covers, and one without variables whose constant isn't above 0.
use Rattle.std.proofs.Common.{◌≡◌, ℤ, pos, Bool, true, false, if◌then◌else◌, List, [], ◌∷◌, ◌++◌, append_assoc, filter, Some, ◌⊎◌, inl, inr, refl, sym, ap, ◌∙◌, subst, ⊎_elim, arith}
use Rattle.std.specs.Prelude.{not, ◌&&◌, ◌||◌, int_le, int_lt}
use Rattle.std.specs.List.{list_any, list_all}
use Rattle.std.proofs.lemmas.Int.{ints}
use Rattle.std.proofs.lemmas.Bool.{false≢true}
use Rattle.std.proofs.lemmas.List.{append-nil}
use Rattle.std.proofs.lemmas.List.Elements.{filter-append}
use Rattle.std.proofs.lemmas.List.Folds.{list_any-append}
use Rattle.kat_fm.specs.Combinations.{Combination}
use Rattle.kat_fm.specs.Comparisons.{is_zero, has_variables, are_same, covers, exceeds}
use Rattle.kat_fm.specs.Eliminations.{contradiction, strongest, tidied}
use Rattle.kat_fm.proofs.Spreads.{same_lists, same_itself}

and_parts : (a b : Bool) → (a && b) ≡ true → (a ≡ true) × (b ≡ true)
and_parts true b e = (refl, e)
and_parts false b e = absurd (false≢true e)

or_cases : (a b : Bool) → (a || b) ≡ true → (a ≡ true) ⊎ (b ≡ true)
or_cases true b e = inl refl
or_cases false b e = inr e

or_right : (a b : Bool) → b ≡ true → (a || b) ≡ true
or_right true b e = refl
or_right false b e = e

same_through : (a b c : List ℤ) → are_same a b ≡ true → are_same b c ≡ true → are_same a c ≡ true
same_through a b c e f = subst (λ xs. are_same xs c ≡ true) (sym (same_lists a b e)) f

most_through : (a b c : ℤ) → int_le b a ≡ true → int_le c b ≡ true → int_le c a ≡ true
most_through a b c e f = grind (arith, ints)

more_through : (a b c : ℤ) → int_le b a ≡ true → int_lt c b ≡ true → int_lt c a ≡ true
more_through a b c e f = grind (arith, ints)

less_most : (a b : ℤ) → int_lt a b ≡ true → int_le a b ≡ true
less_most a b e = grind (arith, ints)

never_more : (a b : ℤ) → int_le b a ≡ true → int_lt a b ≡ true → ⊥
never_more a b e f = grind (arith, ints)

covers_through : (o r z : Combination) → covers o r ≡ true → covers r z ≡ true → covers o z ≡ true
covers_through o r z e f =
    let a = and_parts (are_same o.coefficients r.coefficients) (int_le r.constant o.constant) e in
    let b = and_parts (are_same r.coefficients z.coefficients) (int_le z.constant r.constant) f in
    rw (same_through o.coefficients r.coefficients z.coefficients a.0 b.0) (most_through o.constant r.constant z.constant a.1 b.1)

exceeds_through : (o r z : Combination) → covers o r ≡ true → exceeds r z ≡ true → exceeds o z ≡ true
exceeds_through o r z e f =
    let a = and_parts (are_same o.coefficients r.coefficients) (int_le r.constant o.constant) e in
    let b = and_parts (are_same r.coefficients z.coefficients) (int_lt z.constant r.constant) f in
    rw (same_through o.coefficients r.coefficients z.coefficients a.0 b.0) (more_through o.constant r.constant z.constant a.1 b.1)

exceeds_covers : (r z : Combination) → exceeds r z ≡ true → covers r z ≡ true
exceeds_covers r z f =
    let b = and_parts (are_same r.coefficients z.coefficients) (int_lt z.constant r.constant) f in
    rw b.0 (less_most z.constant r.constant b.1)

covers_no_excess : (o r : Combination) → covers o r ≡ true → exceeds r o ≡ true → ⊥
covers_no_excess o r e f =
    never_more o.constant r.constant (and_parts (are_same o.coefficients r.coefficients) (int_le r.constant o.constant) e).1 (and_parts (are_same r.coefficients o.coefficients) (int_lt o.constant r.constant) f).1

-- what covers a row covers what that one covers, and exceeds what it exceeds
any_covers : (rows : List Combination) (r z : Combination) → list_any (λ o. covers o r) rows ≡ true → covers r z ≡ true → list_any (λ o. covers o z) rows ≡ true
any_covers [] r z e f = absurd (false≢true e)
any_covers (o ∷ rows) r z e f =
    ⊎_elim
    (λ (k : covers o r ≡ true). rw (covers_through o r z k f) refl)
    (λ (k : list_any (λ x. covers x r) rows ≡ true). or_right (covers o z) (list_any (λ x. covers x z) rows) (any_covers rows r z k f))
    (or_cases (covers o r) (list_any (λ x. covers x r) rows) e)

any_exceeds : (rows : List Combination) (r z : Combination) → list_any (λ o. covers o r) rows ≡ true → exceeds r z ≡ true → list_any (λ o. exceeds o z) rows ≡ true
any_exceeds [] r z e f = absurd (false≢true e)
any_exceeds (o ∷ rows) r z e f =
    ⊎_elim
    (λ (k : covers o r ≡ true). rw (exceeds_through o r z k f) refl)
    (λ (k : list_any (λ x. covers x r) rows ≡ true). or_right (exceeds o z) (list_any (λ x. exceeds x z) rows) (any_exceeds rows r z k f))
    (or_cases (covers o r) (list_any (λ x. covers x r) rows) e)

-- a test of one element more in the middle
without_one : (a b c : Bool) → (b ≡ true → a ≡ true) → (a || (b || c)) ≡ (a || c)
without_one true b c h = refl
without_one false true c h = absurd (false≢true (h refl))
without_one false false c h = refl

any_without : (test : Combination → Bool) (xs : List Combination) (r : Combination) (ys : List Combination) → (test r ≡ true → list_any test xs ≡ true) → list_any test (xs ++ r ∷ ys) ≡ list_any test (xs ++ ys)
any_without test xs r ys h =
    list_any-append test xs (r ∷ ys) ∙ without_one (list_any test xs) (test r) (list_any test ys) h ∙ sym (list_any-append test xs ys)

-- a covered row beats none that isn't beaten without it
pub past_covered : (before : List Combination) (r : Combination) (more zs : List Combination) → list_any (λ o. covers o r) before ≡ true → strongest (before ++ r ∷ more) zs ≡ strongest (before ++ more) zs
past_covered before r more [] h = refl
past_covered before r more (z ∷ zs) h =
    let test : list_any (λ o. covers o z) (before ++ r ∷ more) ≡ list_any (λ o. covers o z) (before ++ more) = any_without (λ o. covers o z) before r more (λ k. any_covers before r z h k) in
    let head : Bool → List Combination = λ b. if b || list_any (λ o. exceeds o z) zs then [] else z ∷ [] in
    let rest : strongest ((before ++ r ∷ more) ++ z ∷ []) zs ≡ strongest ((before ++ more) ++ z ∷ []) zs =
    ap (λ xs. strongest xs zs) (append_assoc before (r ∷ more) (z ∷ [])) ∙ past_covered before r (more ++ z ∷ []) zs h ∙ ap (λ xs. strongest xs zs) (sym (append_assoc before more (z ∷ []))) in
    ap (λ b. head b ++ strongest ((before ++ r ∷ more) ++ z ∷ []) zs) test ∙ ap (λ xs. head (list_any (λ o. covers o z) (before ++ more)) ++ xs) rest

covered_at : (before : List Combination) (r : Combination) (zs : List Combination) → list_any (λ o. covers o r) before ≡ true → strongest before (r ∷ zs) ≡ strongest before zs
covered_at before r zs h =
    let head : Bool → List Combination = λ b. if b || list_any (λ o. exceeds o r) zs then [] else r ∷ [] in
    ap (λ b. head b ++ strongest (before ++ r ∷ []) zs) h ∙ past_covered before r [] zs h ∙ ap (λ xs. strongest xs zs) (append-nil before)

-- the test of a row that is beaten by a covered one
beaten_without : (before : List Combination) (x : Combination) (xs : List Combination) (r : Combination) (zs : List Combination) → list_any (λ o. covers o r) (before ++ x ∷ xs) ≡ true
    → (list_any (λ o. covers o x) before || list_any (λ o. exceeds o x) (xs ++ r ∷ zs)) ≡ (list_any (λ o. covers o x) before || list_any (λ o. exceeds o x) (xs ++ zs))
beaten_without before x xs r zs h =
    at_test (exceeds r x) refl
  where
    a : Bool
    a = list_any (λ o. covers o x) before

    both : (b c : Bool) → (a ≡ true) ⊎ (b ≡ c) → (a || b) ≡ (a || c)
    both b c k = ⊎_elim (λ (e : a ≡ true). ap (λ d. d || b) e ∙ sym (ap (λ d. d || c) e)) (λ (e : b ≡ c). ap (λ d. a || d) e) k

    split : exceeds r x ≡ true → (list_any (λ o. covers o r) before ≡ true) ⊎ (list_any (λ o. covers o r) (x ∷ xs) ≡ true) → (a ≡ true) ⊎ (list_any (λ o. exceeds o x) (xs ++ r ∷ zs) ≡ list_any (λ o. exceeds o x) (xs ++ zs))
    split e (inl k) = inl (any_covers before r x k (exceeds_covers r x e))
    split e (inr k) =
        ⊎_elim
        (λ (c : covers x r ≡ true). absurd (covers_no_excess x r c e))
        (λ (c : list_any (λ o. covers o r) xs ≡ true). inr (any_without (λ o. exceeds o x) xs r zs (λ f. any_exceeds xs r x c f)))
        (or_cases (covers x r) (list_any (λ o. covers o r) xs) k)

    at_test : (b : Bool) → exceeds r x ≡ b → (a || list_any (λ o. exceeds o x) (xs ++ r ∷ zs)) ≡ (a || list_any (λ o. exceeds o x) (xs ++ zs))
    at_test false e = both (list_any (λ o. exceeds o x) (xs ++ r ∷ zs)) (list_any (λ o. exceeds o x) (xs ++ zs)) (inr (any_without (λ o. exceeds o x) xs r zs (λ f. absurd (false≢true (sym e ∙ f)))))
    at_test true e =
        both (list_any (λ o. exceeds o x) (xs ++ r ∷ zs)) (list_any (λ o. exceeds o x) (xs ++ zs))
        (split e (or_cases (list_any (λ o. covers o r) before) (list_any (λ o. covers o r) (x ∷ xs)) (sym (list_any-append (λ o. covers o r) before (x ∷ xs)) ∙ h)))

-- a row that an earlier one covers may be left out
pub strongest_without : (before xs : List Combination) (r : Combination) (zs : List Combination) → list_any (λ o. covers o r) (before ++ xs) ≡ true → strongest before (xs ++ r ∷ zs) ≡ strongest before (xs ++ zs)
strongest_without before [] r zs h = covered_at before r zs (sym (ap (list_any (λ o. covers o r)) (append-nil before)) ∙ h)
strongest_without before (x ∷ xs) r zs h =
    let head : Bool → List Combination = λ b. if b then [] else x ∷ [] in
    let on : list_any (λ o. covers o r) ((before ++ x ∷ []) ++ xs) ≡ true = ap (list_any (λ o. covers o r)) (append_assoc before (x ∷ []) xs) ∙ h in
    ap (λ b. head b ++ strongest (before ++ x ∷ []) (xs ++ r ∷ zs)) (beaten_without before x xs r zs h)
    ∙ ap (λ ys. head (list_any (λ o. covers o x) before || list_any (λ o. exceeds o x) (xs ++ zs)) ++ ys) (strongest_without (before ++ x ∷ []) xs r zs on)

-- rows with the coefficients of one that has variables have variables
covers_has : (o r : Combination) → covers o r ≡ true → has_variables r ≡ true → has_variables o ≡ true
covers_has o r e h =
    ap (λ cs. not (list_all is_zero cs)) (same_lists o.coefficients r.coefficients (and_parts (are_same o.coefficients r.coefficients) (int_le r.constant o.constant) e).0) ∙ h

covered_first : (o : Combination) (rows : List Combination) (r : Combination) → has_variables r ≡ true
    → (list_any (λ x. covers x r) rows ≡ true → list_any (λ x. covers x r) (filter has_variables rows) ≡ true) → (b : Bool) → has_variables o ≡ b → (covers o r ≡ true) ⊎ (list_any (λ x. covers x r) rows ≡ true)
    → list_any (λ x. covers x r) (filter has_variables (o ∷ rows)) ≡ true
covered_first o rows r h more true k (inl c) = rw k (rw c refl)
covered_first o rows r h more true k (inr c) = rw k (or_right (covers o r) (list_any (λ x. covers x r) (filter has_variables rows)) (more c))
covered_first o rows r h more false k (inl c) = absurd (false≢true (sym k ∙ covers_has o r c h))
covered_first o rows r h more false k (inr c) = rw k (more c)

covered_among : (rows : List Combination) (r : Combination) → has_variables r ≡ true → list_any (λ o. covers o r) rows ≡ true → list_any (λ o. covers o r) (filter has_variables rows) ≡ true
covered_among [] r h e = e
covered_among (o ∷ rows) r h e =
    covered_first o rows r h (λ c. covered_among rows r h c) (has_variables o) refl (or_cases (covers o r) (list_any (λ x. covers x r) rows) e)

pub tidied_without_covered : (xs : List Combination) (r : Combination) (zs : List Combination) → has_variables r ≡ true → list_any (λ o. covers o r) xs ≡ true → tidied (xs ++ r ∷ zs) ≡ tidied (xs ++ zs)
tidied_without_covered xs r zs h e =
    let some : filter has_variables (r ∷ zs) ≡ r ∷ filter has_variables zs = rw h refl in
    ap (strongest []) (filter-append has_variables xs (r ∷ zs) ∙ ap (λ ys. filter has_variables xs ++ ys) some)
    ∙ strongest_without [] (filter has_variables xs) r (filter has_variables zs) (covered_among xs r h e)
    ∙ ap (strongest []) (sym (filter-append has_variables xs zs))

pub tidied_without_variables : (xs : List Combination) (r : Combination) (zs : List Combination) → has_variables r ≡ false → tidied (xs ++ r ∷ zs) ≡ tidied (xs ++ zs)
tidied_without_variables xs r zs h =
    let none : filter has_variables (r ∷ zs) ≡ filter has_variables zs = rw h refl in
    ap (strongest []) (filter-append has_variables xs (r ∷ zs) ∙ ap (λ ys. filter has_variables xs ++ ys) none ∙ sym (filter-append has_variables xs zs))

-- a row that is no contradiction may be left out of the search for one
pub contradiction_without : (xs : List Combination) (r : Combination) (zs : List Combination) → (not (has_variables r) && int_lt (pos 0) r.constant) ≡ false → contradiction (xs ++ r ∷ zs) ≡ contradiction (xs ++ zs)
contradiction_without [] r zs h = rw h refl
contradiction_without (x ∷ xs) r zs h = ap (λ o. if not (has_variables x) && int_lt (pos 0) x.constant then Some x.multipliers else o) (contradiction_without xs r zs h)
