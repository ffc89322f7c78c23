-- Items of a list, and lists in which none occurs twice.
use Rattle.std.proofs.Common.{◌≡◌, ◌≢◌, ℕ, zero, suc, ◌<◌, List, [], ◌∷◌, ◌++◌, length, get_or, Bool, true, false, not, ◌⊎◌, inl, inr, ⊎_elim, refl, sym, ap, ◌∙◌, arith, Contains, filter, Some, eqb, subst}
use Rattle.std.proofs.lemmas.Bool.{eq-eqb, ne_eqb}
use Rattle.std.proofs.lemmas.List.Elements.{Contains-append_left, Contains-append_right, Contains-append_cases}
use Rattle.kat_links.specs.Lists.{head, is_other, IsOnce}

pub here : (x : ℕ) (xs : List ℕ) → Contains (x ∷ xs) x
here x xs = (zero, omega arith, refl)

pub there : (x : ℕ) (xs : List ℕ) (y : ℕ) → Contains xs y → Contains (x ∷ xs) y
there x xs y has = (suc has.0, omega (arith, has.1), has.2)

cons_at : (x : ℕ) (xs : List ℕ) (y k : ℕ) → k < length (x ∷ xs) → get_or (x ∷ xs) k y ≡ y → (x ≡ y) ⊎ Contains xs y
cons_at x xs y zero h e = inl e
cons_at x xs y (suc k) h e = inr (k, omega arith, e)

pub cons_cases : (x : ℕ) (xs : List ℕ) (y : ℕ) → Contains (x ∷ xs) y → (x ≡ y) ⊎ Contains xs y
cons_cases x xs y has = cons_at x xs y has.0 has.1 has.2

pub none_in : (y : ℕ) → Contains [] y → ⊥
none_in y has = absurd (omega (arith, has.1))

pub head_in : (xs : List ℕ) (y : ℕ) → head xs ≡ Some y → Contains xs y
head_in [] y e = absurd (cc)
head_in (x ∷ xs) y e = let same : x ≡ y = cc in subst (Contains (x ∷ xs)) same (here x xs)

split_more : (x : ℕ) (xs : List ℕ) (y : ℕ) → (front : List ℕ) × (back : List ℕ) × (xs ≡ front ++ y ∷ back) → (front : List ℕ) × (back : List ℕ) × (x ∷ xs ≡ front ++ y ∷ back)
split_more x xs y s = (x ∷ s.0, s.1, ap (λ (l : List ℕ). x ∷ l) s.2)

-- where an item is, the list is what is in front of it, itself and what comes after it
pub split_in : (xs : List ℕ) (y : ℕ) → Contains xs y → (front : List ℕ) × (back : List ℕ) × (xs ≡ front ++ y ∷ back)
split_in [] y has = absurd (none_in y has)
split_in (x ∷ xs) y has = ⊎_elim {C = (front : List ℕ) × (back : List ℕ) × (x ∷ xs ≡ front ++ y ∷ back)}
    (λ (e : x ≡ y). ([], xs, ap (λ (z : ℕ). z ∷ xs) e))
    (λ (later : Contains xs y). split_more x xs y (split_in xs y later))
    (cons_cases x xs y has)

pub middle_in : (front : List ℕ) (x : ℕ) (back : List ℕ) → Contains (front ++ x ∷ back) x
middle_in front x back = Contains-append_right front (x ∷ back) x (here x back)

pub behind_in : (front : List ℕ) (x : ℕ) (back : List ℕ) (y : ℕ) → Contains back y → Contains (front ++ x ∷ back) y
behind_in front x back y has = Contains-append_right front (x ∷ back) y (there x back y has)

pub front_in : (front : List ℕ) (x : ℕ) (back : List ℕ) (y : ℕ) → Contains front y → Contains (front ++ x ∷ back) y
front_in front x back y has = Contains-append_left front (x ∷ back) y has

-- one less in the middle
pub less_in : (front : List ℕ) (x : ℕ) (back : List ℕ) (y : ℕ) → Contains (front ++ back) y → Contains (front ++ x ∷ back) y
less_in front x back y has = ⊎_elim (λ (a : Contains front y). front_in front x back y a) (λ (b : Contains back y). behind_in front x back y b) (Contains-append_cases front back y has)

pub once_back : (front : List ℕ) (x : ℕ) (back : List ℕ) → IsOnce (front ++ x ∷ back) → Contains back x → ⊥
once_back [] x back once = once.0
once_back (z ∷ zs) x back once = once_back zs x back once.1

pub once_front : (front : List ℕ) (x : ℕ) (back : List ℕ) → IsOnce (front ++ x ∷ back) → Contains front x → ⊥
once_front [] x back once has = none_in x has
once_front (z ∷ zs) x back once has = ⊎_elim
    (λ (e : z ≡ x). once.0 (subst (Contains (zs ++ x ∷ back)) (sym e) (middle_in zs x back)))
    (λ (later : Contains zs x). once_front zs x back once.1 later)
    (cons_cases z zs x has)

pub once_less : (front : List ℕ) (x : ℕ) (back : List ℕ) → IsOnce (front ++ x ∷ back) → IsOnce (front ++ back)
once_less [] x back once = once.1
once_less (z ∷ zs) x back once = (λ has. once.0 (less_in zs x back z has), once_less zs x back once.1)

pub other_same : (x : ℕ) → is_other x x ≡ false
other_same x = ap not (eq-eqb x x refl)

pub other_not : (x y : ℕ) → y ≢ x → is_other x y ≡ true
other_not x y ne = ap not (ne_eqb y x ne)

pub other_is : (x y : ℕ) → is_other x y ≡ true → y ≢ x
other_is x y e same = let was : eqb y x ≡ true = eq-eqb y x same in let both : not true ≡ true = rw was at e in absurd (cc)

-- without an item that isn't there
pub filter_none : (x : ℕ) (xs : List ℕ) → (Contains xs x → ⊥) → filter (is_other x) xs ≡ xs
filter_none x [] not_in = refl
filter_none x (y ∷ ys) not_in =
    let differs : y ≢ x = λ e. not_in (subst (Contains (y ∷ ys)) e (here y ys)) in
    rw (other_not x y differs) (ap (λ (l : List ℕ). y ∷ l) (filter_none x ys (λ has. not_in (there y ys x has))))

-- without the item in the middle
pub filter_middle : (front : List ℕ) (x : ℕ) (back : List ℕ) → IsOnce (front ++ x ∷ back) → filter (is_other x) (front ++ x ∷ back) ≡ front ++ back
filter_middle [] x back once = rw (other_same x) (filter_none x back once.0)
filter_middle (z ∷ zs) x back once =
    let differs : z ≢ x = λ e. once.0 (subst (Contains (zs ++ x ∷ back)) (sym e) (middle_in zs x back)) in
    rw (other_not x z differs) (ap (λ (l : List ℕ). z ∷ l) (filter_middle zs x back once.1))

filter_step : (x y : ℕ) (ys : List ℕ) (z : ℕ) (b : Bool) → b ≡ is_other x y
    → (Contains (filter (is_other x) ys) z → Contains ys z × (z ≢ x)) → Contains (filter (is_other x) (y ∷ ys)) z → Contains (y ∷ ys) z × (z ≢ x)
filter_step x y ys z true e more has =
    let kept : Contains (y ∷ filter (is_other x) ys) z = rw (sym e) at has in
    ⊎_elim {C = Contains (y ∷ ys) z × (z ≢ x)}
    (λ (same : y ≡ z). (subst (Contains (y ∷ ys)) same (here y ys), λ f. other_is x y (sym e) (same ∙ f)))
    (λ (later : Contains (filter (is_other x) ys) z). let m = more later in (there y ys z m.0, m.1))
    (cons_cases y (filter (is_other x) ys) z kept)
filter_step x y ys z false e more has =
    let kept : Contains (filter (is_other x) ys) z = rw (sym e) at has in
    let m = more kept in (there y ys z m.0, m.1)

-- what is left without an item
pub filter_in : (x : ℕ) (xs : List ℕ) (z : ℕ) → Contains (filter (is_other x) xs) z → Contains xs z × (z ≢ x)
filter_in x [] z has = absurd (none_in z has)
filter_in x (y ∷ ys) z has = filter_step x y ys z (is_other x y) refl (filter_in x ys z) has

keep_step : (x y : ℕ) (ys : List ℕ) (z : ℕ) (b : Bool) → b ≡ is_other x y → z ≢ x
    → (Contains ys z → Contains (filter (is_other x) ys) z) → Contains (y ∷ ys) z → Contains (filter (is_other x) (y ∷ ys)) z
keep_step x y ys z true e differs more has =
    let R : Contains (y ∷ filter (is_other x) ys) z = ⊎_elim
    (λ (same : y ≡ z). subst (Contains (y ∷ filter (is_other x) ys)) same (here y (filter (is_other x) ys)))
    (λ (later : Contains ys z). there y (filter (is_other x) ys) z (more later))
    (cons_cases y ys z has) in
    rw (sym e) R
keep_step x y ys z false e differs more has =
    let R : Contains (filter (is_other x) ys) z = ⊎_elim
    (λ (same : y ≡ z). absurd (let t : true ≡ false = sym (other_not x y (λ f. differs (sym same ∙ f))) ∙ sym e in cc))
    (λ (later : Contains ys z). more later)
    (cons_cases y ys z has) in
    rw (sym e) R

pub filter_keeps : (x : ℕ) (xs : List ℕ) (z : ℕ) → z ≢ x → Contains xs z → Contains (filter (is_other x) xs) z
filter_keeps x [] z differs has = absurd (none_in z has)
filter_keeps x (y ∷ ys) z differs has = keep_step x y ys z (is_other x y) refl differs (filter_keeps x ys z differs) has
