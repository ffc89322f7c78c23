-- What resolution leaves, and that it follows.
use Rattle.std.proofs.Common.{◌≡◌, ◌≢◌, ℕ, zero, suc, ℤ, pos, negsuc, neg_ℤ, unsigned_abs, List, [], ◌∷◌, ◌++◌, filter, Bool, true, false, not, nat_eq, ◌⊎◌, inl, inr, ⊎_elim, ◌↔◌, refl, sym, ap, ◌∙◌, subst, arith, Contains, eq-eqb}
use Rattle.std.proofs.lemmas.Bool.{false≢true}
use Rattle.std.proofs.lemmas.Bool.Decides.{Decides-int_eq}
use Rattle.std.proofs.lemmas.Cmp.{int_cmp_total, int_eq_equiv, int_ranked}
use Rattle.std.proofs.lemmas.List.Elements.{All-contains, Contains-append_left, Contains-append_right, Contains-append_cases, filter_passes}
use Rattle.std.proofs.lemmas.List.Kept.{Contains-dedup, Contains-from_dedup, IsStrictlySortedBy-dedup}
use Rattle.std.proofs.lemmas.List.Sorted.{Contains-permutation, IsPermutation-sym}
use Rattle.std.proofs.lemmas.Map.Keys.{Less-from_sorted}
use Rattle.std.proofs.Math.IntN.{neg_ℤ-neg_ℤ}
use Rattle.std.specs.List.{dedup}
use Rattle.std.specs.List.Sorted.{IsPermutation, IsSorted}
use Rattle.std.specs.Ordering.{int_cmp, int_eq}
use Rattle.std.specs.declared.cmp.Ordering.TheVariants.{Less}
use Rattle.kat_clause.specs.Clauses.{Derived, Follows}
use Rattle.kat_clause.specs.Clauses.Derived.{denied, forced}
use Rattle.kat_resolution.specs.Resolutions.{Ascends, Clashes, IsResolved, is_of_other}
use Rattle.kat_resolution.proofs.Members.{here, behind, filter_has, filter_within}

-- literals of one variable are the same or opposites
suc_same : (m n : ℕ) → suc m ≡ suc n → m ≡ n
suc_same m n e = omega (arith, e)

one_variable : (k v : ℤ) → unsigned_abs k ≡ unsigned_abs v → (k ≡ v) ⊎ (k ≡ neg_ℤ v)
one_variable (pos m) (pos n) e = inl (ap pos e)
one_variable (pos m) (negsuc n) e = inr (ap pos e)
one_variable (negsuc m) (pos zero) e = absurd (omega (arith, e))
one_variable (negsuc m) (pos (suc n)) e = inr (ap negsuc (suc_same m n e))
one_variable (negsuc m) (negsuc n) e = inl (ap negsuc (suc_same m n e))

abs_opposite : (x : ℤ) → unsigned_abs (neg_ℤ x) ≡ unsigned_abs x
abs_opposite (pos zero) = refl
abs_opposite (pos (suc n)) = refl
abs_opposite (negsuc n) = refl

-- the test for other variables
off_by : (a b : ℕ) → not (nat_eq a b) ≡ true → a ≡ b → ⊥
off_by a b t e = false≢true (sym (ap not (eq-eqb a b e)) ∙ t)

other_is : (v k : ℤ) → is_of_other v k ≡ true → (k ≢ v) × (k ≢ neg_ℤ v)
other_is v k t = (λ e. off_by (unsigned_abs k) (unsigned_abs v) t (ap unsigned_abs e), λ e. off_by (unsigned_abs k) (unsigned_abs v) t (ap unsigned_abs e ∙ abs_opposite v))

on_by : (a b : ℕ) → (a ≡ b → ⊥) → not (nat_eq a b) ≡ true
on_by a b never = grind (arith, never)

is_other : (v k : ℤ) → (k ≢ v) → (k ≢ neg_ℤ v) → is_of_other v k ≡ true
is_other v k apart opposite = on_by (unsigned_abs k) (unsigned_abs v) (λ e. ⊎_elim apart opposite (one_variable k v e))

-- the literals that are left
pub left_are : (first second all sorted : List ℤ) (v k : ℤ) → all ≡ filter (is_of_other v) first ++ filter (is_of_other v) second → IsPermutation all sorted
    → Contains (dedup int_eq sorted) k ↔ IsResolved first second v k
left_are first second all sorted v k is moved = (forth, back)
  where
    from_part : (xs : List ℤ) → Contains (filter (is_of_other v) xs) k → Contains xs k × (k ≢ v) × (k ≢ neg_ℤ v)
    from_part xs h = let other = other_is v k (All-contains (λ (x : ℤ). is_of_other v x ≡ true) (filter (is_of_other v) xs) k (filter_passes (is_of_other v) xs) h) in (filter_within (is_of_other v) xs k h, other.0, other.1)

    forth : Contains (dedup int_eq sorted) k → IsResolved first second v k
    forth h =
        let there : Contains (filter (is_of_other v) first ++ filter (is_of_other v) second) k = subst (λ (xs : List ℤ). Contains xs k) is (Contains-permutation sorted all k (IsPermutation-sym all sorted moved) (Contains-from_dedup int_eq sorted k h)) in
        ⊎_elim
        (λ (a : Contains (filter (is_of_other v) first) k). let r = from_part first a in (inl r.0, r.1, r.2))
        (λ (b : Contains (filter (is_of_other v) second) k). let r = from_part second b in (inr r.0, r.1, r.2))
        (Contains-append_cases (filter (is_of_other v) first) (filter (is_of_other v) second) k there)

    in_all : IsResolved first second v k → Contains (filter (is_of_other v) first ++ filter (is_of_other v) second) k
    in_all h = ⊎_elim
        (λ (a : Contains first k). Contains-append_left (filter (is_of_other v) first) (filter (is_of_other v) second) k (filter_has (is_of_other v) first k a (is_other v k h.1 h.2)))
        (λ (b : Contains second k). Contains-append_right (filter (is_of_other v) first) (filter (is_of_other v) second) k (filter_has (is_of_other v) second k b (is_other v k h.1 h.2)))
        h.0

    back : IsResolved first second v k → Contains (dedup int_eq sorted) k
    back h = Contains-dedup int_eq_equiv (λ x y e. (Decides-int_eq x y).0 e) sorted k (Contains-permutation all sorted k moved (subst (λ (xs : List ℤ). Contains xs k) (sym is) (in_all h)))

-- they ascend
pub left_ascend : (sorted : List ℤ) → IsSorted int_cmp sorted → Ascends (dedup int_eq sorted)
left_ascend sorted order i j d low high = int_ranked _ _ Less (sym (Less-from_sorted int_cmp (dedup int_eq sorted) i j d (IsStrictlySortedBy-dedup int_cmp_total (λ x y. refl) sorted order) low high))

-- a resolvent follows
pub resolvent_follows : (first second left : List ℤ) (v : ℤ) → ((k : ℤ) → Contains left k ↔ IsResolved first second v k) → Clashes first second v → Follows (first ∷ second ∷ []) left
resolvent_follows first second left v is clash = (second, behind first second (second ∷ []) (here second []), each)
  where
    variable : Derived (first ∷ second ∷ []) left v
    variable = forced v first (here first (second ∷ [])) clash.first_has (λ k has apart. denied (neg_ℤ k) k ((is k).1 (inl has, apart, λ e. clash.first_alone (subst (λ (x : ℤ). Contains first x) e has))) refl)

    each : (k : ℤ) → Contains second k → Derived (first ∷ second ∷ []) left (neg_ℤ k)
    each k has = by_test (int_eq k (neg_ℤ v)) refl
      where
        by_test : (b : Bool) → int_eq k (neg_ℤ v) ≡ b → Derived (first ∷ second ∷ []) left (neg_ℤ k)
        by_test true e = subst (λ (x : ℤ). Derived (first ∷ second ∷ []) left x) (sym (ap neg_ℤ ((Decides-int_eq k (neg_ℤ v)).0 e) ∙ neg_ℤ-neg_ℤ v)) variable
        by_test false e = denied (neg_ℤ k) k ((is k).1 (inr has, λ same. clash.second_alone (subst (λ (x : ℤ). Contains second x) same has), λ same. false≢true (sym e ∙ (Decides-int_eq k (neg_ℤ v)).1 same))) refl
