-- Tallies of operations.
use Rattle.std.proofs.Common.{◌≡◌, ℕ, zero, suc, ◌+◌, ◌<◌, max, Bool, true, false, ◌⊎◌, inl, inr, ⊎_elim, List, [], ◌∷◌, ◌++◌, refl, sym, ◌∙◌, ap, subst, cond, arith, Result, Ok, Err}
use Rattle.std.specs.Prelude.{◌==◌, OnOk}
use Rattle.std.specs.declared.cmp.Ordering.{Ordering}
use Rattle.std.specs.declared.cmp.Ordering.TheVariants.{Less, Equal, Greater}
use Rattle.std.specs.Ordering.{is_eq, nat_cmp}
use Rattle.std.proofs.lemmas.Bool.{eqb-true, eq-eqb}
use Rattle.std.proofs.lemmas.Cmp.{nat_cmp_total}
use Rattle.kat_lattice.specs.Keyed.{by_key, on_value, put}
use Rattle.kat_lattice.specs.KeyedLaws.{ascending_put, each_put, by_key_total, keeps_by_key}
use Rattle.kat_lattice.specs.Tallies.{Adds, IsTally, Sums, TalliesKin, nat_equal, sum_of, tallies_joined, tally_joined}
use Rattle.kat_lattice.proofs.MapEdits.{value_put_here, value_put_elsewhere}
use Rattle.kat_lattice.proofs.Readings.{same_sums_same_tally, takes_greater_sums}
use Rattle.kat_type.specs.Unions.{united}
use Rattle.kat_type.specs.declared.done.Done.{Done}
use Rattle.kat_design.specs.Meanings.{Means}
use Rattle.kat_design.specs.Meanings.{tallied}
use Rattle.kat_design.specs.Tallied.{bumped, second_of, share, sum_done, tally_of}
use Rattle.kat_design.proofs.Tallying.{same_sum_done, sum_append, sums_unite}

false_true : false ≡ true → ⊥
false_true e = cc

zero_or : (w : ℕ) → (w ≡ 0) ⊎ (0 < w)
zero_or zero = inl refl
zero_or (suc w) = inr (omega arith)

turned_sum : (a s w : ℕ) → a ≡ s + w → a ≡ w + s
turned_sum a s w e = omega arith

at_the_end : (a s t : ℕ) → t ≡ s + (a + 0) → a + s ≡ t
at_the_end a s t e = omega arith

greater_same : (a b s t : ℕ) → a ≡ s → b ≡ t → max a b ≡ max s t
greater_same a b s t e f = cc

pub not_zero : (w s : ℕ) → (w == 0) ≡ false → 0 < s + w
not_zero w s e = ⊎_elim (λ (z : w ≡ 0). absurd (false_true (sym e ∙ eq-eqb w 0 z))) (λ (p : 0 < w). omega arith) (zero_or w)

put_is : (sums : Sums) (replica v : ℕ) → IsTally sums → 0 < v → IsTally (put (by_key nat_cmp) (on_value second_of) (replica, v) sums)
put_is sums replica v h l =
    let e : ℕ × ℕ = (replica, v) in
    record {
      ascending = ascending_put (by_key nat_cmp) (on_value second_of) (by_key_total nat_cmp_total) (keeps_by_key nat_cmp second_of) e sums h.ascending;
      counted = each_put (by_key nat_cmp) (on_value second_of) (λ (x : ℕ × ℕ). 0 < x.1) (λ x y p q. q) e sums l h.counted;
    }

bumped_from : (sums : Sums) (replica w : ℕ) (b : Bool) → (w == 0) ≡ b → IsTally sums → IsTally (cond b sums (put (by_key nat_cmp) (on_value second_of) (replica, sum_of sums replica + w) sums))
bumped_from sums replica w true e h = h
bumped_from sums replica w false e h = put_is sums replica (sum_of sums replica + w) h (not_zero w (sum_of sums replica) e)

pub bumped_is : (sums : Sums) (replica w : ℕ) → IsTally sums → IsTally (bumped sums replica w)
bumped_is sums replica w h = bumped_from sums replica w (w == 0) refl h

is_equal_or : (o : Ordering) → (o ≡ Equal) ⊎ (is_eq o ≡ false)
is_equal_or Less = inr refl
is_equal_or Equal = inl refl
is_equal_or Greater = inr refl

other_key : (replica key : ℕ) → (replica == key) ≡ false → is_eq (nat_cmp key replica) ≡ false
other_key replica key e =
    ⊎_elim (λ (same : nat_cmp key replica ≡ Equal). absurd (false_true (sym e ∙ eq-eqb replica key (sym (nat_equal key replica same))))) (λ n. n) (is_equal_or (nat_cmp key replica))

nothing_more : (b : Bool) (w s : ℕ) → w ≡ 0 → s ≡ cond b w 0 + s
nothing_more true w s e = omega arith
nothing_more false w s e = omega arith

nothing_before : (s : ℕ) → s ≡ 0 + s
nothing_before s = omega arith

put_sum : (sums : Sums) (replica w key : ℕ) (b : Bool) → (replica == key) ≡ b → IsTally sums
    → sum_of (put (by_key nat_cmp) (on_value second_of) (replica, sum_of sums replica + w) sums) key ≡ cond b w 0 + sum_of sums key
put_sum sums replica w key true e h =
    let same : replica ≡ key = eqb-true replica key e in
    let here : sum_of (put (by_key nat_cmp) (on_value second_of) (replica, sum_of sums replica + w) sums) replica ≡ sum_of sums replica + w = value_put_here nat_cmp_total 0 replica (sum_of sums replica + w) sums h.ascending in
    subst (λ k. sum_of (put (by_key nat_cmp) (on_value second_of) (replica, sum_of sums replica + w) sums) k ≡ w + sum_of sums k) same (turned_sum _ (sum_of sums replica) w here)
put_sum sums replica w key false e h = value_put_elsewhere nat_cmp_total 0 replica key (sum_of sums replica + w) sums (other_key replica key e) ∙ nothing_before (sum_of sums key)

sum_bumped_from : (sums : Sums) (replica w key : ℕ) (b : Bool) → (w == 0) ≡ b → IsTally sums
    → sum_of (cond b sums (put (by_key nat_cmp) (on_value second_of) (replica, sum_of sums replica + w) sums)) key ≡ cond (replica == key) w 0 + sum_of sums key
sum_bumped_from sums replica w key true e h = nothing_more (replica == key) w (sum_of sums key) (eqb-true w 0 e)
sum_bumped_from sums replica w key false e h = put_sum sums replica w key (replica == key) refl h

pub sum_bumped : (sums : Sums) (replica w key : ℕ) → IsTally sums → sum_of (bumped sums replica w) key ≡ cond (replica == key) w 0 + sum_of sums key
sum_bumped sums replica w key h = sum_bumped_from sums replica w key (w == 0) refl h

pub empty_is : IsTally []
empty_is = record { ascending = tt; counted = tt }

pub tally_is : (weight : Done → ℕ) (xs : List Done) → IsTally (tally_of weight xs)
tally_is weight [] = empty_is
tally_is weight (x ∷ xs) = bumped_is (tally_of weight xs) x.replica (weight x) (tally_is weight xs)

pub tally_sum : (weight : Done → ℕ) (xs : List Done) (key : ℕ) → sum_of (tally_of weight xs) key ≡ sum_done weight key xs
tally_sum weight [] key = refl
tally_sum weight (x ∷ xs) key =
    sum_bumped (tally_of weight xs) x.replica (weight x) key (tally_is weight xs) ∙ ap (λ s. share weight key x + s) (tally_sum weight xs key)

pub tallies_kin : (weight : Done → ℕ) (xs ys : List Done) → TalliesKin (tally_of weight xs) (tally_of weight ys)
tallies_kin weight xs ys = record { left = tally_is weight xs; right = tally_is weight ys }

pub tallies_mean : (weight : Done → ℕ) → Means TalliesKin (tallied weight)
tallies_mean weight = record {
  goes = λ xs ys. tallies_kin weight xs ys;
  same = λ xs ys h k same. same_sums_same_tally (tally_of weight xs) (tally_of weight ys) (tallies_kin weight xs ys)
      (λ key. tally_sum weight xs key ∙ same_sum_done weight key xs ys h k (λ one is has. same.0 one has) (λ one is has. same.1 one has) ∙ sym (tally_sum weight ys key));
  adds = λ xs one. same_sums_same_tally (bumped (tally_of weight xs) one.replica (weight one)) (tally_of weight (xs ++ one ∷ []))
      (record { left = bumped_is (tally_of weight xs) one.replica (weight one) (tally_is weight xs); right = tally_is weight (xs ++ one ∷ []) })
      (λ key. sum_bumped (tally_of weight xs) one.replica (weight one) key (tally_is weight xs)
      ∙ ap (λ s. share weight key one + s) (tally_sum weight xs key)
      ∙ at_the_end (share weight key one) (sum_done weight key xs) (sum_done weight key (xs ++ one ∷ [])) (sum_append weight key xs (one ∷ []))
      ∙ sym (tally_sum weight (xs ++ one ∷ []) key));
  unites = λ xs ys h k nested. same_sums_same_tally (tallies_joined (tally_of weight xs) (tally_of weight ys)) (tally_of weight (united xs ys))
      (record { left = tally_joined (tally_of weight xs) (tally_of weight ys) (tally_is weight xs) (tally_is weight ys); right = tally_is weight (united xs ys) })
      (λ key. takes_greater_sums (tally_of weight xs) (tally_of weight ys) (tallies_kin weight xs ys) key
      ∙ greater_same (sum_of (tally_of weight xs) key) (sum_of (tally_of weight ys) key) (sum_done weight key xs) (sum_done weight key ys) (tally_sum weight xs key) (tally_sum weight ys key)
      ∙ sym (sums_unite weight key xs ys h k nested)
      ∙ sym (tally_sum weight (united xs ys) key));
}

more_at : (s w a b : ℕ) → s ≡ a + w → b ≡ a → s ≡ w + b
more_at s w a b e f = omega arith

adds_at : (old new : Sums) (replica weight key : ℕ) (b : Bool) → (replica == key) ≡ b → Adds old replica weight new → sum_of new key ≡ cond b weight 0 + sum_of old key
adds_at old new replica weight key true e adds =
    let same : replica ≡ key = eqb-true replica key e in
    subst (λ k. sum_of new k ≡ weight + sum_of old k) same (turned_sum (sum_of new replica) (sum_of old replica) weight adds.here)
adds_at old new replica weight key false e adds = adds.elsewhere key (other_key replica key e) ∙ nothing_before (sum_of old key)

-- what `bump` says, as an equation
pub adds_is_bumped : (old new : Sums) (replica weight : ℕ) → IsTally old → IsTally new → Adds old replica weight new → new ≡ bumped old replica weight
adds_is_bumped old new replica weight h k adds =
    same_sums_same_tally new (bumped old replica weight) (record { left = k; right = bumped_is old replica weight h })
    (λ key. adds_at old new replica weight key (replica == key) refl adds ∙ sym (sum_bumped old replica weight key h))

pub on_ok_bumped : {T E : Type 0} (r : Result T E) (old new : Sums) (replica weight : ℕ) → IsTally old → IsTally new → OnOk r (Adds old replica weight new) → OnOk r (new ≡ bumped old replica weight)
on_ok_bumped (Ok x) old new replica weight h k adds = adds_is_bumped old new replica weight h k adds
on_ok_bumped (Err e) old new replica weight h k adds = tt
