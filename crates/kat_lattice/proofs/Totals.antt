-- What one more weight makes of the total of a tally.
use Rattle.std.proofs.Common.{◌≡◌, ◌⊎◌, inl, inr, ℕ, zero, suc, ◌+◌, ◌<◌, [], ◌∷◌, None, refl, sym, ◌∙◌, ap, arith}
use Rattle.std.specs.declared.cmp.Ordering.{Ordering}
use Rattle.std.specs.declared.cmp.Ordering.TheVariants.{Less, Equal, Greater}
use Rattle.std.specs.Ordering.{is_eq, nat_cmp}
use Rattle.std.specs.Prelude.{false}
use Rattle.std.proofs.lemmas.Cmp.{nat_cmp_total}
use Rattle.std.proofs.lemmas.List.Sums.{sum_by-cons}
use Rattle.kat_join.specs.Keyed.{IsAscending, found, by_key, value_or}
use Rattle.kat_join.specs.KeyedLaws.{Compared, less, same, greater, compared, before_all, by_key_total, found_before}
use Rattle.kat_lattice.specs.Readings.{TotalsGrow}
use Rattle.kat_lattice.specs.Tallies.{Sums, Adds, IsTally, sum_of, total_of, nat_equal}
use Rattle.kat_lattice.proofs.MapEdits.{with_value, value_put_here, value_put_elsewhere}
use Rattle.kat_lattice.proofs.Readings.{same_sums_same_tally}
use Rattle.kat_lattice.proofs.Sums.{tally_put}

total_cons : (x : ℕ × ℕ) (xs : Sums) → total_of (x ∷ xs) ≡ x.1 + total_of xs
total_cons x xs = sum_by-cons (λ (e : ℕ × ℕ). e.1) x xs

total_put_at : (r v : ℕ) (x : ℕ × ℕ) (xs : Sums) → Compared (by_key nat_cmp) (r, v) x → IsAscending (by_key nat_cmp) (x ∷ xs) → total_of (with_value nat_cmp r v xs) + sum_of xs r ≡ total_of xs + v → total_of (with_value nat_cmp r v (x ∷ xs)) + sum_of (x ∷ xs) r ≡ total_of (x ∷ xs) + v
total_put_at r v x xs (less p q) asc ih =
    let e : ℕ × ℕ = (r, v) in
    let none : found (by_key nat_cmp) (r, 0) (x ∷ xs) ≡ None = found_before (by_key nat_cmp) (r, 0) (x ∷ xs) (p, before_all (by_key_total nat_cmp_total) (r, 0) x xs p asc.0) in
    let zero_sum : sum_of (x ∷ xs) r ≡ 0 = ap (value_or 0) none in
    let put_first : with_value nat_cmp r v (x ∷ xs) ≡ e ∷ x ∷ xs = rw p refl in
    let whole : total_of (with_value nat_cmp r v (x ∷ xs)) ≡ v + total_of (x ∷ xs) = ap total_of put_first ∙ total_cons e (x ∷ xs) in
    omega arith
total_put_at r v x xs (same p q) asc ih =
    let e : ℕ × ℕ = (x.0, v) in
    let here : sum_of (x ∷ xs) r ≡ x.1 = rw p refl in
    let put_here : with_value nat_cmp r v (x ∷ xs) ≡ e ∷ xs = rw p refl in
    let whole : total_of (with_value nat_cmp r v (x ∷ xs)) ≡ v + total_of xs = ap total_of put_here ∙ total_cons e xs in
    let all : total_of (x ∷ xs) ≡ x.1 + total_of xs = total_cons x xs in
    omega arith
total_put_at r v x xs (greater p q) asc ih =
    let rest = with_value nat_cmp r v xs in
    let behind : sum_of (x ∷ xs) r ≡ sum_of xs r = rw p refl in
    let put_behind : with_value nat_cmp r v (x ∷ xs) ≡ x ∷ rest = rw p refl in
    let whole : total_of (with_value nat_cmp r v (x ∷ xs)) ≡ x.1 + total_of rest = ap total_of put_behind ∙ total_cons x rest in
    let all : total_of (x ∷ xs) ≡ x.1 + total_of xs = total_cons x xs in
    omega arith

total_put : (r v : ℕ) (xs : Sums) → IsAscending (by_key nat_cmp) xs → total_of (with_value nat_cmp r v xs) + sum_of xs r ≡ total_of xs + v
total_put r v [] asc = omega arith
total_put r v (x ∷ xs) asc = total_put_at r v x xs (compared (by_key_total nat_cmp_total) (r, v) x) asc (total_put r v xs asc.1)

which_by : (k replica : ℕ) (o : Ordering) → nat_cmp k replica ≡ o → (k ≡ replica) ⊎ (is_eq (nat_cmp k replica) ≡ false)
which_by k replica Less e = inr (ap is_eq e)
which_by k replica Equal e = inl (nat_equal k replica e)
which_by k replica Greater e = inr (ap is_eq e)

which : (k replica : ℕ) → (k ≡ replica) ⊎ (is_eq (nat_cmp k replica) ≡ false)
which k replica = which_by k replica (nat_cmp k replica) refl

add_nothing : (n : ℕ) → n + 0 ≡ n
add_nothing n = omega arith

grows_none : (old new : Sums) (replica : ℕ) → IsTally old → IsTally new → Adds old replica 0 new → new ≡ old
grows_none old new replica h k adds =
    same_sums_same_tally new old (record { left = k; right = h }) (λ r.
    elim (which r replica) as (λ _. sum_of new r ≡ sum_of old r) [
      | inl e ↦ (let here : sum_of new replica ≡ sum_of old replica + 0 = adds.here in
          ap (sum_of new) e ∙ (here ∙ (add_nothing (sum_of old replica) ∙ ap (sum_of old) (sym e))))
      | inr n ↦ adds.elsewhere r n
    ])

grows_some : (old new : Sums) (replica weight : ℕ) → 0 < weight → IsTally old → IsTally new → Adds old replica weight new → new ≡ with_value nat_cmp replica (sum_of old replica + weight) old
grows_some old new replica weight l h k adds =
    let v = sum_of old replica + weight in
    let put = with_value nat_cmp replica v old in
    let tally : IsTally put = tally_put old replica v put h (omega arith) refl in
    same_sums_same_tally new put (record { left = k; right = tally }) (λ r.
    elim (which r replica) as (λ _. sum_of new r ≡ sum_of put r) [
      | inl e ↦ ap (sum_of new) e ∙ (adds.here ∙ (sym (value_put_here nat_cmp_total 0 replica v old h.ascending) ∙ ap (sum_of put) (sym e)))
      | inr n ↦ adds.elsewhere r n ∙ sym (value_put_elsewhere nat_cmp_total 0 replica r v old n)
    ])

pub totals_grow : TotalsGrow
totals_grow old new replica zero h k adds =
    let same_list : total_of new ≡ total_of old = ap total_of (grows_none old new replica h k adds) in
    omega arith
totals_grow old new replica (suc weight) h k adds =
    let v = sum_of old replica + suc weight in
    let list : total_of new ≡ total_of (with_value nat_cmp replica v old) = ap total_of (grows_some old new replica (suc weight) (omega arith) h k adds) in
    let whole : total_of (with_value nat_cmp replica v old) + sum_of old replica ≡ total_of old + v = total_put replica v old h.ascending in
    omega arith
