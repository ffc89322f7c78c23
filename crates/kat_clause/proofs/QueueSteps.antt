-- What a heap of numbers says of the numbers.
use Rattle.std.proofs.Common.{◌≡◌, ℕ, suc, ◌<◌, ◌≤◌, List, [], ◌∷◌, length, false, ◌⊎◌, inl, inr, ⊎_elim, refl, sym, ap, ◌∙◌, subst, arith, Contains}
use Rattle.std.specs.BinaryHeap.{IsUpperBound}
use Rattle.std.specs.List.Sorted.{IsPermutation}
use Rattle.std.specs.Ordering.{nat_cmp, is_lt}
use Rattle.std.specs.declared.cmp.Reverse.{Reverse}
use Rattle.std.proofs.lemmas.Bool.{cases_lt, false≢true, lt-ltb}
use Rattle.std.proofs.lemmas.List.{length-map}
use Rattle.std.proofs.lemmas.List.Elements.{All-from_recursion, All-contains}
use Rattle.std.proofs.lemmas.List.Sorted.{Contains-permutation, length_permutation}
use Rattle.kat_clause.specs.Queues.{numbers_of, Pushes}
use Rattle.kat_clause.proofs.HintTests.{here, behind, cases_cons, in_nothing}

in_numbers : (items : List (Reverse ℕ)) (r : Reverse ℕ) → Contains items r → Contains (numbers_of items) (r.0)
in_numbers [] r has = absurd (in_nothing r has)
in_numbers (x ∷ xs) r has = ⊎_elim
    (λ (e : x ≡ r). (0, omega arith, ap (λ (y : Reverse ℕ). y.0) e))
    (λ (later : Contains xs r). behind (x.0) (r.0) (numbers_of xs) (in_numbers xs r later))
    (cases_cons x r xs has)

from_numbers : (items : List (Reverse ℕ)) (n : ℕ) → Contains (numbers_of items) n → (r : Reverse ℕ) × Contains items r × (r.0 ≡ n)
from_numbers [] n has = absurd (in_nothing n has)
from_numbers (x ∷ xs) n has = ⊎_elim
    (λ (e : x.0 ≡ n). (x, here x xs, e))
    (λ (later : Contains (numbers_of xs) n). let r = from_numbers xs n later in (r.0, behind x r.0 xs r.1, r.2))
    (cases_cons (x.0) n (numbers_of xs) has)

pub pushed_numbers : (old new : List (Reverse ℕ)) (r : Reverse ℕ) (seen : List ℕ) → numbers_of old ≡ seen → IsPermutation (r ∷ old) new → Pushes (r.0) seen (numbers_of new)
pushed_numbers old new r seen view permutation = record {
  there = in_numbers new r (Contains-permutation (r ∷ old) new r permutation (here r old));
  kept = λ n has.
      let P : List ℕ → Type 0 = λ ns. Contains ns n in
      let x = from_numbers old n (subst P (sym view) has) in
      let Q : ℕ → Type 0 = Contains (numbers_of new) in
      subst Q x.2 (in_numbers new x.0 (Contains-permutation (r ∷ old) new x.0 permutation (behind r x.0 old x.1)));
}

not_less : (a b : ℕ) → is_lt (nat_cmp a b) ≡ false → b ≤ a
not_less a b h = ⊎_elim (λ (l : a < b). absurd (false≢true (sym h ∙ rw (lt-ltb a b l) refl))) (λ (l : b ≤ a). l) (cases_lt a b)

pub popped_numbers : (old new : List (Reverse ℕ)) (r : Reverse ℕ) (seen : List ℕ) → numbers_of old ≡ seen → IsPermutation old (r ∷ new) → IsUpperBound (λ x y. nat_cmp (y.0) (x.0)) r old
    → ((n : ℕ) → Contains seen n → (r.0 ≤ n) × ((r.0 ≡ n) ⊎ Contains (numbers_of new) n)) × (suc (length (numbers_of new)) ≡ length seen)
popped_numbers old new r seen view permutation bound = (
  λ n has.
      let P : List ℕ → Type 0 = λ ns. Contains ns n in
      let x = from_numbers old n (subst P (sym view) has) in
      let all = All-from_recursion (λ (y : Reverse ℕ). is_lt (nat_cmp (y.0) (r.0)) ≡ false) old bound in
      let least : r.0 ≤ (x.0).0 = not_less ((x.0).0) (r.0) (All-contains (λ (y : Reverse ℕ). is_lt (nat_cmp (y.0) (r.0)) ≡ false) old x.0 all x.1) in
      let Q : ℕ → Type 0 = λ m. (r.0 ≤ m) × ((r.0 ≡ m) ⊎ Contains (numbers_of new) m) in
      subst Q x.2 (
        least,
        ⊎_elim
            (λ (e : r ≡ x.0). inl (ap (λ (y : Reverse ℕ). y.0) e))
            (λ (later : Contains new x.0). inr (in_numbers new x.0 later))
            (cases_cons r x.0 new (Contains-permutation old (r ∷ new) x.0 permutation x.1)),
      ),
  let size : length (r ∷ new) ≡ length old = length_permutation old (r ∷ new) permutation in
      let whole : length (numbers_of old) ≡ length seen = ap length view in
      omega (arith, size, whole, length-map old (λ (y : Reverse ℕ). y.0), length-map new (λ (y : Reverse ℕ). y.0)),
)

pub none_numbers : (items : List (Reverse ℕ)) (seen : List ℕ) → numbers_of items ≡ seen → length items ≡ 0 → (n : ℕ) → Contains seen n → ⊥
none_numbers items seen view none n has =
    let whole : length (numbers_of items) ≡ length seen = ap length view in
    omega (arith, whole, none, has.1, length-map items (λ (y : Reverse ℕ). y.0))
