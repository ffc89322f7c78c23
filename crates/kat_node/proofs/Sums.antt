-- Sums without a fault are those of a tally, and keys without one those of a set.
use Rattle.std.proofs.Common.{◌≡◌, ℕ, zero, suc, ◌+◌, ◌<◌, ℤ, pos, negsuc, Bool, true, List, [], ◌∷◌, ◌++◌, length, map, get_or, sym, ap, ◌∙◌, Option, Some, None, subst, arith}
use Rattle.std.specs.Prelude.{◌^◌, ◌≤ℤ◌, int_le, not}
use Rattle.std.proofs.lemmas.Int.{ints}
use Rattle.std.proofs.lemmas.Cmp.{int_cmp_total}
use Rattle.std.specs.declared.cmp.Ordering.TheVariants.{Less}
use Rattle.std.specs.List.{AllByRecursion}
use Rattle.std.specs.Ordering.{int_cmp, is_lt, nat_cmp, on}
use Rattle.kat_num.proofs.NameCodes.{and_parts}
use Rattle.kat_lattice.specs.Keyed.{IsAscending, IsBefore, by_key}
use Rattle.kat_lattice.specs.Tallies.{IsTally}
use Rattle.kat_design.specs.Denotations.{natural}
use Rattle.kat_design.specs.Designs.{ComponentForm}
use Rattle.kat_design.specs.Faults.{Path, each_faults, here_if, within}
use Rattle.kat_design.specs.Sorted.{EachHas}
use Rattle.kat_design.proofs.Accepted.{none_left, none_right}
use Rattle.kat_json.proofs.Backwards.{here_back, within_back}
use Rattle.kat_node.specs.Possible.{IsSaidSum, element_faults, possible_faults, follows, is_between, range_faults, replicas_ascend, sum_entry_faults, sum_made, sums_faults, with_last}
use Rattle.kat_node.specs.declared.stated.NodeStated.{NodeStated}
use Rattle.kat_node.proofs.Judged.{AreLess, ascending, first_none, less_back, not_back, rest_none}

pub le_back : (a b : ℤ) → int_le a b ≡ true → a ≤ℤ b
le_back a b h = grind (arith, ints)

pub range_back : (low high : ℕ) (z : ℤ) → range_faults low high z ≡ [] → (pos low ≤ℤ z) × (z ≤ℤ pos high)
range_back low high z none =
    let both = and_parts (int_le (pos low) z) (int_le z (pos high)) (not_back (is_between z low high) (here_back (not (is_between z low high)) none)) in
    (le_back (pos low) z both.0, le_back z (pos high) both.1)

sum_back : (sum : ℤ × ℤ) → sum_entry_faults sum ≡ [] → IsSaidSum sum
sum_back sum none =
    let one = range_back 1 32 sum.0 (within_back 0 (range_faults 1 32 sum.0) (none_left (within 0 (range_faults 1 32 sum.0)) (within 1 (range_faults 1 (10 ^ 18) sum.1)) none)) in
    let two = range_back 1 (10 ^ 18) sum.1 (within_back 1 (range_faults 1 (10 ^ 18) sum.1) (none_right (within 0 (range_faults 1 32 sum.0)) (within 1 (range_faults 1 (10 ^ 18) sum.1)) none)) in
    record { least_replica = one.0; most_replica = one.1; least = two.0; most = two.1 }

-- each element by itself has no fault
pub elements_none : {K E : Type 0} (ascend : K → K → Bool) (key : E → K) (f : E → List Path) (i : ℕ) (last : Option K) (xs : List E)
    → each_faults (element_faults ascend key f) i (with_last key last xs) ≡ [] → EachHas (λ x. f x ≡ []) xs
elements_none ascend key f i last [] none = tt
elements_none ascend key f i last (x ∷ xs) none = (
  none_right (here_if (not (follows ascend last (key x)))) (f x) (first_none (element_faults ascend key f) i (last, x) (with_last key (Some (key x)) xs) none),
  elements_none ascend key f (i + 1) (Some (key x)) xs (rest_none (element_faults ascend key f) i (last, x) (with_last key (Some (key x)) xs) none),
)

each_sum : (xs : List (ℤ × ℤ)) → EachHas (λ x. sum_entry_faults x ≡ []) xs → EachHas IsSaidSum xs
each_sum [] each = tt
each_sum (x ∷ xs) each = (sum_back x each.0, each_sum xs each.1)

pub sums_back : (xs : List (ℤ × ℤ)) → sums_faults xs ≡ [] → EachHas IsSaidSum xs
sums_back xs none = each_sum xs (elements_none replicas_ascend (λ (sum : ℤ × ℤ). sum.0) sum_entry_faults 0 None xs none)

pub less_alike : (m n : ℕ) → is_lt (int_cmp (pos m) (pos n)) ≡ is_lt (nat_cmp m n)
less_alike m n = grind (arith, ints)

natural_less : (a b : ℤ) → pos 1 ≤ℤ a → pos 1 ≤ℤ b → int_cmp a b ≡ Less → nat_cmp (natural a) (natural b) ≡ Less
natural_less (pos m) (pos n) some more h = less_back (nat_cmp m n) (sym (less_alike m n) ∙ ap is_lt h)
natural_less (pos m) (negsuc n) some more h = absurd (omega (arith, ints))
natural_less (negsuc m) b some more h = absurd (omega (arith, ints))

before_made : (x : ℤ × ℤ) (xs : List (ℤ × ℤ)) → IsSaidSum x → EachHas IsSaidSum xs → IsBefore (on (λ (sum : ℤ × ℤ). sum.0) int_cmp) x xs → IsBefore (by_key nat_cmp) (sum_made x) (map sum_made xs)
before_made x [] is each before = tt
before_made x (y ∷ ys) is each before = (natural_less x.0 y.0 is.least_replica each.0.least_replica before.0, before_made x ys is each.1 before.1)

ascending_made : (xs : List (ℤ × ℤ)) → EachHas IsSaidSum xs → IsAscending (on (λ (sum : ℤ × ℤ). sum.0) int_cmp) xs → IsAscending (by_key nat_cmp) (map sum_made xs)
ascending_made [] each up = tt
ascending_made (x ∷ xs) each up = (before_made x xs each.0 each.1 up.0, ascending_made xs each.1 up.1)

natural_some : (z : ℤ) → pos 1 ≤ℤ z → 0 < natural z
natural_some (pos n) some = omega (arith, ints)
natural_some (negsuc n) some = absurd (omega (arith, ints))

counted_made : (xs : List (ℤ × ℤ)) → EachHas IsSaidSum xs → AllByRecursion (λ (e : ℕ × ℕ). 0 < e.1) (map sum_made xs)
counted_made [] each = tt
counted_made (x ∷ xs) each = (natural_some x.1 each.0.least, counted_made xs each.1)

replicas_less : AreLess int_cmp replicas_ascend (λ (sum : ℤ × ℤ). sum.0) sum_entry_faults
replicas_less a b first second h = less_back (int_cmp a.0 b.0) h

pub tally_back : (xs : List (ℤ × ℤ)) → sums_faults xs ≡ [] → IsTally (map sum_made xs)
tally_back xs none =
    let each = sums_back xs none in
    record { ascending = ascending_made xs each (ascending int_cmp_total replicas_ascend (λ (sum : ℤ × ℤ). sum.0) sum_entry_faults replicas_less xs none); counted = counted_made xs each }

pub each_at : {A : Type 0} (P : A → Type 0) (xs : List A) (i : ℕ) (x : A) → EachHas P xs → i < length xs → x ≡ get_or xs i x → P x
each_at P [] i x each inside is = absurd (omega arith)
each_at P (y ∷ xs) zero x each inside is = subst (λ z. P z) (sym is) each.0
each_at P (y ∷ xs) (suc i) x each inside is = each_at P xs i x each.1 (omega arith) is

-- the number and the clock of a file without a fault
pub number_back : (components : List ComponentForm) (node : NodeStated) → possible_faults components node ≡ [] → (pos 1 ≤ℤ node.number) × (node.number ≤ℤ pos 32)
number_back components node none =
    let f = within 2 (range_faults 1 32 node.number) in
    let g = within 3 (range_faults 0 (10 ^ 9) node.clock) in
    range_back 1 32 node.number (within_back 2 (range_faults 1 32 node.number) (none_left f g (none_left (f ++ g) _ none)))

pub clock_back : (components : List ComponentForm) (node : NodeStated) → possible_faults components node ≡ [] → (pos 0 ≤ℤ node.clock) × (node.clock ≤ℤ pos (10 ^ 9))
clock_back components node none =
    let f = within 2 (range_faults 1 32 node.number) in
    let g = within 3 (range_faults 0 (10 ^ 9) node.clock) in
    range_back 0 (10 ^ 9) node.clock (within_back 3 (range_faults 0 (10 ^ 9) node.clock) (none_right f g (none_left (f ++ g) _ none)))
