-- Sums that grow within the limit are those of a state file.
use Rattle.std.proofs.Common.{◌≡◌, ℕ, ◌+◌, ◌^◌, ◌<◌, ◌≤◌, Bool, true, false, cond, List, [], ◌∷◌, refl, sym, ap, ◌∙◌, ⊎_elim, arith, Option, None, Some}
use Rattle.std.specs.Prelude.{◌==◌, max, option_map}
use Rattle.std.specs.List.{AllByRecursion}
use Rattle.std.specs.Ordering.{is_eq, match_ordering, nat_cmp}
use Rattle.std.specs.declared.cmp.Ordering.{Ordering}
use Rattle.std.specs.declared.cmp.Ordering.TheVariants.{Less, Equal, Greater}
use Rattle.std.proofs.lemmas.Bool.{cases_Bool, eq-eqb, eqb-true, ltb-false}
use Rattle.std.proofs.lemmas.Cmp.{by_ranked, nat_cmp_total, ranked}
use Rattle.kat_num.specs.Orders.{value_order}
use Rattle.kat_num.specs.declared.values.Sort.{Sort}
use Rattle.kat_num.specs.declared.values.Value.{Value}
use Rattle.kat_lattice.specs.Keyed.{by_key, found_by, on_value, put, value_or}
use Rattle.kat_lattice.specs.KeyedLaws.{ascending_put, ascending_union, by_key_total, each_union, keeps_by_key}
use Rattle.kat_lattice.specs.Maps.{at_key, maps_joined}
use Rattle.kat_lattice.specs.Tallies.{Sums, sum_of, tallies_joined}
use Rattle.kat_type.specs.declared.done.Done.{Done}
use Rattle.kat_design.specs.Denotations.{key_given, weight_of}
use Rattle.kat_design.specs.KeyedTallies.{bumped_at, single}
use Rattle.kat_design.specs.Sorted.{EachHas}
use Rattle.kat_design.specs.Tallied.{bumped, second_of}
use Rattle.kat_design.specs.declared.designs.Leaf.{Leaf}
use Rattle.kat_design.proofs.Tallies.{not_zero}
use Rattle.kat_node.specs.Nodes.{AreSums, IsEntry, IsKey, IsSum}
use Rattle.kat_step.specs.Limits.{tallies_pass, tally_passes}
use Rattle.kat_step.specs.declared.steps.TheConstants.{SUM_LIMIT}

not_below : (a b : ℕ) → a < b → a ≡ b → ⊥
not_below a b l e = omega arith

differs : (a b : ℕ) → (a ≡ b → ⊥) → (a == b) ≡ false
differs a b other = ⊎_elim (λ t. absurd (other (eqb-true a b t))) (λ f. f) (cases_Bool (a == b))

-- replicas that compare equal are one
pub sum_key : (a b : ℕ) → is_eq (nat_cmp a b) ≡ (a == b)
sum_key a b =
    by_ranked (a < b) (a ≡ b) (b < a) (nat_cmp a b) (ranked a b (nat_cmp a b) refl) (λ e l. ap is_eq e ∙ sym (differs a b (λ same. not_below a b l same)))
    (λ e l. ap is_eq e ∙ sym (eq-eqb a b l)) (λ e l. ap is_eq e ∙ sym (differs a b (λ same. not_below b a l (sym same))))

-- an entry that is put in, or onto the one with its key
pub put_has : {E : Type 0} (cmp : E → E → Ordering) (onto : E → E → E) (P : E → Type 0) (e : E) → P e → ((x : E) → P x → P (onto x e)) → (xs : List E) → EachHas P xs → EachHas P (put cmp onto e xs)
put_has cmp onto P e h on [] each = (h, tt)
put_has cmp onto P e h on (x ∷ xs) each =
    elim (cmp e x) as (λ r. EachHas P (match_ordering r (e ∷ x ∷ xs) (onto x e ∷ xs) (x ∷ put cmp onto e xs))) [
      | Less ↦ (h, each)
      | Equal ↦ (on x each.0, each.1)
      | Greater ↦ (each.0, put_has cmp onto P e h on xs each.1)
    ]

by_recursion : {A : Type 0} (P : A → Type 0) (xs : List A) → EachHas P xs → AllByRecursion P xs
by_recursion P [] each = tt
by_recursion P (x ∷ xs) each = (each.0, by_recursion P xs each.1)

from_recursion : {A : Type 0} (P : A → Type 0) (xs : List A) → AllByRecursion P xs → EachHas P xs
from_recursion P [] each = tt
from_recursion P (x ∷ xs) each = (each.0, from_recursion P xs each.1)

sum_over : (x e : ℕ × ℕ) → IsSum x → IsSum e → IsSum (on_value second_of x e)
sum_over x e h k = record { least_replica = h.least_replica; most_replica = h.most_replica; least = k.least; most = k.most }

bumped_by : (sums : Sums) (replica w : ℕ) (b : Bool) → (w == 0) ≡ b → AreSums sums → 1 ≤ replica → replica ≤ 32 → sum_of sums replica + w ≤ 10 ^ 18
    → AreSums (cond b sums (put (by_key nat_cmp) (on_value second_of) (replica, sum_of sums replica + w) sums))
bumped_by sums replica w true e h low high most = h
bumped_by sums replica w false e h low high most =
    let new : IsSum (replica, sum_of sums replica + w) =
    record { least_replica = low; most_replica = high; least = (let some = not_zero w (sum_of sums replica) e in omega (arith, some)); most = most } in
    record {
      ascending = ascending_put (by_key nat_cmp) (on_value second_of) (by_key_total nat_cmp_total) (keeps_by_key nat_cmp second_of) (replica, sum_of sums replica + w) sums h.ascending;
      each = put_has (by_key nat_cmp) (on_value second_of) IsSum (replica, sum_of sums replica + w) new (λ x k. sum_over x (replica, sum_of sums replica + w) k new) sums h.each;
    }

bumped_are : (sums : Sums) (replica w : ℕ) → AreSums sums → 1 ≤ replica → replica ≤ 32 → sum_of sums replica + w ≤ 10 ^ 18 → AreSums (bumped sums replica w)
bumped_are sums replica w h low high most = bumped_by sums replica w (w == 0) refl h low high most

-- a tally
pub tally_kept : (effect : Option Leaf) (sums : Sums) (done : Done) → AreSums sums → 1 ≤ done.replica → done.replica ≤ 32 → tally_passes effect sums done ≡ false
    → AreSums (bumped sums done.replica (weight_of effect done))
tally_kept None sums done h low high within = h
tally_kept (Some leaf) sums done h low high within =
    bumped_are sums done.replica (weight_of (Some leaf) done) h low high (ltb-false SUM_LIMIT (sum_of sums done.replica + weight_of (Some leaf) done) within)

-- tallies by key
sum_joined : (x y : ℕ × ℕ) → IsSum x → IsSum y → IsSum (on_value max x y)
sum_joined x y h k = record {
  least_replica = h.least_replica;
  most_replica = h.most_replica;
  least = (let a = h.least in omega (arith, a));
  most = (let a = h.most in let b = k.most in omega (arith, a, b));
}

sums_joined : (xs ys : Sums) → AreSums xs → AreSums ys → AreSums (tallies_joined xs ys)
sums_joined xs ys h k = record {
  ascending = ascending_union (by_key nat_cmp) (on_value max) (by_key_total nat_cmp_total) (keeps_by_key nat_cmp max) xs ys h.ascending;
  each = from_recursion IsSum (tallies_joined xs ys) (each_union (by_key nat_cmp) (on_value max) IsSum sum_joined xs ys (by_recursion IsSum xs h.each) (by_recursion IsSum ys k.each));
}

pub found_has : {K V : Type 0} (P : V → Type 0) (start : V) (compare : K × V → Ordering) (es : List (K × V)) → P start → EachHas (λ (e : K × V). P e.1) es → P (value_or start (found_by compare es))
found_has P start compare [] s each = s
found_has {K} {V} P start compare (e ∷ es) s each =
    elim (is_eq (compare e)) as (λ b. P (value_or start (cond b (Some e) (found_by compare es)))) [ true ↦ each.0 | false ↦ found_has P start compare es s each.1 ]

values_have : (key : Sort) (es : List (Value × Sums)) → EachHas (IsEntry key AreSums) es → EachHas (λ (e : Value × Sums). AreSums e.1) es
values_have key [] each = tt
values_have key (e ∷ es) each = (each.0.1, values_have key es each.1)

no_sums : AreSums []
no_sums = record { ascending = tt; each = tt }

pub at_key_sums : (key : Sort) (entries : List (Value × Sums)) (k : Value) → EachHas (IsEntry key AreSums) entries → AreSums (at_key value_order (record { start = []; entries = entries }) k)
at_key_sums key entries k each = found_has AreSums [] (λ (e : Value × Sums). value_order k e.0) entries no_sums (values_have key entries each)

bumped_entries : (key : Sort) (entries : List (Value × Sums)) (k : Value) (replica w : ℕ) (b : Bool) → (w == 0) ≡ b → EachHas (IsEntry key AreSums) entries → IsKey key k → 1 ≤ replica → replica ≤ 32
    → sum_of (at_key value_order (record { start = []; entries = entries }) k) replica + w ≤ 10 ^ 18
    → EachHas (IsEntry key AreSums) (cond b (record { start = []; entries = entries }) (maps_joined value_order tallies_joined (record { start = []; entries = entries }) (single k (bumped (at_key value_order (record { start = []; entries = entries }) k) replica w)))).entries
bumped_entries key entries k replica w true e each is low high most = each
bumped_entries key entries k replica w false e each is low high most =
    let new = bumped_are (at_key value_order (record { start = []; entries = entries }) k) replica w (at_key_sums key entries k each) low high most in
    put_has (by_key value_order) (on_value tallies_joined) (IsEntry key AreSums) (k, bumped (at_key value_order (record { start = []; entries = entries }) k) replica w) (is, new)
    (λ x h. (h.0, sums_joined x.1 (bumped (at_key value_order (record { start = []; entries = entries }) k) replica w) h.1 new)) entries each

pub tallies_kept : (key : Sort) (effect : Option (ℕ × Leaf)) (entries : List (Value × Sums)) (done : Done) → EachHas (IsEntry key AreSums) entries → 1 ≤ done.replica → done.replica ≤ 32
    → ((found : ℕ × Leaf) → effect ≡ Some found → IsKey key (key_given (Some found) done)) → tallies_pass effect (record { start = []; entries = entries }) done ≡ false
    → EachHas (IsEntry key AreSums) (bumped_at value_order (record { start = []; entries = entries }) (key_given effect done) done.replica (weight_of (option_map (λ (e : ℕ × Leaf). e.1) effect) done)).entries
tallies_kept key None entries done each low high keyed within = each
tallies_kept key (Some effect) entries done each low high keyed within =
    bumped_entries key entries (key_given (Some effect) done) done.replica (weight_of (Some effect.1) done) (weight_of (Some effect.1) done == 0) refl each (keyed effect refl) low high
    (ltb-false SUM_LIMIT _ within)
