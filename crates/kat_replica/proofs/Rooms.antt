-- There is room for one more weight in each sum.
use Rattle.std.proofs.Common.{◌≡◌, ℕ, ◌+◌, ◌-◌, ◌^◌, ◌≤◌, Bool, true, false, List, [], ◌∷◌, Option, None, Some, refl, sym, ◌∙◌, ap, subst, cond, arith, ⊎_elim}
use Rattle.std.specs.Prelude.{nat_le, ◌&&◌, ◌==◌, ◌≢◌, if◌then◌else◌}
use Rattle.std.specs.List.{list_all}
use Rattle.std.specs.Ordering.{is_eq, nat_cmp}
use Rattle.std.specs.declared.cmp.Ordering.{Ordering}
use Rattle.std.proofs.lemmas.Bool.{cases_Bool, eqb-true}
use Rattle.std.proofs.lemmas.Bool.Decides.{nat_tests}
use Rattle.kat_num.specs.Orders.{value_order}
use Rattle.kat_num.specs.declared.values.Value.{Value}
use Rattle.kat_num.specs.declared.values.TheConstants.{NUMBER_LIMIT}
use Rattle.kat_lattice.specs.Keyed.{found_by, value_or}
use Rattle.kat_lattice.specs.Maps.{Table, at_key}
use Rattle.kat_lattice.specs.Tallies.{Sums, sum_of}
use Rattle.kat_design.specs.Denotations.{tally_weight, weight_of}
use Rattle.kat_design.specs.Effects.{effect_of}
use Rattle.kat_design.specs.Small.{is_roomy, room}
use Rattle.kat_design.specs.Tallied.{bumped}
use Rattle.kat_design.specs.declared.designs.Leaf.{Leaf}
use Rattle.kat_type.specs.declared.done.Done.{Done}

pub both_true : (a b : Bool) → (a && b) ≡ true → (a ≡ true) × (b ≡ true)
both_true true true e = (refl, refl)
both_true true false e = absurd (cc)
both_true false b e = absurd (cc)

-- a test that each entry passes is passed by the value at each key, if the start passes it
chosen : {K V : Type 0} (test : V → Bool) (start : V) (b : Bool) (x : K × V) (rest : Option (K × V)) → test x.1 ≡ true → test (value_or start rest) ≡ true → test (value_or start (if b then Some x else rest)) ≡ true
chosen test start true x rest h k = h
chosen test start false x rest h k = k

pub at_each_key : {K V : Type 0} (test : V → Bool) (start : V) (compare : K × V → Ordering) (entries : List (K × V)) → test start ≡ true → list_all (λ (e : K × V). test e.1) entries ≡ true
    → test (value_or start (found_by compare entries)) ≡ true
at_each_key test start compare [] s all = s
at_each_key {K} {V} test start compare (x ∷ entries) s all =
    let h = both_true (test x.1) (list_all (λ (e : K × V). test e.1) entries) all in
    chosen test start (is_eq (compare x)) x (found_by compare entries) h.0 (at_each_key test start compare entries s h.1)

below_room : (n : ℕ) → nat_le n room ≡ true → n ≤ 2 ^ 100 - NUMBER_LIMIT
below_room n e = grind (arith, nat_tests)

pub sum_roomy : (sums : Sums) (replica : ℕ) → is_roomy sums ≡ true → sum_of sums replica ≤ 2 ^ 100 - NUMBER_LIMIT
sum_roomy sums replica all = below_room (sum_of sums replica) (at_each_key (λ n. nat_le n room) 0 (λ (e : ℕ × ℕ). nat_cmp replica e.0) sums refl all)

pub at_key_roomy : (table : Table Value Sums) (key : Value) → table.start ≡ [] → list_all (λ (e : Value × Sums). is_roomy e.1) table.entries ≡ true → is_roomy (at_key value_order table key) ≡ true
at_key_roomy table key start all =
    at_each_key is_roomy table.start (λ (e : Value × Sums). value_order key e.0) table.entries (ap is_roomy start) all

pub one_more : (sum weight : ℕ) → sum ≤ 2 ^ 100 - NUMBER_LIMIT → weight ≤ NUMBER_LIMIT → sum + weight ≤ 2 ^ 100
one_more sum weight h k = omega arith

-- the weight of an operation whose effect is known
pub tally_known : (effects : List (Option Leaf)) (done : Done) (leaf : Leaf) (w : ℕ) → effect_of effects done ≡ Some leaf → w ≡ weight_of (Some leaf) done → w ≡ tally_weight effects done
tally_known effects done leaf w e is = is ∙ sym (ap (λ (o : Option Leaf). weight_of o done) e)

pub at_most_as : (a b : ℕ) → a ≡ b → b ≤ NUMBER_LIMIT → a ≤ NUMBER_LIMIT
at_most_as a b e h = omega arith

pub bumped_as : (old new : Sums) (replica v w : ℕ) → v ≡ w → new ≡ bumped old replica v → new ≡ bumped old replica w
bumped_as old new replica v w e is = subst (λ n. new ≡ bumped old replica n) e is

pub roomy_as : (a b : Sums) → a ≡ b → is_roomy b ≡ true → is_roomy a ≡ true
roomy_as a b e h = subst (λ s. is_roomy s ≡ true) (sym e) h

pub not_zero : (w : ℕ) → w ≢ 0 → (w == 0) ≡ false
not_zero w some = ⊎_elim (λ (e : (w == 0) ≡ true). absurd (some (eqb-true w 0 e))) (λ (f : (w == 0) ≡ false). f) (cases_Bool (w == 0))
