-- The canonical arrangement of operations.
use Rattle.std.proofs.Common.{◌≡◌, ◌≢◌, ℕ, List, get_or, refl, sym, ◌∙◌, ap, Ordering, pos}
use Rattle.std.specs.Cmp.{IsTotalOrder}
use Rattle.std.specs.Ordering.{int_cmp, nat_cmp, on, ordering_reverse, ordering_then, then_cmp}
use Rattle.std.specs.List.Sorted.{IsPermutation, IsSorted}
use Rattle.std.specs.Prelude.{ℤ}
use Rattle.std.specs.declared.cmp.Ordering.TheVariants.{Less, Equal, Greater}
use Rattle.std.proofs.lemmas.Cmp.{int_cmp_total, lists_total, nat_cmp_total, on_total, ranked, then_total}
use Rattle.kat_num.specs.declared.values.Value.{Value}
use Rattle.kat_num.specs.declared.values.Value.TheVariants.{Bool as Truth, Num, Name}
use Rattle.kat_type.specs.Arrangements.{AreApart, IsAscending, IsCanonical, RespectsRanks, canonical, canonical_cmp}
use Rattle.kat_type.specs.InOrder.{in_order}
use Rattle.kat_type.specs.Lists.{IsOnce}
use Rattle.kat_type.specs.Ranks.{kind_of, rank_cmp, rank_of, value_cmp}
use Rattle.kat_type.specs.Types.{TypeForm}
use Rattle.kat_type.specs.declared.done.Done.{Done}
use Rattle.kat_type.proofs.Permuted.{have_same, sorted_pairs}
use Rattle.kat_type.proofs.Ordered.{Ascends, ascends_once, ascends_pairs, one_ascending, order_ascends, order_has, order_only, pairs_ascend}

pub total_same : {X : Type 0} (R S : X → X → Ordering) → ((x y : X) → R x y ≡ S x y) → IsTotalOrder S → IsTotalOrder R
total_same R S same o = record {
  antisymm = λ x y. same x y ∙ o.antisymm x y ∙ ap ordering_reverse (sym (same y x));
  trans = λ x y z p q. same x z ∙ o.trans x y z (sym (same x y) ∙ p) (sym (same y z) ∙ q);
  congr = λ x y z e. same x z ∙ o.congr x y z (sym (same x y) ∙ e) ∙ sym (same y z);
}

abbrev number_in : Value → ℤ
number_in (Num z) = z
number_in value = pos 0

abbrev code_in : Value → ℕ
code_in (Name code) = code
code_in value = 0

-- the order of values: by kind, then number, then code
abbrev by_kind : Value → Value → Ordering
by_kind = then_cmp (on kind_of nat_cmp) (then_cmp (on number_in int_cmp) (on code_in nat_cmp))

pub then_equal : (a : Ordering) → a ≡ ordering_then a Equal
then_equal Less = refl
then_equal Equal = refl
then_equal Greater = refl

pub same_order : (x y : Value) → value_cmp x y ≡ by_kind x y
same_order (Truth a) (Truth b) = refl
same_order (Truth a) (Num y) = refl
same_order (Truth a) (Name y) = refl
same_order (Num x) (Truth b) = refl
same_order (Num x) (Num y) = then_equal (int_cmp x y)
same_order (Num x) (Name y) = refl
same_order (Name x) (Truth b) = refl
same_order (Name x) (Num y) = refl
same_order (Name x) (Name y) = refl

pub value_total : IsTotalOrder value_cmp
value_total = total_same value_cmp by_kind same_order (then_total (on_total kind_of nat_cmp_total) (then_total (on_total number_in int_cmp_total) (on_total code_in nat_cmp_total)))

pub rank_total : IsTotalOrder rank_cmp
rank_total = lists_total value_total

pub canonical_total : (ty : TypeForm) → IsTotalOrder (canonical_cmp ty)
canonical_total ty = then_total (on_total (rank_of ty) rank_total) (then_total (on_total (λ (d : Done). d.time) nat_cmp_total) (on_total (λ (d : Done). d.replica) nat_cmp_total))

pub then_less : (a b : Ordering) → ordering_then a b ≡ Less → ordering_reverse a ≢ Less
then_less Less b h e = cc e
then_less Equal b h e = cc e
then_less Greater b h e = cc h

pub both_equal : (a b : Ordering) → ordering_then a b ≡ Equal → (a ≡ Equal) × (b ≡ Equal)
both_equal Less b h = absurd (cc h)
both_equal Equal b h = (refl, h)
both_equal Greater b h = absurd (cc h)

pub numbers_equal : (x y : ℕ) → nat_cmp x y ≡ Equal → x ≡ y
numbers_equal x y e = ranked x y Equal (sym e)

-- of two operations neither of which comes before the other, rank, time and replica are equal
pub equal_is : (ty : TypeForm) (one other : Done) → canonical_cmp ty one other ≡ Equal
    → (rank_cmp (rank_of ty one) (rank_of ty other) ≡ Equal) × (one.replica ≡ other.replica) × (one.time ≡ other.time)
equal_is ty one other e =
    let parts = both_equal (rank_cmp (rank_of ty one) (rank_of ty other)) (ordering_then (nat_cmp one.time other.time) (nat_cmp one.replica other.replica)) e in
    let later = both_equal (nat_cmp one.time other.time) (nat_cmp one.replica other.replica) parts.1 in
    (parts.0, numbers_equal one.replica other.replica later.1, numbers_equal one.time other.time later.0)

-- what is strictly before something in the canonical order has no greater rank
pub no_less : (ty : TypeForm) (one other : Done) → canonical_cmp ty one other ≡ Less → rank_cmp (rank_of ty other) (rank_of ty one) ≢ Less
no_less ty one other less e =
    then_less (rank_cmp (rank_of ty one) (rank_of ty other)) (ordering_then (nat_cmp one.time other.time) (nat_cmp one.replica other.replica)) less
    (sym (rank_total.antisymm (rank_of ty other) (rank_of ty one)) ∙ e)

pub respects : (ty : TypeForm) (arranged ones : List Done) → IsCanonical ty arranged ones → RespectsRanks ty arranged
respects ty arranged ones c = λ i j d lt le. no_less ty (get_or arranged i d) (get_or arranged j d) (c.ascending i j d lt le)

pub one_canonical : (ty : TypeForm) (some other ones : List Done) → IsCanonical ty some ones → IsCanonical ty other ones → some ≡ other
one_canonical ty some other ones s o =
    one_ascending (canonical_cmp ty) (canonical_total ty) some other (pairs_ascend (canonical_cmp ty) some s.ascending) (pairs_ascend (canonical_cmp ty) other o.ascending)
    (λ one has. o.arranges.same.1 one (s.arranges.same.0 one has), λ one has. s.arranges.same.1 one (o.arranges.same.0 one has))

pub order_canonical : (ty : TypeForm) (ones : List Done) → AreApart ones → IsCanonical ty (canonical ty ones) ones
order_canonical ty ones apart =
    let up : Ascends (canonical_cmp ty) (in_order (canonical_cmp ty) ones) = order_ascends (canonical_cmp ty) (canonical_total ty) ones in
    record {
      arranges = record {
        once = ascends_once (canonical_cmp ty) (canonical_total ty) (in_order (canonical_cmp ty) ones) up;
        same = (
          order_only (canonical_cmp ty) ones,
          order_has (canonical_cmp ty) ones (λ one other i j e. apart one other i j (equal_is ty one other e).1 (equal_is ty one other e).2),
        );
      };
      ascending = ascends_pairs (canonical_cmp ty) (in_order (canonical_cmp ty) ones) up;
    }

-- operations that are sorted in the canonical order are arranged
pub sorted_canonical : (ty : TypeForm) (sorted ones : List Done) → IsOnce ones → AreApart ones → IsPermutation ones sorted → IsSorted (canonical_cmp ty) sorted → IsCanonical ty sorted ones
sorted_canonical ty sorted ones once apart moves up =
    let pairs : IsAscending ty sorted = sorted_pairs (canonical_cmp ty) (canonical_total ty) ones sorted once
    (λ one other i j e. apart one other i j (equal_is ty one other e).1 (equal_is ty one other e).2) moves up in
    record {
      arranges = record {
        once = ascends_once (canonical_cmp ty) (canonical_total ty) sorted (pairs_ascend (canonical_cmp ty) sorted pairs);
        same = have_same ones sorted moves;
      };
      ascending = pairs;
    }
