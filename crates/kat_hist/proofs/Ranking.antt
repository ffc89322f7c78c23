-- Some order of the operations respects the ranks.
use Rattle.std.proofs.Common.{◌≡◌, Bool, true, false, List, [], ◌∷◌, inl, inr, refl, ◌∙◌, ap}
use Rattle.std.specs.Prelude.{not}
use Rattle.std.specs.Cmp.{IsTotalOrder}
use Rattle.std.specs.List.{list_all}
use Rattle.std.specs.Ordering.{ordering_reverse}
use Rattle.std.specs.declared.cmp.Ordering.{Ordering}
use Rattle.std.specs.declared.cmp.Ordering.TheVariants.{Less, Equal, Greater}
use Rattle.kat_type.proofs.Arranging.{rank_total}
use Rattle.kat_type.specs.Lists.{Has}
use Rattle.kat_type.specs.Ranks.{rank_cmp, rank_of}
use Rattle.kat_type.specs.Types.{TypeForm}
use Rattle.kat_type.specs.declared.done.Done.{Done}
use Rattle.kat_histories.specs.Choices.{headed}
use Rattle.kat_histories.specs.Orders.{each_pair, is_less, orders_of, put_in}
use Rattle.kat_hist.specs.Arranging.{may_follow, respects_ranks}
use Rattle.kat_histories.proofs.Members.{has_flat, has_map}
use Rattle.kat_histories.proofs.Tests.{both_true, true_both}
use Rattle.kat_hist.proofs.AllOrders.{first_put}

-- a test of two elements that says which may come before which
record IsRanking {X : Type 0} (may : X → X → Bool) : Type 0 where
  pub total : (x y : X) → may x y ≡ false → may y x ≡ true
  pub trans : (x y z : X) → may x y ≡ true → may y z ≡ true → may x z ≡ true

-- what may come before the first may come before all
all_on : {X : Type 0} (may : X → X → Bool) → IsRanking may → (x y : X) (ys : List X) → may x y ≡ true → list_all (may y) ys ≡ true → list_all (may x) ys ≡ true
all_on may r x y [] e h = refl
all_on may r x y (z ∷ ys) e h =
    let parts = both_true (may y z) (list_all (may y) ys) h in
    true_both (may x z) (list_all (may x) ys) (r.trans x y z e parts.0) (all_on may r x y ys e parts.1)

-- an element put where it may be
record IsPut {X : Type 0} (may : X → X → Bool) (x : X) (ys : List X) : Type 0 where
  pub whole : List X
  pub there : Has (put_in x ys) whole
  pub pairs : each_pair may whole ≡ true
  pub all : (y : X) → may y x ≡ true → list_all (may y) ys ≡ true → list_all (may y) whole ≡ true

put_at : {X : Type 0} (may : X → X → Bool) → IsRanking may → (x y : X) (ys : List X) → each_pair may (y ∷ ys) ≡ true → IsPut may x ys → (b : Bool) → may x y ≡ b → IsPut may x (y ∷ ys)
put_at may r x y ys h p true e =
    let parts = both_true (list_all (may y) ys) (each_pair may ys) h in
    record {
      whole = x ∷ y ∷ ys;
      there = first_put x (y ∷ ys);
      pairs = true_both (list_all (may x) (y ∷ ys)) (each_pair may (y ∷ ys)) (true_both (may x y) (list_all (may x) ys) e (all_on may r x y ys e parts.0)) h;
      all = λ z i k. true_both (may z x) (list_all (may z) (y ∷ ys)) i k;
    }
put_at may r x y ys h p false e =
    let parts = both_true (list_all (may y) ys) (each_pair may ys) h in
    record {
      whole = y ∷ p.whole;
      there = inr (has_map (headed y) (put_in x ys) p.whole p.there);
      pairs = true_both (list_all (may y) p.whole) (each_pair may p.whole) (p.all y (r.total x y e) parts.0) p.pairs;
      all = λ z i k. let both = both_true (may z y) (list_all (may z) ys) k in true_both (may z y) (list_all (may z) p.whole) both.0 (p.all z i both.1);
    }

put : {X : Type 0} (may : X → X → Bool) → IsRanking may → (x : X) (ys : List X) → each_pair may ys ≡ true → IsPut may x ys
put may r x [] h = record { whole = x ∷ []; there = inl refl; pairs = refl; all = λ y e k. true_both (may y x) true e refl }
put may r x (y ∷ ys) h = put_at may r x y ys h (put may r x ys (both_true (list_all (may y) ys) (each_pair may ys) h).1) (may x y) refl

some_order : {X : Type 0} (may : X → X → Bool) → IsRanking may → (xs : List X) → (ys : List X) × Has (orders_of xs) ys × (each_pair may ys ≡ true)
some_order may r [] = ([], inl refl, refl)
some_order may r (x ∷ xs) =
    let rest = some_order may r xs in
    let p = put may r x rest.0 rest.2 in
    (p.whole, has_flat (put_in x) (orders_of xs) rest.0 p.whole rest.1 p.there, p.pairs)

-- ranks say so
less_reversed : (o p : Ordering) → o ≡ ordering_reverse p → not (is_less p) ≡ false → not (is_less o) ≡ true
less_reversed o Less e h = ap (λ q. not (is_less q)) e
less_reversed o Equal e h = absurd (cc h)
less_reversed o Greater e h = absurd (cc h)

no_less_on : {K : Type 0} (R : K → K → Ordering) → IsTotalOrder R → (a b c : K) → not (is_less (R b a)) ≡ true → not (is_less (R c b)) ≡ true → not (is_less (R c a)) ≡ true
no_less_on {K} R t a b c first second = cases (R c a) refl where
  clash : (o : Ordering) → o ≡ Less → not (is_less o) ≡ true → ⊥
  clash Less e h = absurd (cc h)
  clash Equal e h = cc e
  clash Greater e h = cc e

  below : (o : Ordering) → R b a ≡ o → R c a ≡ Less → ⊥
  below Less e less = clash (R b a) e first
  below Equal e less = clash (R c b) (t.antisymm c b ∙ ap ordering_reverse (t.congr b a c e ∙ t.antisymm a c ∙ ap ordering_reverse less)) second
  below Greater e less = clash (R c b) (t.trans c a b less (t.antisymm a b ∙ ap ordering_reverse e)) second

  cases : (o : Ordering) → R c a ≡ o → not (is_less o) ≡ true
  cases Less e = absurd (below (R b a) refl e)
  cases Equal e = refl
  cases Greater e = refl

ranking : (ty : TypeForm) → IsRanking (may_follow ty)
ranking ty = record {
  total = λ x y e. less_reversed (rank_cmp (rank_of ty x) (rank_of ty y)) (rank_cmp (rank_of ty y) (rank_of ty x)) (rank_total.antisymm (rank_of ty x) (rank_of ty y)) e;
  trans = λ x y z e h. no_less_on rank_cmp rank_total (rank_of ty x) (rank_of ty y) (rank_of ty z) e h;
}

pub some_respects : (ty : TypeForm) (ones : List Done) → (arranged : List Done) × Has (orders_of ones) arranged × (respects_ranks ty arranged ≡ true)
some_respects ty ones = some_order (may_follow ty) (ranking ty) ones
