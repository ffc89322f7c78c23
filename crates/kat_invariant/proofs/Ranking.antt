-- The ranks of an operation and of the last one have numbers and names at the same places, so they are compared as such.
use Rattle.std.proofs.Common.{◌≡◌, ◌≢◌, ℕ, List, [], ◌∷◌, Option, Some, None, refl, sym, ap, subst, ◌∙◌, arith, All}
use Rattle.std.specs.Prelude.{MatchOption, map, slice_get}
use Rattle.std.proofs.lemmas.Option.{get_or_from_slice_get, slice_get_within}
use Rattle.std.proofs.lemmas.List.Elements.{All-head, All-tail}
use Rattle.kat_num.specs.Values.{HasSort}
use Rattle.kat_num.specs.declared.values.Sort.{Sort}
use Rattle.kat_num.specs.declared.values.Sort.TheVariants.{Bool as OfBool, Int as OfInt, Nat as OfNat, Name as OfName}
use Rattle.kat_num.specs.declared.values.Value.{Value}
use Rattle.kat_num.specs.declared.values.Value.TheVariants as value
use Rattle.kat_expr.specs.Slots.{argument}
use Rattle.kat_type.specs.Alike.{FitsType, HasAlikeRanks, argument_kind, element_kind, rank_kinds, sort_kind}
use Rattle.kat_type.specs.Fits.{IsWellSorted, OperationFits, RankFits}
use Rattle.kat_type.specs.Ranks.{element_value, kind_of, rank_of, stated_rank, value_cmp}
use Rattle.kat_type.specs.Types.{OperationForm, TypeForm}
use Rattle.kat_type.specs.declared.done.Done.{Done}
use Rattle.kat_type.specs.declared.types.Param.{Param}
use Rattle.kat_type.specs.declared.types.Rank.{Rank}
use Rattle.kat_type.specs.declared.types.Rank.TheVariants as rank
use Rattle.kat_design.specs.Sorted.{AreMatched}
use Rattle.kat_invariant.specs.Legal.{HasElement, IsLegalLast}
use Rattle.kat_invariant.specs.Situations.{Last}
use Rattle.kat_invariant.proofs.Comparing.{Orders, OrdersAll, int_less, int_equals, nat_less, nat_equals}

value_kind : (s : Sort) (v : Value) → HasSort s v → kind_of v ≡ sort_kind s
value_kind OfBool (value.Bool b) h = refl
value_kind OfBool (value.Num z) h = absurd h
value_kind OfBool (value.Name n) h = absurd h
value_kind OfInt (value.Bool b) h = absurd h
value_kind OfInt (value.Num z) h = refl
value_kind OfInt (value.Name n) h = absurd h
value_kind OfNat (value.Bool b) h = absurd h
value_kind OfNat (value.Num z) h = refl
value_kind OfNat (value.Name n) h = absurd h
value_kind OfName (value.Bool b) h = absurd h
value_kind OfName (value.Num z) h = absurd h
value_kind OfName (value.Name n) h = refl

abbrev ArgumentsFit : List Param → Done → Type 0
ArgumentsFit params done = (at : ℕ) (p : Param) → slice_get params at ≡ Some p → HasSort p.sort (argument done.args at)

given_kind : (params : List Param) (done : Done) (place : ℕ) (o : Option Param) → slice_get params place ≡ o → MatchOption o ⊥ (λ (p : Param). p.sort ≢ OfBool) → ArgumentsFit params done
    → kind_of (argument done.args place) ≡ argument_kind o
given_kind params done place None is fits args = absurd fits
given_kind params done place (Some p) is fits args = value_kind p.sort (argument done.args place) (args place p is)

given : (params : List Param) (done : Done) (e : Rank) → RankFits params e → ArgumentsFit params done → kind_of (element_value done e) ≡ element_kind params e
given params done (rank.Digit n) fits args = refl
given params done rank.Time fits args = refl
given params done rank.Replica fits args = refl
given params done (rank.Arg place) fits args = given_kind params done place (slice_get params place) refl fits args

pub done_kinds : (params : List Param) (done : Done) (ranks : List Rank) → All (RankFits params) ranks → ArgumentsFit params done
    → map kind_of (map (element_value done) ranks) ≡ map (element_kind params) ranks
done_kinds params done [] fits args = refl
done_kinds params done (e ∷ ranks) fits args =
    ap (λ k. k ∷ map kind_of (map (element_value done) ranks)) (given params done e (All-head (RankFits params) e ranks fits) args)
    ∙ ap (λ ks. element_kind params e ∷ ks) (done_kinds params done ranks (All-tail (RankFits params) e ranks fits) args)

element_is : (last : Last) (params : List Param) (v : Value) (e : Rank) → HasElement last params v e → kind_of v ≡ element_kind params e
element_is last params v (rank.Digit n) h = ap kind_of h
element_is last params v rank.Time h = ap kind_of h
element_is last params v rank.Replica h = ap kind_of h
element_is last params v (rank.Arg place) h = h

pub last_kinds : (last : Last) (params : List Param) (vs : List Value) (ranks : List Rank) → AreMatched (HasElement last params) vs ranks → map kind_of vs ≡ map (element_kind params) ranks
last_kinds last params [] [] h = refl
last_kinds last params (v ∷ vs) (e ∷ ranks) h =
    ap (λ k. k ∷ map kind_of vs) (element_is last params v e h.0) ∙ ap (λ ks. element_kind params e ∷ ks) (last_kinds last params vs ranks h.1)
last_kinds last params [] (e ∷ ranks) h = absurd h
last_kinds last params (v ∷ vs) [] h = absurd h

-- an element of a rank is no truth value
sort_ordered : (s : Sort) → s ≢ OfBool → sort_kind s ≢ 0
sort_ordered OfBool h = absurd (h refl)
sort_ordered OfInt h = λ e. omega (arith, e)
sort_ordered OfNat h = λ e. omega (arith, e)
sort_ordered OfName h = λ e. omega (arith, e)

param_ordered : (o : Option Param) → MatchOption o ⊥ (λ (p : Param). p.sort ≢ OfBool) → argument_kind o ≢ 0
param_ordered None h = absurd h
param_ordered (Some p) h = sort_ordered p.sort h

element_ordered : (params : List Param) (e : Rank) → RankFits params e → element_kind params e ≢ 0
element_ordered params (rank.Digit n) h = λ e. omega (arith, e)
element_ordered params rank.Time h = λ e. omega (arith, e)
element_ordered params rank.Replica h = λ e. omega (arith, e)
element_ordered params (rank.Arg place) h = param_ordered (slice_get params place) h

abbrev pub AreOrdered : List ℕ → Type 0
AreOrdered [] = Unit {0}
AreOrdered (k ∷ ks) = (k ≢ 0) × AreOrdered ks

pub ranks_ordered : (params : List Param) (ranks : List Rank) → All (RankFits params) ranks → AreOrdered (map (element_kind params) ranks)
ranks_ordered params [] h = tt
ranks_ordered params (e ∷ ranks) h = (element_ordered params e (All-head (RankFits params) e ranks h), ranks_ordered params ranks (All-tail (RankFits params) e ranks h))

pub one_order : (u v : Value) → kind_of u ≡ kind_of v → kind_of u ≢ 0 → Orders value_cmp u v
one_order (value.Bool b) v e h = absurd (h refl)
one_order (value.Num x) (value.Num y) e h = record { less = int_less x y; equal = int_equals x y }
one_order (value.Num x) (value.Bool y) e h = absurd (omega (arith, e))
one_order (value.Num x) (value.Name y) e h = absurd (omega (arith, e))
one_order (value.Name x) (value.Name y) e h = record { less = nat_less x y; equal = nat_equals x y }
one_order (value.Name x) (value.Bool y) e h = absurd (omega (arith, e))
one_order (value.Name x) (value.Num y) e h = absurd (omega (arith, e))

pub all_order : (us vs : List Value) → map kind_of us ≡ map kind_of vs → AreOrdered (map kind_of us) → OrdersAll value_cmp us vs
all_order [] [] e h = tt
all_order (u ∷ us) (v ∷ vs) e h = (one_order u v (let first : kind_of u ≡ kind_of v = cc in first) h.0, all_order us vs (let rest : map kind_of us ≡ map kind_of vs = cc in rest) h.1)
all_order [] (v ∷ vs) e h = absurd (cc)
all_order (u ∷ us) [] e h = absurd (cc)

-- the operation that is done and that of the last rank
pub operation_fits : (ty : TypeForm) (op : ℕ) (o : OperationForm) → IsWellSorted ty → slice_get ty.ops op ≡ Some o → OperationFits ty.fields o
operation_fits ty op o sorted there =
    subst (λ p. OperationFits ty.fields p) (get_or_from_slice_get ty.ops op o o there) (sorted.operations op o (slice_get_within ty.ops op o there))

pub one_rank : (ty : TypeForm) (i j : ℕ) (o p : OperationForm) → HasAlikeRanks ty → slice_get ty.ops i ≡ Some o → slice_get ty.ops j ≡ Some p → rank_kinds o ≡ rank_kinds p
one_rank ty i j o p alike here there =
    sym (ap rank_kinds (get_or_from_slice_get ty.ops i o o here)) ∙ alike i j o (slice_get_within ty.ops i o here) (slice_get_within ty.ops j p there) ∙ ap rank_kinds (get_or_from_slice_get ty.ops j p o there)

pub ranks_compare : (ty : TypeForm) (done : Done) (last : Last) → IsWellSorted ty → HasAlikeRanks ty → FitsType ty done → IsLegalLast ty last → OrdersAll value_cmp (rank_of ty done) last.rank
ranks_compare ty done last sorted alike fits legal =
    let o = fits.operation in
    let p = legal.operation in
    let good = operation_fits ty done.op o sorted fits.there in
    let mine : map kind_of (rank_of ty done) ≡ rank_kinds o = ap (λ q. map kind_of (map (element_value done) (stated_rank q))) fits.there ∙ done_kinds o.params done o.ranks good.ranks fits.args in
    let its : map kind_of last.rank ≡ rank_kinds p = last_kinds last p.params last.rank p.ranks legal.shape in
    all_order (rank_of ty done) last.rank (mine ∙ one_rank ty done.op legal.op o p alike fits.there legal.there ∙ sym its) (subst (λ ks. AreOrdered ks) (sym mine) (ranks_ordered o.params o.ranks good.ranks))
