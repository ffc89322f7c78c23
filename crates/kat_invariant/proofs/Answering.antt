-- The answers of both sides to a query are read as what they are.
use Rattle.std.proofs.Common.{◌≡◌, ℕ, zero, suc, true, false, not, ◌&&◌, ◌||◌, List, [], ◌∷◌, Option, Some, None, refl, sym, ap, subst, ◌∙◌}
use Rattle.std.specs.Prelude.{slice_get, option_map}
use Rattle.std.proofs.lemmas.Option.{get_or_from_slice_get, slice_get-map, slice_get_within}
use Rattle.kat_num.specs.Values.{HasSort}
use Rattle.kat_num.specs.declared.values.Sort.{Sort}
use Rattle.kat_num.specs.declared.values.Sort.TheVariants as sort
use Rattle.kat_num.specs.declared.values.Value.{Value}
use Rattle.kat_num.specs.declared.values.Value.TheVariants as value
use Rattle.kat_expr.specs.Evaluation.{truth_of, value_of}
use Rattle.kat_expr.specs.Slots.{argument}
use Rattle.kat_expr.specs.Sorts.{FitsScope, FitsSort, Scope, IsChosen}
use Rattle.kat_expr.proofs.Sorted.{value_has_sort}
use Rattle.kat_type.specs.Fits.{IsWellSorted as IsGoodType, QueryFits, sorts_of}
use Rattle.kat_type.specs.Signatures.{param_sorts, query_sig, signature_of}
use Rattle.kat_type.specs.Types.{QueryForm, TypeForm}
use Rattle.kat_type.specs.declared.types.Param.{Param}
use Rattle.kat_seq.specs.Sorts.{KeepsFields}
use Rattle.kat_design.specs.Designs.{AskForm, DesignForm}
use Rattle.kat_design.specs.Kinds.{sort_kind, value_kind}
use Rattle.kat_design.specs.Sorted.{Answers, HasKind, IsWellSorted}
use Rattle.kat_type.specs.Unions.{is_same_value}
use Rattle.kat_design.specs.declared.kinds.Kind.{Kind}
use Rattle.kat_design.specs.declared.kinds.Kind.TheVariants as kind
use Rattle.kat_design.proofs.GivenLeaves.{beside}
use Rattle.kat_relation.specs.Fits.{has_key_at_most}
use Rattle.kat_relation.specs.Keys.{first_sort}
use Rattle.kat_claims.specs.Asks.{number_asked, truth_asked}
use Rattle.kat_claims.specs.Claims.{answers_read, same_answers}
use Rattle.kat_symbols.specs.Sides.{Side}
use Rattle.kat_claims.specs.States.{is_truth_sort}
use Rattle.kat_symbols.specs.Terms.{number_read, truth_read}
use Rattle.kat_symbols.specs.declared.names.Instance.{Instance}
use Rattle.kat_symbols.specs.declared.names.Name.TheVariants.{Key}
use Rattle.kat_invariant.specs.Asked.{ask_held}
use Rattle.kat_invariant.specs.Legal.{HoldsParts}
use Rattle.kat_invariant.specs.Situations.{Situation}
use Rattle.kat_invariant.proofs.Asks.{ask_has_kind, number_is_asked, truth_is_asked}
use Rattle.kat_invariant.proofs.Having.{IsNumber, IsTruth, ReadsTruth, and_has, chosen_is, not_has, or_has, same_has, truth_as, truth_is_truth}
use Rattle.kat_invariant.proofs.LeafKinds.{kind_truth, sort_has_kind, IsOrderedKind}
use Rattle.kat_invariant.proofs.Logic.{Meant, measure, reads_two}
use Rattle.kat_invariant.proofs.Measures.{int_same_is, word_same}
use Rattle.kat_invariant.proofs.Saying.{int_same}
use Rattle.kat_invariant.proofs.Situated.{AreArguments, IsKeyAt, IsSide, key_at, leaves_read, scope_read}
use Rattle.kat_invariant.proofs.Terms.{number_reads, truth_reads}

pub truths_same : (u v : Value) → IsTruth u → IsTruth v → ((not (truth_of u) || truth_of v) && (truth_of u || not (truth_of v))) ≡ is_same_value u v
truths_same (value.Bool true) (value.Bool true) h k = refl
truths_same (value.Bool true) (value.Bool false) h k = refl
truths_same (value.Bool false) (value.Bool true) h k = refl
truths_same (value.Bool false) (value.Bool false) h k = refl
truths_same (value.Num x) v h k = absurd h
truths_same (value.Name x) v h k = absurd h
truths_same (value.Bool b) (value.Num x) h k = absurd k
truths_same (value.Bool b) (value.Name x) h k = absurd k

-- kinds by numbers, since no two constructors are equal
abbrev pub kind_number : Kind → ℕ
kind_number kind.Number = 0
kind_number kind.Name = 1
kind_number kind.Truth = 2

pub numbers_same : (u v : Value) → IsNumber u → value_kind u ≡ value_kind v → int_same (measure u) (measure v) ≡ is_same_value u v
numbers_same (value.Num x) (value.Num y) h e = sym (int_same_is x y)
numbers_same (value.Name x) (value.Name y) h e = sym (word_same (value.Name x) (value.Name y) tt tt)
numbers_same (value.Bool b) v h e = absurd h
numbers_same (value.Num x) (value.Bool y) h e = let is : ◌≡◌ {A = ℕ} 0 2 = ap kind_number e in absurd (cc)
numbers_same (value.Num x) (value.Name y) h e = let is : ◌≡◌ {A = ℕ} 0 1 = ap kind_number e in absurd (cc)
numbers_same (value.Name x) (value.Bool y) h e = let is : ◌≡◌ {A = ℕ} 1 2 = ap kind_number e in absurd (cc)
numbers_same (value.Name x) (value.Num y) h e = let is : ◌≡◌ {A = ℕ} 1 0 = ap kind_number e in absurd (cc)

-- a key alone as the arguments of a query with at most one parameter
pub key_arguments : (m : Meant) (keys : Instance → Value) (at : Option Instance) (params : List Param) → ((i : Instance) → m.now (Key i) ≡ keys i) → has_key_at_most params ≡ true → IsKeyAt keys (first_sort params) at
    → AreArguments m keys at (param_sorts params) (key_at keys at ∷ [])
key_arguments m keys at [] named few fits = record { named = λ j s e. absurd (cc); keyed = λ j s e. absurd (cc); fit = λ j s e. absurd (cc) }
key_arguments m keys (Some i) (p ∷ []) named few fits = record { named = now_is; keyed = key_is; fit = sort_is }
  where
    now_is : (j : ℕ) (s : Sort) → slice_get (p.sort ∷ []) j ≡ Some s → m.now (Key i) ≡ argument (keys i ∷ []) j
    now_is zero s e = named i
    now_is (suc j) s e = absurd (cc)

    key_is : (j : ℕ) (s : Sort) → slice_get (p.sort ∷ []) j ≡ Some s → keys i ≡ argument (keys i ∷ []) j
    key_is zero s e = refl
    key_is (suc j) s e = absurd (cc)

    sort_is : (j : ℕ) (s : Sort) → slice_get (p.sort ∷ []) j ≡ Some s → HasSort s (argument (keys i ∷ []) j)
    sort_is zero s e = let is : p.sort ≡ s = cc in subst (λ t. HasSort t (keys i)) is fits
    sort_is (suc j) s e = absurd (cc)
key_arguments m keys None (p ∷ []) named few fits = absurd fits
key_arguments m keys at (p ∷ q ∷ ps) named few fits = absurd (cc)

-- the ask of a query
pub record HasAsk (d : DesignForm) (query : ℕ) (q : QueryForm) : Type 0 where
  pub ask : AskForm
  pub there : slice_get d.asks query ≡ Some ask
  pub answers : HasKind d.components (param_sorts q.params) ask (sort_kind q.sort)

pub query_asked : (ty : TypeForm) (d : DesignForm) (query : ℕ) (q : QueryForm) → IsWellSorted d → d.sig ≡ signature_of ty → slice_get ty.queries query ≡ Some q → HasAsk d query q
query_asked ty d query q sorted signed there =
    let sig : slice_get d.sig.queries query ≡ Some (query_sig q) = ap (λ x. slice_get x.queries query) signed ∙ slice_get-map query_sig ty.queries query ∙ mapped (slice_get ty.queries query) there in
    let b = beside (Answers d.components) d.asks d.sig.queries sorted.asks query (query_sig q) sig in
    record { ask = b.value; there = b.there; answers = b.matched }
  where
    mapped : (o : Option QueryForm) → o ≡ Some q → option_map query_sig o ≡ Some (query_sig q)
    mapped None e = absurd (cc)
    mapped (Some x) e = let is : x ≡ q = cc in ap (λ y. Some (query_sig y)) is

pub query_good : (ty : TypeForm) (query : ℕ) (q : QueryForm) → IsGoodType ty → slice_get ty.queries query ≡ Some q → QueryFits ty.fields q
query_good ty query q good there =
    subst (λ p. QueryFits ty.fields p) (get_or_from_slice_get ty.queries query q q there) (good.queries query q (slice_get_within ty.queries query q there))

module _ (ty : TypeForm) (d : DesignForm) (m : Meant) (side : Side) (s : Situation) (keys : Instance → Value) (is : IsSide ty d m side s keys) (keeps : KeepsFields ty s.state) (parts : HoldsParts d s.held) where
  pub in_scope : (at : Option Instance) (params : List Param) (args : List Value) → AreArguments m keys at (param_sorts params) args → FitsScope (sorts_of ty.fields params) s.state args
  in_scope at params args a = record { fields = keeps; params = a.fit }

  pub answers_are : (at : Option Instance) (q : QueryForm) (ask : AskForm) (args : List Value) → AreArguments m keys at (param_sorts q.params) args → QueryFits ty.fields q → HasKind d.components (param_sorts q.params) ask (sort_kind q.sort)
      → ReadsTruth m (answers_read side at (Some q) (Some ask)) (is_same_value (value_of q.right s.state args) (ask_held ask s.held args))
  answers_are at q ask args a good answers = by_sort q.sort good.right answers
    where
      scope : Scope
      scope = sorts_of ty.fields q.params

      u : Value
      u = value_of q.right s.state args

      v : Value
      v = ask_held ask s.held args

      same_kinds : (t : Sort) → FitsSort scope q.right t → HasKind d.components (param_sorts q.params) ask (sort_kind t) → value_kind u ≡ value_kind v
      same_kinds t fits kind_of_ask = sort_has_kind t u (value_has_sort scope s.state args (in_scope at q.params args a) q.right t fits) ∙ sym (ask_has_kind m side at d.components (param_sorts q.params) s.held args (leaves_read ty d m side s keys is parts at (param_sorts q.params) args a) ask (sort_kind t) kind_of_ask)

      truth_case : FitsSort scope q.right sort.Bool → HasKind d.components (param_sorts q.params) ask kind.Truth → ReadsTruth m (same_answers side at q ask true) (is_same_value u v)
      truth_case fits kind_of_ask r =
          reads_two m r (truth_read side at q.right r).1 (truth_asked side at ask (truth_read side at q.right r).1).1 _ _ _
          (truth_reads m side at scope s.state args (in_scope at q.params args a) (scope_read ty d m side s keys is at q.params args a) q.right fits r)
          (truth_is_asked m side at d.components (param_sorts q.params) s.held args (leaves_read ty d m side s keys is parts at (param_sorts q.params) args a) ask kind.Truth kind_of_ask refl (truth_read side at q.right r).1)
          (λ w p k. truth_as w _ _ _ (truths_same u v (truth_is_truth u (value_has_sort scope s.state args (in_scope at q.params args a) q.right sort.Bool fits)) (kind_truth v kind.Truth (sym (same_kinds sort.Bool fits kind_of_ask) ∙ sort_has_kind sort.Bool u (value_has_sort scope s.state args (in_scope at q.params args a) q.right sort.Bool fits)) refl))
          (and_has w _ _ _ _ (or_has w _ _ _ _ (not_has w _ _ p) k) (or_has w _ _ _ _ p (not_has w _ _ k))))

      number_case : (t : Sort) → IsChosen t → FitsSort scope q.right t → (k : Kind) → k ≡ sort_kind t → IsOrderedKind k → HasKind d.components (param_sorts q.params) ask k → ReadsTruth m (same_answers side at q ask false) (is_same_value u v)
      number_case t c fits k is_kind ordered kind_of_ask r =
          reads_two m r (number_read side at q.right r).1 (number_asked side at ask (number_read side at q.right r).1).1 _ _ _
          (number_reads m side at scope s.state args (in_scope at q.params args a) (scope_read ty d m side s keys is at q.params args a) q.right t c fits r)
          (number_is_asked m side at d.components (param_sorts q.params) s.held args (leaves_read ty d m side s keys is parts at (param_sorts q.params) args a) ask k kind_of_ask ordered (number_read side at q.right r).1)
          (λ w p n. truth_as w _ _ _ (numbers_same u v (chosen_is t u c (value_has_sort scope s.state args (in_scope at q.params args a) q.right t fits)) (same_kinds t fits (subst (HasKind d.components (param_sorts q.params) ask) is_kind kind_of_ask))) (same_has w _ _ _ _ p n))

      by_sort : (t : Sort) → FitsSort scope q.right t → HasKind d.components (param_sorts q.params) ask (sort_kind t) → ReadsTruth m (same_answers side at q ask (is_truth_sort t)) (is_same_value u v)
      by_sort sort.Bool fits k = truth_case fits k
      by_sort sort.Int fits k = number_case sort.Int tt fits kind.Number refl tt k
      by_sort sort.Nat fits k = number_case sort.Nat tt fits kind.Number refl tt k
      by_sort sort.Name fits k = number_case sort.Name tt fits kind.Name refl tt k
