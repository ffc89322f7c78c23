-- The ranks of the operations of an accepted type are alike.
use Rattle.std.proofs.Common.{◌≡◌, ℕ, suc, false, not, List, [], ◌∷◌, ◌++◌, length, map, All, get_or, ◌≢◌, arith, refl, sym, ◌∙◌, ap, subst, Option, None, Some}
use Rattle.std.specs.Prelude.{◌==◌, MatchOption, min}
use Rattle.std.specs.List.{flat_map, slice_get, slice_index_or}
use Rattle.std.proofs.lemmas.Bool.{false≢true}
use Rattle.std.proofs.lemmas.Option.{get_or_from_slice_get, slice_get_within}
use Rattle.std.proofs.lemmas.List.Elements.{All-head, All-map, All-nil, All-tail}
use Rattle.kat_num.specs.Values.{HasSort}
use Rattle.kat_num.specs.declared.values.Sort.{Sort}
use Rattle.kat_num.specs.declared.values.Sort.TheVariants.{Bool as OfBool, Int as OfInt, Nat as OfNat, Name as OfName}
use Rattle.kat_num.specs.declared.values.Value.{Value}
use Rattle.kat_num.specs.declared.values.Value.TheVariants as value
use Rattle.kat_expr.specs.Slots.{argument}
use Rattle.kat_grammar.specs.declared.phrases.Operation.{Operation}
use Rattle.kat_grammar.specs.declared.phrases.Parameter.{Parameter}
use Rattle.kat_grammar.specs.declared.phrases.RankElement.{RankElement}
use Rattle.kat_grammar.specs.declared.phrases.RankElement.TheVariants as written
use Rattle.kat_grammar.specs.declared.phrases.RankPart.{RankPart}
use Rattle.kat_grammar.specs.declared.phrases.State.{State}
use Rattle.kat_grammar.specs.declared.phrases.TypeText.{TypeText}
use Rattle.kat_type.specs.Alike.{FitsType, HasAlikeRanks, argument_kind, element_kind, rank_kinds, sort_kind}
use Rattle.kat_type.specs.Fits.{IsWellSorted, OperationFits, RankFits}
use Rattle.kat_type.specs.Ranks.{element_value, kind_of, rank_of, stated_rank}
use Rattle.kat_type.specs.Types.{OperationForm, TypeForm}
use Rattle.kat_type.specs.declared.done.Done.{Done}
use Rattle.kat_type.specs.declared.types.Param.{Param}
use Rattle.kat_type.specs.declared.types.Rank.{Rank}
use Rattle.kat_type.specs.declared.types.Rank.TheVariants as rank
use Rattle.kat_judging.specs.Faults.{assignments_faults, behind_elements, chosen_family, colon_of, element_family, element_faults, element_param_faults, element_start, fault_if, faults_of, first_families, first_of, is_other_family, is_truths, item_names, kind_faults, match_faults, operation_faults, param_family, param_faults, part_family, part_faults, query_faults, scope_of, state_faults, twice_among}
use Rattle.kat_type_file.specs.Limits.{limits_of}
use Rattle.kat_judging.specs.Names.{Scope, named_param}
use Rattle.kat_judging.specs.KnownSorts.{family_of}
use Rattle.kat_type_file.specs.TypeFiles.{IsTypeFile}
use Rattle.kat_type_file.specs.Typing.{element_in, first_refusal, operation_in, param_in, place_of, rank_in, type_in}
use Rattle.kat_judging.specs.declared.faults.Fault.{Fault}
use Rattle.kat_judging.specs.declared.found.Family.{Family}
use Rattle.kat_judging.specs.declared.found.Family.TheVariants.{Numbers, Names, Truths}
use Rattle.kat_judging.specs.declared.names.Declared.{Declared}
use Rattle.kat_type_file.proofs.Keeping.{not_refused}
use Rattle.kat_type_file.proofs.Refusals.{faults_none, none_each, none_front, none_rest, some_none}
use Rattle.kat_type_file.proofs.Sorting.{StandsIn, if_none, mapped_at, stands_in}

-- the number of a kind that is known
abbrev family_kind : Option Family → ℕ
family_kind None = 0
family_kind (Some Numbers) = 1
family_kind (Some Names) = 2
family_kind (Some Truths) = 0

abbrev IsKnown : Option Family → Type 0
IsKnown None = ⊥
IsKnown (Some Numbers) = Unit {0}
IsKnown (Some Names) = Unit {0}
IsKnown (Some Truths) = ⊥

sort_known : (s : Sort) → is_truths (Some (family_of s)) ≡ false → IsKnown (chosen_family (family_of s))
sort_known OfBool h = absurd (false≢true (sym h))
sort_known OfInt h = tt
sort_known OfNat h = tt
sort_known OfName h = tt

sort_is : (s : Sort) → sort_kind s ≡ family_kind (chosen_family (family_of s))
sort_is OfBool = refl
sort_is OfInt = refl
sort_is OfNat = refl
sort_is OfName = refl

-- an element without a fault is a number or a name
record IsRanked (kind : ℕ) (family : Option Family) : Type 0 where
  known : IsKnown family
  is : kind ≡ family_kind family

param_ranked : (params : List Parameter) (p : Option (Declared Parameter)) (at : ℕ) → StandsIn params p → first_of (element_param_faults p at) ≡ None
    → IsRanked (argument_kind (slice_get (map param_in params) (place_of p))) (param_family p)
param_ranked params None at there h = absurd (some_none _ h)
param_ranked params (Some d) at there h = record {
  known = sort_known d.it.sort (if_none (is_truths (Some (family_of d.it.sort))) 7 at h);
  is = ap argument_kind (mapped_at param_in params d.place d.it there) ∙ sort_is d.it.sort;
}

element_ranked : (scope : Scope) (e : RankElement) → first_of (element_faults scope.params e) ≡ None
    → IsRanked (element_kind (map param_in scope.params) (element_in scope e)) (element_family scope.params e)
element_ranked scope (written.Digit at n) h = record { known = tt; is = refl }
element_ranked scope (written.Time at) h = record { known = tt; is = refl }
element_ranked scope (written.Replica at) h = record { known = tt; is = refl }
element_ranked scope (written.Parameter w) h = param_ranked scope.params (named_param scope.params w.code) w.at (stands_in (λ p. p.name.code) w.code scope.params) h

one_kind : (a b : Option Family) → IsKnown a → IsKnown b → is_other_family a b ≡ false → family_kind b ≡ family_kind a
one_kind None b h k same = absurd h
one_kind (Some Truths) b h k same = absurd h
one_kind (Some Numbers) None h k same = absurd k
one_kind (Some Numbers) (Some Truths) h k same = absurd k
one_kind (Some Numbers) (Some Numbers) h k same = refl
one_kind (Some Numbers) (Some Names) h k same = absurd (false≢true (sym same))
one_kind (Some Names) None h k same = absurd k
one_kind (Some Names) (Some Truths) h k same = absurd k
one_kind (Some Names) (Some Numbers) h k same = absurd (false≢true (sym same))
one_kind (Some Names) (Some Names) h k same = refl

-- the kinds of a rank that matches are those asked
none_long : (n : ℕ) → 0 ≡ suc n → ⊥
none_long n h = omega (arith, h)

matched : (families : List (Option Family)) (scope : Scope) (parts : List RankPart) → All IsKnown families → All (λ (part : RankPart). first_of (part_faults scope.params part) ≡ None) parts
    → first_of (kind_faults families scope.params parts) ≡ None → length families ≡ length parts
    → map (element_kind (map param_in scope.params)) (map (rank_in scope) parts) ≡ map family_kind families
matched [] scope [] known none h long = refl
matched [] scope (part ∷ parts) known none h long = absurd (none_long (length parts) long)
matched (f ∷ families) scope [] known none h long = absurd (none_long (length families) (sym long))
matched (f ∷ families) scope (part ∷ parts) known none h long =
    let here : List Fault = fault_if (is_other_family f (part_family scope.params part)) 8 (element_start part.element) in
    let rest : List Fault = kind_faults families scope.params parts in
    let r = element_ranked scope part.element (All-head (λ (p : RankPart). first_of (part_faults scope.params p) ≡ None) part parts none) in
    let same = one_kind f (part_family scope.params part) (All-head IsKnown f families known) r.known (if_none (is_other_family f (part_family scope.params part)) 8 (element_start part.element) (none_front here rest h)) in
    ap (λ k. k ∷ map (element_kind (map param_in scope.params)) (map (rank_in scope) parts)) (r.is ∙ same)
    ∙ ap (λ ks. family_kind f ∷ ks) (matched families scope parts (All-tail IsKnown f families known)
    (All-tail (λ (p : RankPart). first_of (part_faults scope.params p) ≡ None) part parts none) (none_rest here rest h) (omega (arith, long)))

all_known : (params : List Parameter) (states : List State) (parts : List RankPart) → All (λ (part : RankPart). first_of (part_faults params part) ≡ None) parts → All IsKnown (map (part_family params) parts)
all_known params states parts none =
    All-map IsKnown (part_family params) parts (λ k d lt. (element_ranked (scope_of states params) (slice_index_or parts k d).element (none k d lt)).known)

same_length : (m n : ℕ) → not (m == n) ≡ false → m ≡ n
same_length m n h = grind arith

-- what the rules of ranks say of an operation
record RankHolds (families : List (Option Family)) (o : Operation) : Type 0 where
  parts : All (λ (part : RankPart). first_of (part_faults o.params part) ≡ None) o.rank
  kinds : first_of (kind_faults families o.params o.rank) ≡ None
  long : length families ≡ length o.rank

rank_holds : (states : List State) (families : List (Option Family)) (o : Operation) → first_of (operation_faults states families o) ≡ None → RankHolds families o
rank_holds states families o h =
    let named : List Fault = param_faults states o.params in
    let parts : List Fault = flat_map (part_faults o.params) o.rank in
    let matches : List Fault = match_faults families o.params o.rank (colon_of o.assignments) in
    let assigned : List Fault = assignments_faults [] (scope_of states o.params) o.assignments in
    let three = none_front (named ++ parts ++ matches) assigned h in
    let match_none = none_rest (named ++ parts) matches three in
    let counts : List Fault = fault_if (not (length families == length o.rank)) 8 (behind_elements (min (length families) (length o.rank)) o.rank (colon_of o.assignments)) in
    record {
      parts = none_each (part_faults o.params) o.rank (none_rest named parts (none_front (named ++ parts) matches three));
      kinds = none_front (kind_faults families o.params o.rank) counts match_none;
      long = same_length (length families) (length o.rank) (if_none (not (length families == length o.rank)) 8 (behind_elements (min (length families) (length o.rank)) o.rank (colon_of o.assignments))
          (none_rest (kind_faults families o.params o.rank) counts match_none));
    }

families_known : (states : List State) (os : List Operation) → All (RankHolds (first_families os)) os → All IsKnown (first_families os)
families_known states [] h = All-nil IsKnown
families_known states (o ∷ os) h = all_known o.params states o.rank (All-head (RankHolds (first_families (o ∷ os))) o os h).parts

each_alike : (states : List State) (os : List Operation) → All (RankHolds (first_families os)) os → All (λ (o : OperationForm). rank_kinds o ≡ map family_kind (first_families os)) (map (operation_in states) os)
each_alike states os h =
    All-map (λ (o : OperationForm). rank_kinds o ≡ map family_kind (first_families os)) (operation_in states) os
    (λ k d lt. let o : Operation = slice_index_or os k d in
    let r = h k d lt in matched (first_families os) (scope_of states o.params) o.rank (families_known states os h) r.parts r.kinds r.long)

pub alike : (t : TypeText) → first_refusal t ≡ None → HasAlikeRanks (type_in t)
alike t h =
    let none : first_of (faults_of t) ≡ None = faults_none (first_of (faults_of t)) (first_of (limits_of t)) h in
    let starts : List Fault = state_faults t.states in
    let names : List Fault = twice_among [] (item_names t) in
    let operations : List Fault = flat_map (operation_faults t.states (first_families t.operations)) t.operations in
    let queries : List Fault = flat_map (query_faults t.states) t.queries in
    let each = none_each (operation_faults t.states (first_families t.operations)) t.operations (none_rest (starts ++ names) operations (none_front (starts ++ names ++ operations) queries none)) in
    let kinds = each_alike t.states t.operations (λ k d lt. rank_holds t.states (first_families t.operations) (slice_index_or t.operations k d) (each k d lt)) in
    λ i j d lt le. kinds i d lt ∙ sym (kinds j d le)

pub file_alike : (text : List ℕ) (ty : TypeForm) → IsTypeFile text ty → HasAlikeRanks ty
file_alike text ty f = subst (λ t. HasAlikeRanks t) (sym f.says) (alike f.phrases (not_refused f.phrases f.keeps))

-- the rank of an operation that fits the type has the kinds that are stated
value_kind : (s : Sort) (v : Value) → HasSort s v → kind_of v ≡ sort_kind s
value_kind OfBool (value.Bool b) h = refl
value_kind OfBool (value.Num z) h = absurd h
value_kind OfBool (value.Name n) h = absurd h
value_kind OfInt (value.Bool b) h = absurd h
value_kind OfInt (value.Num z) h = refl
value_kind OfInt (value.Name n) h = absurd h
value_kind OfNat (value.Bool b) h = absurd h
value_kind OfNat (value.Num z) h = refl
value_kind OfNat (value.Name n) h = absurd h
value_kind OfName (value.Bool b) h = absurd h
value_kind OfName (value.Num z) h = absurd h
value_kind OfName (value.Name n) h = refl

given_kind : (params : List Param) (done : Done) (place : ℕ) (o : Option Param) → slice_get params place ≡ o → MatchOption o ⊥ (λ (p : Param). p.sort ≢ OfBool)
    → ((at : ℕ) (p : Param) → slice_get params at ≡ Some p → HasSort p.sort (argument done.args at)) → kind_of (argument done.args place) ≡ argument_kind o
given_kind params done place None is fits args = absurd fits
given_kind params done place (Some p) is fits args = value_kind p.sort (argument done.args place) (args place p is)

given : (params : List Param) (done : Done) (e : Rank) → RankFits params e → ((at : ℕ) (p : Param) → slice_get params at ≡ Some p → HasSort p.sort (argument done.args at))
    → kind_of (element_value done e) ≡ element_kind params e
given params done (rank.Digit n) fits args = refl
given params done rank.Time fits args = refl
given params done rank.Replica fits args = refl
given params done (rank.Arg place) fits args = given_kind params done place (slice_get params place) refl fits args

each_given : (params : List Param) (done : Done) (ranks : List Rank) → All (RankFits params) ranks → ((at : ℕ) (p : Param) → slice_get params at ≡ Some p → HasSort p.sort (argument done.args at))
    → map kind_of (map (element_value done) ranks) ≡ map (element_kind params) ranks
each_given params done [] fits args = refl
each_given params done (e ∷ ranks) fits args =
    ap (λ k. k ∷ map kind_of (map (element_value done) ranks)) (given params done e (All-head (RankFits params) e ranks fits) args)
    ∙ ap (λ ks. element_kind params e ∷ ks) (each_given params done ranks (All-tail (RankFits params) e ranks fits) args)

stated_kinds : (ty : TypeForm) (done : Done) → IsWellSorted ty → (f : FitsType ty done) → map kind_of (rank_of ty done) ≡ rank_kinds f.operation
stated_kinds ty done sorted f =
    let here : get_or ty.ops done.op f.operation ≡ f.operation = get_or_from_slice_get ty.ops done.op f.operation f.operation f.there in
    let fits : OperationFits ty.fields f.operation =
    subst (λ o. OperationFits ty.fields o) here (sorted.operations done.op f.operation (slice_get_within ty.ops done.op f.operation f.there)) in
    ap (λ o. map kind_of (map (element_value done) (stated_rank o))) f.there ∙ each_given f.operation.params done f.operation.ranks fits.ranks f.args

pub kinds_alike : (ty : TypeForm) (one other : Done) → IsWellSorted ty → HasAlikeRanks ty → FitsType ty one → FitsType ty other → map kind_of (rank_of ty one) ≡ map kind_of (rank_of ty other)
kinds_alike ty one other sorted alike f g =
    let this : get_or ty.ops one.op f.operation ≡ f.operation = get_or_from_slice_get ty.ops one.op f.operation f.operation f.there in
    let that : get_or ty.ops other.op f.operation ≡ g.operation = get_or_from_slice_get ty.ops other.op g.operation f.operation g.there in
    stated_kinds ty one sorted f ∙ sym (ap rank_kinds this)
    ∙ alike one.op other.op f.operation (slice_get_within ty.ops one.op f.operation f.there) (slice_get_within ty.ops other.op g.operation g.there)
    ∙ ap rank_kinds that ∙ sym (stated_kinds ty other sorted g)
