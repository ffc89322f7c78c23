-- The claims of conjuncts are light on a light side.
use Rattle.std.proofs.Common.{◌≡◌, ℕ, suc, ◌*◌, ◌≤◌, pos, true, false, List, [], ◌∷◌, map, refl, sym, subst, arith, Option, None, Some, ◌+◌}
use Rattle.std.specs.Prelude.{slice_get}
use Rattle.std.proofs.lemmas.Nat.{mul-le}
use Rattle.kat_num.specs.declared.values.Sort.{Sort}
use Rattle.kat_num.specs.declared.values.Sort.TheVariants.{Bool as OfBool, Int as OfInt, Nat as OfNat, Name as OfName}
use Rattle.kat_num.specs.declared.values.TheConstants.{NUMBER_LIMIT}
use Rattle.kat_expr.specs.Sorts.{FitsSort, IsChosen, Kept as KeptSort}
use Rattle.kat_expr.specs.Terms.{node_count}
use Rattle.kat_form.specs.Facts.{Fact, listed}
use Rattle.kat_form.specs.Facts.Fact.{any_of}
use Rattle.kat_form.specs.Facts.Facts.{none}
use Rattle.kat_design.specs.Designs.{AskForm, ComponentForm, DesignForm}
use Rattle.kat_design.specs.Kinds.{sort_kind}
use Rattle.kat_design.specs.Sizes.{ask_nodes}
use Rattle.kat_design.specs.Sorted.{HasKind}
use Rattle.kat_design.specs.declared.sizes.TheConstants.{SIZE_LIMIT}
use Rattle.kat_relation.specs.declared.relations.Conjunct.{Conjunct}
use Rattle.kat_relation.specs.declared.relations.Conjunct.TheVariants.{Query, Equal, Bounded, AtLeast, Matched, Total}
use Rattle.kat_relation.specs.declared.relations.LeafRef.{LeafRef}
use Rattle.kat_type.specs.Fits.{kept_of, sorts_of}
use Rattle.kat_type.specs.Limits.{node_limit}
use Rattle.kat_type.specs.Signatures.{param_sorts}
use Rattle.kat_type.specs.Types.{QueryForm, TypeForm}
use Rattle.kat_type.specs.Within.{IsLimited}
use Rattle.kat_claims.specs.Asks.{number_asked}
use Rattle.kat_claims.specs.Claims.{same_answers, answers_read, place_of_ref, elements_read, equal_claim, bounded_claim, at_least_claim, matched_claim, total_claim, claim_read}
use Rattle.kat_claims.specs.States.{is_truth_sort}
use Rattle.kat_symbols.specs.Readers.{Reader}
use Rattle.kat_symbols.specs.Sides.{Side}
use Rattle.kat_symbols.specs.Sums.{numeral}
use Rattle.kat_symbols.specs.Symbols.{as_number}
use Rattle.kat_symbols.specs.Terms.{number_kept, number_read, truth_kept, truth_read}
use Rattle.kat_symbols.specs.declared.names.Instance.{Instance}
use Rattle.kat_symbols.specs.declared.names.Place.{Place}
use Rattle.kat_symbols.specs.declared.names.Place.TheVariants.{Field, Leaf}
use Rattle.kat_bounds.specs.Named.{HasNames}
use Rattle.kat_bounds.proofs.Weights.{IsUpTo, up_more, natural_up}
use Rattle.kat_bounds.proofs.Facts.{most, most_above, nine_low, IsLightFact, any_light, more_light, none_light, known_light, denied_light, or_light, and_light, le_light, same_light, truth_same_light}
use Rattle.kat_bounds.proofs.Readers.{ArePairsUp, IsLight, IsSymbolUpTo, Yields, spend, as_number_up, no_pairs, number_in_up, number_symbol, pair_more, symbol_more, symbol_same_light, symbols_lt_light, truth_in_light}
use Rattle.kat_bounds.proofs.Caps.{leaf_most, place_low, sort_low}
use Rattle.kat_bounds.proofs.Terms.{IsLightSide, number_read_up, truth_read_up}
use Rattle.kat_bounds.proofs.Asks.{ask_low, number_asked_up, truth_asked_up}
use Rattle.kat_bounds.proofs.Sides.{after_low, after_most}

-- the asks of a design have few nodes, and a query's expression few nodes over what an operation may leave
pub asks_low : (k : ℕ) → k ≤ SIZE_LIMIT → leaf_most * k ≤ most
unfolding leaf_most most
asks_low k h = omega (arith, h)

pub reads_low : (n k : ℕ) → n ≤ after_most → k ≤ node_limit → n * k ≤ most
unfolding after_most most
reads_low n k h few = omega (arith, mul-le n k after_most node_limit h few)

-- a query and its ask, if there are both
pub record AnswerIsSound (ty : TypeForm) (components : List ComponentForm) (query : QueryForm) (ask : AskForm) : Type 0 where
  pub right : FitsSort (sorts_of ty.fields query.params) query.right query.sort
  pub limited : IsLimited query.right
  pub named : HasNames query.right
  pub answers : HasKind components (param_sorts query.params) ask (sort_kind query.sort)
  pub small : ask_nodes ask ≤ SIZE_LIMIT

abbrev pub IsAnswerSound : TypeForm → List ComponentForm → Option QueryForm → Option AskForm → Type 0
IsAnswerSound ty components None ask = Unit {0}
IsAnswerSound ty components (Some query) None = Unit {0}
IsAnswerSound ty components (Some query) (Some ask) = AnswerIsSound ty components query ask

-- the digit of a conjunct is one
abbrev pub HasDigit : Conjunct → Type 0
HasDigit (Query query) = Unit {0}
HasDigit (Equal f leaf) = Unit {0}
HasDigit (Bounded leaves position) = Unit {0}
HasDigit (AtLeast leaf position digit) = digit ≤ 9
HasDigit (Matched first position second later digit) = digit ≤ 9
HasDigit (Total component) = Unit {0}

-- how many slots a claim takes at most, on a side where a value takes this many
abbrev pub elements_cost : ℕ → List LeafRef → ℕ
elements_cost cost [] = 0
elements_cost cost (ref ∷ refs) = (2 + cost) + elements_cost cost refs

abbrev pub claim_cost : ℕ → Conjunct → ℕ
claim_cost cost (Query query) = cost * 464
claim_cost cost (Equal f leaf) = cost + cost
claim_cost cost (Bounded leaves position) = elements_cost cost leaves
claim_cost cost (AtLeast leaf position digit) = cost + 1
claim_cost cost (Matched first position second later digit) = cost + (1 + (cost + 1))
claim_cost cost (Total component) = cost

query_within : (cost n k left : ℕ) → n ≤ node_limit → k ≤ SIZE_LIMIT → cost * n + (cost * k + left) ≤ cost * 464 + left
query_within cost n k left few small = omega (arith, mul-le cost n cost 400 (omega arith) few, mul-le cost k cost 64 (omega arith) small)

-- a reader may have this many slots
module _ (slots_most : ℕ) where
  digit_up : (digit : ℕ) → digit ≤ 9 → IsUpTo slots_most most (numeral (pos digit))
  digit_up digit h = natural_up slots_most most digit (omega (arith, h, nine_low))

  module _ (ty : TypeForm) (design : DesignForm) (caps : ℕ × ℕ × ℕ × ℕ → ℕ) (n cost : ℕ) (low : n ≤ after_most) (limit : NUMBER_LIMIT ≤ n) (paid : 1 ≤ cost) (side : Side) (light : IsLightSide slots_most caps n cost (map kept_of ty.fields) design.components side) where
    abbrev fields : List KeptSort
    fields = map kept_of ty.fields

    n_low : n ≤ most
    n_low = omega (arith, low, after_low)

    pub value_up : (place : Place) (at : Option Instance) (left : ℕ) (r : Reader) → IsLight slots_most caps (cost + left) r → Yields slots_most caps left (IsSymbolUpTo slots_most most) (side.value place at r)
    value_up place at left r h = let x = light.value place at left r h in record { value = symbol_more slots_most _ most _ (place_low n fields design.components place n_low) x.value; reader = x.reader }

    number_value : (place : Place) (at : Option Instance) (left : ℕ) (r : Reader) → IsLight slots_most caps (cost + left) r → Yields slots_most caps left (IsUpTo slots_most most) (number_kept side place at r)
    number_value place at left r h = let x = value_up place at left r h in record { value = number_in_up slots_most most _ x.value; reader = x.reader }

    truth_value : (place : Place) (at : Option Instance) (left : ℕ) (r : Reader) → IsLight slots_most caps (cost + left) r → Yields slots_most caps left (IsLightFact slots_most) (truth_kept side place at r)
    truth_value place at left r h = let x = value_up place at left r h in record { value = truth_in_light slots_most most _ x.value; reader = x.reader }

    right_up : (at : Option Instance) (query : QueryForm) (ask : AskForm) → AnswerIsSound ty design.components query ask → IsChosen query.sort → (left : ℕ) (r : Reader) → IsLight slots_most caps (cost * node_count query.right + left) r
        → Yields slots_most caps left (IsUpTo slots_most most) (number_read side at query.right r)
    right_up at query ask sound c left r h =
        let few = reads_low n (node_count query.right) low sound.limited.nodes in
        let x = number_read_up slots_most caps n cost fields design.components side light (param_sorts query.params) at limit paid query.right query.sort c sound.right sound.limited.constants sound.named few left r h in
        record { value = up_more slots_most _ most _ (sort_low _ query.sort few) x.value; reader = x.reader }

    asked_up : (at : Option Instance) (query : QueryForm) (ask : AskForm) → AnswerIsSound ty design.components query ask → (left : ℕ) (r : Reader) → IsLight slots_most caps (cost * ask_nodes ask + left) r
        → Yields slots_most caps left (IsUpTo slots_most most) (number_asked side at ask r)
    asked_up at query ask sound left r h =
        let few = asks_low (ask_nodes ask) sound.small in
        let x = number_asked_up slots_most caps n cost fields design.components side light paid (param_sorts query.params) at ask (sort_kind query.sort) sound.answers few left r h in
        record { value = up_more slots_most _ most _ (ask_low _ (sort_kind query.sort) few) x.value; reader = x.reader }

    shared : (query : QueryForm) (ask : AskForm) → AnswerIsSound ty design.components query ask → (left : ℕ) (r : Reader) → IsLight slots_most caps (cost * 464 + left) r → IsLight slots_most caps (cost * node_count query.right + (cost * ask_nodes ask + left)) r
    shared query ask sound left r h = spend slots_most caps (cost * node_count query.right + (cost * ask_nodes ask + left)) r h (query_within cost (node_count query.right) (ask_nodes ask) left sound.limited.nodes sound.small)

    numbers_same : (at : Option Instance) (query : QueryForm) (ask : AskForm) → AnswerIsSound ty design.components query ask → IsChosen query.sort → (left : ℕ) (r : Reader) → IsLight slots_most caps (cost * 464 + left) r
        → Yields slots_most caps left (IsLightFact slots_most) (same_answers side at query ask false r)
    numbers_same at query ask sound c left r h =
        let x = right_up at query ask sound c (cost * ask_nodes ask + left) r (shared query ask sound left r h) in
        let y = asked_up at query ask sound left (number_read side at query.right r).1 x.reader in
        record { value = same_light slots_most _ _ x.value y.value; reader = y.reader }

    truths_same : (at : Option Instance) (query : QueryForm) (ask : AskForm) → AnswerIsSound ty design.components query ask → query.sort ≡ OfBool → (left : ℕ) (r : Reader) → IsLight slots_most caps (cost * 464 + left) r
        → Yields slots_most caps left (IsLightFact slots_most) (same_answers side at query ask true r)
    truths_same at query ask sound is left r h =
        let few = reads_low n (node_count query.right) low sound.limited.nodes in
        let right : FitsSort (sorts_of ty.fields query.params) query.right OfBool = subst (λ s. FitsSort (sorts_of ty.fields query.params) query.right s) is sound.right in
        let x = truth_read_up slots_most caps n cost fields design.components side light (param_sorts query.params) at limit paid query.right right sound.limited.constants sound.named few (cost * ask_nodes ask + left) r (shared query ask sound left r h) in
        let y = truth_asked_up slots_most caps n cost fields design.components side light paid (param_sorts query.params) at ask (sort_kind query.sort) sound.answers (asks_low (ask_nodes ask) sound.small) left (truth_read side at query.right r).1 x.reader in
        record { value = truth_same_light slots_most _ _ x.value y.value; reader = y.reader }

    same_up : (at : Option Instance) (query : QueryForm) (ask : AskForm) → AnswerIsSound ty design.components query ask → (left : ℕ) (r : Reader) → IsLight slots_most caps (cost * 464 + left) r
        → Yields slots_most caps left (IsLightFact slots_most) (same_answers side at query ask (is_truth_sort query.sort) r)
    same_up at query ask sound left r h = by_sort query.sort refl
      where
        by_sort : (s : Sort) → query.sort ≡ s → Yields slots_most caps left (IsLightFact slots_most) (same_answers side at query ask (is_truth_sort s) r)
        by_sort OfBool is = truths_same at query ask sound is left r h
        by_sort OfInt is = numbers_same at query ask sound (subst IsChosen (sym is) tt) left r h
        by_sort OfNat is = numbers_same at query ask sound (subst IsChosen (sym is) tt) left r h
        by_sort OfName is = numbers_same at query ask sound (subst IsChosen (sym is) tt) left r h

    pub answers_up : (at : Option Instance) (query : Option QueryForm) (ask : Option AskForm) → IsAnswerSound ty design.components query ask → (left : ℕ) (r : Reader) → IsLight slots_most caps (cost * 464 + left) r
        → Yields slots_most caps left (IsLightFact slots_most) (answers_read side at query ask r)
    answers_up at None ask sound left r h = record { value = known_light slots_most false; reader = spend slots_most caps left r h (omega arith) }
    answers_up at (Some query) None sound left r h = record { value = known_light slots_most false; reader = spend slots_most caps left r h (omega arith) }
    answers_up at (Some query) (Some ask) sound left r h = same_up at query ask sound left r h

    equal_up : (at : Option Instance) (f : ℕ) (leaf : LeafRef) (left : ℕ) (r : Reader) → IsLight slots_most caps ((cost + cost) + left) r → Yields slots_most caps left (IsLightFact slots_most) (equal_claim side at f leaf r)
    equal_up at f leaf left r h =
        let x = value_up (Field f) at (cost + left) r (spend slots_most caps (cost + (cost + left)) r h (omega arith)) in
        let y = value_up (place_of_ref leaf) at left (side.value (Field f) at r).1 x.reader in
        record { value = symbol_same_light slots_most _ _ x.value y.value; reader = y.reader }

    elements_up : (at : Option Instance) (position : ℕ) (refs : List LeafRef) (left : ℕ) (r : Reader) → IsLight slots_most caps (elements_cost cost refs + left) r → Yields slots_most caps left (ArePairsUp slots_most) (elements_read side at position refs r)
    elements_up at position [] left r h = record { value = no_pairs slots_most; reader = spend slots_most caps left r h (omega arith) }
    elements_up at position (ref ∷ refs) left r h =
        let more = elements_cost cost refs + left in
        let e = side.element position r in
        let s = side.value (place_of_ref ref) at e.1 in
        let p = light.element position (cost + (1 + more)) r (spend slots_most caps (1 + (cost + (1 + more))) r h (omega arith)) in
        let q = value_up (place_of_ref ref) at (1 + more) e.1 p.reader in
        let y = as_number_up slots_most caps most s.0 more s.1 most_above (omega arith) q.value q.reader in
        let rest = elements_up at (suc position) refs left (as_number s.0 s.1).1 y.reader in
        record { value = pair_more slots_most _ _ _ (number_symbol slots_most most _ p.value) (number_symbol slots_most most _ y.value) rest.value; reader = rest.reader }

    bounded_up : (at : Option Instance) (leaves : List LeafRef) (position left : ℕ) (r : Reader) → IsLight slots_most caps (elements_cost cost leaves + left) r → Yields slots_most caps left (IsLightFact slots_most) (bounded_claim side at leaves position r)
    bounded_up at leaves position left r h =
        let begun = light.begun (elements_cost cost leaves + left) r h in
        let pairs = elements_up at position leaves left (side.begun r).1 begun.reader in
        record { value = or_light slots_most _ _ (denied_light slots_most _ begun.value) (denied_light slots_most _ (symbols_lt_light slots_most _ pairs.value)); reader = pairs.reader }

    at_least_up : (at : Option Instance) (leaf : LeafRef) (position digit : ℕ) → digit ≤ 9 → (left : ℕ) (r : Reader) → IsLight slots_most caps ((cost + 1) + left) r → Yields slots_most caps left (IsLightFact slots_most) (at_least_claim side at leaf position digit r)
    at_least_up at leaf position digit small left r h =
        let begun = light.begun (cost + (1 + left)) r (spend slots_most caps (cost + (1 + left)) r h (omega arith)) in
        let x = truth_value (place_of_ref leaf) at (1 + left) (side.begun r).1 begun.reader in
        let e = light.element position left (truth_kept side (place_of_ref leaf) at (side.begun r).1).1 x.reader in
        record { value = or_light slots_most _ _ (denied_light slots_most _ x.value) (and_light slots_most _ _ begun.value (le_light slots_most _ _ (digit_up digit small) e.value)); reader = e.reader }

    four_light : (a b c d : Fact) → IsLightFact slots_most a → IsLightFact slots_most b → IsLightFact slots_most c → IsLightFact slots_most d → IsLightFact slots_most (any_of (listed (a ∷ b ∷ c ∷ d ∷ [])))
    four_light a b c d p q s t = any_light slots_most _ (more_light slots_most a _ p (more_light slots_most b _ q (more_light slots_most c _ s (more_light slots_most d none t (none_light slots_most)))))

    matched_up : (at : Option Instance) (first : LeafRef) (position : ℕ) (second : LeafRef) (later digit : ℕ) → digit ≤ 9 → (left : ℕ) (r : Reader) → IsLight slots_most caps ((cost + (1 + (cost + 1))) + left) r
        → Yields slots_most caps left (IsLightFact slots_most) (matched_claim side at first position second later digit r)
    matched_up at first position second later digit small left r h =
        let begun = light.begun (cost + (1 + (cost + (1 + left)))) r (spend slots_most caps (cost + (1 + (cost + (1 + left)))) r h (omega arith)) in
        let x = number_value (place_of_ref first) at (1 + (cost + (1 + left))) (side.begun r).1 begun.reader in
        let e = light.element position (cost + (1 + left)) (number_kept side (place_of_ref first) at (side.begun r).1).1 x.reader in
        let y = truth_value (place_of_ref second) at (1 + left) (side.element position (number_kept side (place_of_ref first) at (side.begun r).1).1).1 e.reader in
        let d = light.element later left (truth_kept side (place_of_ref second) at (side.element position (number_kept side (place_of_ref first) at (side.begun r).1).1).1).1 y.reader in
        record { value = four_light _ _ _ _ (denied_light slots_most _ begun.value) (denied_light slots_most _ (same_light slots_most _ _ x.value e.value)) (denied_light slots_most _ y.value) (le_light slots_most _ _ (digit_up digit small) d.value); reader = d.reader }

    total_up : (at : Option Instance) (component left : ℕ) (r : Reader) → IsLight slots_most caps (cost + left) r → Yields slots_most caps left (IsLightFact slots_most) (total_claim side at component r)
    total_up at component left r h = let x = number_value (Leaf component 0) at left r h in record { value = le_light slots_most _ _ (natural_up slots_most most 0 (omega arith)) x.value; reader = x.reader }

    pub claim_up : ((q : ℕ) → IsAnswerSound ty design.components (slice_get ty.queries q) (slice_get design.asks q)) → (c : Conjunct) → HasDigit c → (at : Option Instance) (left : ℕ) (r : Reader)
        → IsLight slots_most caps (claim_cost cost c + left) r → Yields slots_most caps left (IsLightFact slots_most) (claim_read ty design side c at r)
    claim_up sound (Query query) small at left r h = answers_up at (slice_get ty.queries query) (slice_get design.asks query) (sound query) left r h
    claim_up sound (Equal f leaf) small at left r h = equal_up at f leaf left r h
    claim_up sound (Bounded leaves position) small at left r h = bounded_up at leaves position left r h
    claim_up sound (AtLeast leaf position digit) small at left r h = at_least_up at leaf position digit small left r h
    claim_up sound (Matched first position second later digit) small at left r h = matched_up at first position second later digit small left r h
    claim_up sound (Total component) small at left r h = total_up at component left r h
