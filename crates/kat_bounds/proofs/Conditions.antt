-- The facts of each condition are light.
use Rattle.std.proofs.Common.{◌≡◌, ℕ, zero, suc, ◌+◌, ◌-◌, ◌≤◌, List, [], ◌∷◌, ◌++◌, All, reverse, refl, sym, ◌∙◌, subst, arith, Option, None, Some, ◌*◌, length}
use Rattle.std.specs.Prelude.{get_or, slice_get, sum_by}
use Rattle.std.proofs.lemmas.List.Elements.{All-cons, All-head, All-nil, All-tail}
use Rattle.std.proofs.lemmas.List.{reverse-append}
use Rattle.std.proofs.lemmas.List.Sums.{get_or-le-sum_by}
use Rattle.std.proofs.lemmas.Option.{slice_get_within, slice_get-get_or}
use Rattle.kat_num.specs.declared.values.Sort.{Sort}
use Rattle.kat_num.specs.declared.values.TheConstants.{NUMBER_LIMIT}
use Rattle.kat_form.specs.Facts.{Fact, forms_among, forms_in, forms_in_each, listed}
use Rattle.kat_design.specs.Designs.{DesignForm}
use Rattle.kat_design.specs.Sorted.{EachHas}
use Rattle.kat_relation.specs.Keys.{conjunct_key}
use Rattle.kat_relation.specs.declared.relations.Conjunct.{Conjunct}
use Rattle.kat_type.specs.Fits.{sorts_of}
use Rattle.kat_type.specs.Types.{OperationForm, QueryForm, TypeForm}
use Rattle.kat_type.specs.declared.types.Param.{Param}
use Rattle.kat_type.specs.declared.types.Rank.{Rank}
use Rattle.kat_type.specs.declared.types.Rank.TheVariants as rank
use Rattle.kat_claims.specs.Claims.{answers_read, claim_read}
use Rattle.kat_vc.specs.Conditions.{Condition, answers_of_each, answers_stated, claim_at, condition_stated, conditions, facts_by, facts_of_condition, kept_stated, start_stated, starts, state_stated, step_stated, steps, steps_of_each}
use Rattle.kat_vc.specs.Conditions.Condition.{start, step, answers}
use Rattle.kat_claims.specs.Groups.{keys_stated, last_read, naturals_stated, order_stated, start_read, stated}
use Rattle.kat_claims.specs.States.{old_side, start_side}
use Rattle.kat_vc.specs.Steps.{after_side}
use Rattle.kat_claims.specs.Places.{all_looked_at, all_natural, claim_keys, keys_of, natural_keys, spots_of}
use Rattle.kat_symbols.specs.Readers.{Reader, fresh}
use Rattle.kat_symbols.specs.declared.names.Instance.{Instance}
use Rattle.kat_symbols.specs.declared.names.Place.{Place}
use Rattle.kat_bounds.proofs.Weights.{IsUpTo}
use Rattle.kat_bounds.proofs.Facts.{fact_most, Every, every_append, IsLightFact}
use Rattle.kat_bounds.proofs.Readers.{fresh_light, spend}
use Rattle.kat_bounds.proofs.Sides.{AreSound, IsSoundAssigned, after_light, after_limit, after_most, caps, old_light, start_light, field_cost, value_slots, value_some}
use Rattle.kat_bounds.proofs.Claims.{HasDigit, IsAnswerSound, answers_up, claim_up, value_up, claim_cost}
use Rattle.kat_bounds.proofs.Groups.{IsDigit, IsFactLight, IsValueUp, KeepsLight, denies, keys_light, last_light, naturals_light, order_stated_light, relation_light, start_read_light, states, keys_cost, order_cost, ranks_cost, relation_cost}

-- lists
pub every_all : {X : Type 0} (P : X → Type 0) (xs : List X) → All P xs → Every P xs
every_all P [] h = tt
every_all P (x ∷ xs) h = (All-head P x xs h, every_all P xs (All-tail P x xs h))

pub all_every : {X : Type 0} (P : X → Type 0) (xs : List X) → Every P xs → All P xs
all_every P [] h = All-nil P
all_every P (x ∷ xs) h = All-cons P x xs h.0 (all_every P xs h.1)

pub each_every : {X : Type 0} (P : X → Type 0) (xs : List X) → EachHas P xs → Every P xs
each_every P [] h = tt
each_every P (x ∷ xs) h = (h.0, each_every P xs h.1)

pub every_weaker : {X : Type 0} (P Q : X → Type 0) (xs : List X) → ((x : X) → P x → Q x) → Every P xs → Every Q xs
every_weaker P Q [] f h = tt
every_weaker P Q (x ∷ xs) f h = (f x h.0, every_weaker P Q xs f h.1)

pub every_three : {X : Type 0} (P Q R S : X → Type 0) (xs : List X) → ((x : X) → P x → Q x → R x → S x) → Every P xs → Every Q xs → Every R xs → Every S xs
every_three P Q R S [] f h k l = tt
every_three P Q R S (x ∷ xs) f h k l = (f x h.0 k.0 l.0, every_three P Q R S xs f h.1 k.1 l.1)

pub every_get : {X : Type 0} (P : X → Type 0) (xs : List X) (i : ℕ) (x : X) → Every P xs → slice_get xs i ≡ Some x → P x
every_get P [] i x h e = absurd (cc)
every_get P (y ∷ xs) zero x h e = let same : y ≡ x = cc in subst P same h.0
every_get P (y ∷ xs) (suc i) x h e = every_get P xs i x h.1 e

pub every_reverse : {X : Type 0} (P : X → Type 0) (xs : List X) → Every P xs → Every P (reverse xs)
every_reverse P [] h = tt
every_reverse P (x ∷ xs) h = subst (Every P) (sym (reverse-append (x ∷ []) xs)) (every_append P (reverse xs) (x ∷ []) (every_reverse P xs h.1) (h.0, tt))

pub sum_has : {X : Type 0} (f : X → ℕ) (xs : List X) (i : ℕ) (x : X) → slice_get xs i ≡ Some x → f x ≤ sum_by f xs
sum_has f xs i x e =
    let inside = slice_get_within xs i x e in
    let there : Some x ≡ Some (get_or xs i x) = sym e ∙ slice_get-get_or xs i x inside in
    let same : x ≡ get_or xs i x = cc in
    subst (λ z. f z ≤ sum_by f xs) (sym same) (get_or-le-sum_by f xs i x inside)

plus_zero : (q : ℕ) → q + 0 ≡ q
plus_zero q = omega arith

plus_next : (q i : ℕ) → q + suc i ≡ suc q + i
plus_next q i = omega arith

zero_plus : (i : ℕ) → 0 + i ≡ i
zero_plus i = omega arith

-- an operation to be trusted
pub record OperationIsSound (ty : TypeForm) (op : OperationForm) : Type 0 where
  pub assigned : Every (IsSoundAssigned (sorts_of ty.fields op.params)) (reverse op.assigned)
  pub cheap : field_cost (reverse op.assigned) ≤ value_slots
  pub digits : Every IsDigit op.ranks

digit_there : (ranks : List Rank) (j n : ℕ) → Every IsDigit ranks → slice_get ranks j ≡ Some (rank.Digit n) → n ≤ 9
digit_there ranks j n h e = every_get IsDigit ranks j (rank.Digit n) h e

pub record AllIsSound (ty : TypeForm) (design : DesignForm) : Type 0 where
  pub sound : AreSound ty design
  pub queries : (q : ℕ) → IsAnswerSound ty design.components (slice_get ty.queries q) (slice_get design.asks q)
  pub ops : Every (OperationIsSound ty) ty.ops

-- how many slots a condition takes at most
abbrev pub state_cost : TypeForm → DesignForm → Option Sort → List Param → ℕ
state_cost ty design claim params = 2 * length (all_looked_at (spots_of ty design) (keys_of claim params)) + (length (all_natural ty design claim params) + (2 + ranks_cost ty.ops))

abbrev pub kept_cost : TypeForm → DesignForm → List Conjunct → Option Sort → List Param → ℕ
kept_cost ty design relation claim params = keys_cost (spots_of ty design) (keys_of claim params) + relation_cost ty design (keys_of claim params) relation

abbrev pub condition_cost : TypeForm → DesignForm → List Conjunct → Condition → ℕ
condition_cost ty design relation (start c) = length (natural_keys (claim_keys (conjunct_key ty design.components c))) + claim_cost 1 c
condition_cost ty design relation (step o op c) =
    let claim = conjunct_key ty design.components c in
    state_cost ty design claim op.params + (order_cost op.ranks + (kept_cost ty design relation claim op.params + claim_cost value_slots c))
condition_cost ty design relation (answers q query) = state_cost ty design None query.params + (kept_cost ty design relation None query.params + 1 * 464)

-- a reader may have this many slots
module _ (slots_most : ℕ) where
  module _ (ty : TypeForm) (design : DesignForm) (all : AllIsSound ty design) (relation : List Conjunct) (digits : Every HasDigit relation) where
    abbrev the_caps : ℕ × ℕ × ℕ × ℕ → ℕ
    the_caps = caps slots_most ty design

    abbrev Keeps : ℕ → (Reader → Reader) → Type 0
    Keeps cost go = KeepsLight slots_most the_caps cost go

    old_value : (place : Place) (at : Option Instance) → IsValueUp slots_most the_caps ((old_side ty design).value place at)
    old_value place at left r h = value_up slots_most ty design the_caps NUMBER_LIMIT 1 after_limit (omega arith) (omega arith) (old_side ty design) (old_light slots_most ty design) place at left r h

    start_value : (place : Place) (at : Option Instance) → IsValueUp slots_most the_caps ((start_side ty design).value place at)
    start_value place at left r h = value_up slots_most ty design the_caps NUMBER_LIMIT 1 after_limit (omega arith) (omega arith) (start_side ty design) (start_light slots_most ty design all.sound) place at left r h

    old_claim : (c : Conjunct) → HasDigit c → (at : Option Instance) → IsFactLight slots_most the_caps (claim_cost 1 c) (claim_read ty design (old_side ty design) c at)
    old_claim c d at left r h = claim_up slots_most ty design the_caps NUMBER_LIMIT 1 after_limit (omega arith) (omega arith) (old_side ty design) (old_light slots_most ty design) all.queries c d at left r h

    start_claim : (c : Conjunct) → HasDigit c → (at : Option Instance) → IsFactLight slots_most the_caps (claim_cost 1 c) (claim_read ty design (start_side ty design) c at)
    start_claim c d at left r h = claim_up slots_most ty design the_caps NUMBER_LIMIT 1 after_limit (omega arith) (omega arith) (start_side ty design) (start_light slots_most ty design all.sound) all.queries c d at left r h

    old_begun : IsFactLight slots_most the_caps 0 (old_side ty design).begun
    old_begun left r h = (old_light slots_most ty design).begun left r (spend slots_most the_caps left r h (omega arith))

    op_digits : Every (λ (o : OperationForm). Every IsDigit o.ranks) ty.ops
    op_digits = every_weaker (OperationIsSound ty) (λ (o : OperationForm). Every IsDigit o.ranks) ty.ops (λ o h. h.digits) all.ops

    state_keeps : (claim : Option Sort) (params : List Param) → Keeps (state_cost ty design claim params) (state_stated ty design claim params)
    state_keeps claim params left r h =
        let seen = all_looked_at (spots_of ty design) (keys_of claim params) in
        let names = all_natural ty design claim params in
        let begun = stated (start_read (old_side ty design) (start_side ty design) seen r) in
        let last = (2 + ranks_cost ty.ops) + left in
        let first = states slots_most the_caps (2 * length seen) (start_read (old_side ty design) (start_side ty design) seen) (start_read_light slots_most the_caps (old_side ty design) (start_side ty design) old_begun old_value start_value seen) (length names + last) r
        (spend slots_most the_caps (2 * length seen + (length names + last)) r h (omega arith)) in
        let second = naturals_light slots_most the_caps names last begun first in
        states slots_most the_caps (2 + ranks_cost ty.ops) (last_read ty.ops) (last_light slots_most the_caps ty.ops op_digits) left (naturals_stated names begun) second

    kept_keeps : (claim : Option Sort) (params : List Param) → Keeps (kept_cost ty design relation claim params) (kept_stated ty design relation claim params)
    kept_keeps claim params left r h =
        let keys = keys_of claim params in
        let more = relation_cost ty design keys relation + left in
        relation_light slots_most the_caps ty design (old_side ty design) HasDigit old_claim keys relation digits left (keys_stated (old_side ty design) (spots_of ty design) keys r)
        (keys_light slots_most the_caps (old_side ty design) old_value (spots_of ty design) keys more r (spend slots_most the_caps (keys_cost (spots_of ty design) keys + more) r h (omega arith)))

    start_keeps : (c : Conjunct) → HasDigit c → (claim : Option Sort) → Keeps (length (natural_keys (claim_keys claim)) + claim_cost 1 c) (start_stated ty design c claim)
    start_keeps c d claim left r h =
        let names = natural_keys (claim_keys claim) in
        denies slots_most the_caps (claim_cost 1 c) (claim_read ty design (start_side ty design) c (claim_at claim)) (start_claim c d (claim_at claim)) left (naturals_stated names r)
        (naturals_light slots_most the_caps names (claim_cost 1 c + left) r (spend slots_most the_caps (length names + (claim_cost 1 c + left)) r h (omega arith)))

    step_keeps : (o : ℕ) (op : OperationForm) → OperationIsSound ty op → (c : Conjunct) → HasDigit c → (claim : Option Sort)
        → Keeps (state_cost ty design claim op.params + (order_cost op.ranks + (kept_cost ty design relation claim op.params + claim_cost value_slots c))) (step_stated ty design relation o op c claim)
    step_keeps o op sound c d claim left r h =
        let after = after_side ty design o op in
        let light = after_light slots_most ty design all.sound o op sound.assigned sound.cheap (λ j n e. digit_there op.ranks j n sound.digits e) in
        let before = state_stated ty design claim op.params r in
        let last = claim_cost value_slots c + left in
        let third = kept_cost ty design relation claim op.params + last in
        let second = order_cost op.ranks + third in
        let first = state_keeps claim op.params second r (spend slots_most the_caps (state_cost ty design claim op.params + second) r h (omega arith)) in
        let ordered = order_stated_light slots_most the_caps after (old_side ty design) light.element (old_light slots_most ty design).element old_begun op.ranks third before first in
        let kept = kept_keeps claim op.params last (order_stated after (old_side ty design) op.ranks before) ordered in
        denies slots_most the_caps (claim_cost value_slots c) (claim_read ty design after c (claim_at claim))
        (claim_up slots_most ty design the_caps after_most value_slots (omega arith) after_limit value_some after light all.queries c d (claim_at claim)) left
        (kept_stated ty design relation claim op.params (order_stated after (old_side ty design) op.ranks before)) kept

    answers_keep : (q : ℕ) (query : QueryForm) → IsAnswerSound ty design.components (Some query) (slice_get design.asks q)
        → Keeps (state_cost ty design None query.params + (kept_cost ty design relation None query.params + 1 * 464)) (answers_stated ty design relation q query)
    answers_keep q query sound left r h =
        let last = 1 * 464 + left in
        let second = kept_cost ty design relation None query.params + last in
        denies slots_most the_caps (1 * 464) (answers_read (old_side ty design) None (Some query) (slice_get design.asks q))
        (answers_up slots_most ty design the_caps NUMBER_LIMIT 1 after_limit (omega arith) (omega arith) (old_side ty design) (old_light slots_most ty design) None (Some query) (slice_get design.asks q) sound) left
        (kept_stated ty design relation None query.params (state_stated ty design None query.params r))
        (kept_keeps None query.params last (state_stated ty design None query.params r)
        (state_keeps None query.params second r (spend slots_most the_caps (state_cost ty design None query.params + second) r h (omega arith))))

    abbrev pub IsConditionSound : Condition → Type 0
    IsConditionSound (start c) = HasDigit c
    IsConditionSound (step o op c) = OperationIsSound ty op × HasDigit c
    IsConditionSound (answers q query) = IsAnswerSound ty design.components (Some query) (slice_get design.asks q)

    condition_keeps : (condition : Condition) → IsConditionSound condition → Keeps (condition_cost ty design relation condition) (condition_stated ty design relation condition)
    condition_keeps (start c) sound left r h = start_keeps c sound (conjunct_key ty design.components c) left r h
    condition_keeps (step o op c) sound left r h = step_keeps o op sound.0 c sound.1 (conjunct_key ty design.components c) left r h
    condition_keeps (answers q query) sound left r h = answers_keep q query sound left r h

    starts_sound : (cs : List Conjunct) → Every HasDigit cs → Every IsConditionSound (starts cs)
    starts_sound [] h = tt
    starts_sound (c ∷ cs) h = (h.0, starts_sound cs h.1)

    steps_sound : (o : ℕ) (op : OperationForm) → OperationIsSound ty op → (cs : List Conjunct) → Every HasDigit cs → Every IsConditionSound (steps o op cs)
    steps_sound o op sound [] h = tt
    steps_sound o op sound (c ∷ cs) h = ((sound, h.0), steps_sound o op sound cs h.1)

    each_steps_sound : (o : ℕ) (ops : List OperationForm) → Every (OperationIsSound ty) ops → Every IsConditionSound (steps_of_each o ops relation)
    each_steps_sound o [] h = tt
    each_steps_sound o (op ∷ ops) h = every_append IsConditionSound (steps o op relation) (steps_of_each (suc o) ops relation) (steps_sound o op h.0 relation digits) (each_steps_sound (suc o) ops h.1)

    answers_sound : (q : ℕ) (queries : List QueryForm) → ((i : ℕ) → IsAnswerSound ty design.components (slice_get queries i) (slice_get design.asks (q + i))) → Every IsConditionSound (answers_of_each q queries)
    answers_sound q [] h = tt
    answers_sound q (query ∷ queries) h = (
      subst (λ n. IsAnswerSound ty design.components (Some query) (slice_get design.asks n)) (plus_zero q) (h 0),
      answers_sound (suc q) queries (λ i. subst (λ n. IsAnswerSound ty design.components (slice_get queries i) (slice_get design.asks n)) (plus_next q i) (h (suc i))),
    )

    pub conditions_sound : Every IsConditionSound (conditions ty relation)
    conditions_sound =
        every_append IsConditionSound (starts relation ++ steps_of_each 0 ty.ops relation) (answers_of_each 0 ty.queries)
        (every_append IsConditionSound (starts relation) (steps_of_each 0 ty.ops relation) (starts_sound relation digits) (each_steps_sound 0 ty.ops all.ops))
        (answers_sound 0 ty.queries (λ i. subst (λ n. IsAnswerSound ty design.components (slice_get ty.queries i) (slice_get design.asks n)) (sym (zero_plus i)) (all.queries i)))

    -- the condition takes no more slots than there are
    abbrev pub HasRoom : Option Condition → Type 0
    HasRoom None = Unit {0}
    HasRoom (Some condition) = condition_cost ty design relation condition ≤ slots_most

    facts_light : (k : ℕ) → HasRoom (slice_get (conditions ty relation) (k - 1)) → Every (IsLightFact slots_most) (facts_of_condition ty design relation k)
    facts_light k room = by_condition (slice_get (conditions ty relation) (k - 1)) refl room
      where
        by_condition : (o : Option Condition) → slice_get (conditions ty relation) (k - 1) ≡ o → HasRoom o → Every (IsLightFact slots_most) (facts_by ty design relation o)
        by_condition None e room = tt
        by_condition (Some condition) e room =
            (condition_keeps condition (every_get IsConditionSound (conditions ty relation) (k - 1) condition conditions_sound e) 0 fresh (spend slots_most the_caps (condition_cost ty design relation condition + 0) fresh (fresh_light slots_most the_caps) (omega (arith, room)))).facts

    pub forms_up : (k : ℕ) → HasRoom (slice_get (conditions ty relation) (k - 1)) → Every (IsUpTo slots_most fact_most) (forms_among (facts_of_condition ty design relation k))
    forms_up k room = in_each (facts_of_condition ty design relation k) (facts_light k room)
      where
        in_each : (fs : List Fact) → Every (IsLightFact slots_most) fs → Every (IsUpTo slots_most fact_most) (forms_in_each (listed fs))
        in_each [] h = tt
        in_each (f ∷ fs) h = every_append (IsUpTo slots_most fact_most) (forms_in f) (forms_in_each (listed fs)) h.0.forms (in_each fs h.1)
