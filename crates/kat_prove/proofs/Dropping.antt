-- A candidate is dropped, and the others stay.
use Rattle.std.proofs.Common.{◌≡◌, ℕ, zero, suc, ◌+◌, ◌-◌, ◌<◌, ◌≤◌, inl, inr, Bool, true, false, ◌||◌, if◌then◌else◌, List, [], ◌∷◌, ◌++◌, length, Option, Some, None, refl, sym, ap, subst, ◌∙◌, arith}
use Rattle.std.specs.Prelude.{nat_eq, option_and_then, option_map, slice_get}
use Rattle.std.proofs.lemmas.Bool.{eq-eqb}
use Rattle.std.proofs.lemmas.List.{append_assoc, append-nil, length-append}
use Rattle.kat_design.specs.Designs.{DesignForm}
use Rattle.kat_relation.specs.declared.relations.Conjunct.{Conjunct}
use Rattle.kat_cases.specs.declared.decision.Point.{Point}
use Rattle.kat_type.specs.Lists.{Has}
use Rattle.kat_type.specs.Types.{OperationForm, TypeForm}
use Rattle.kat_vc.specs.Conditions.{Condition, start, step, condition_count, conditions, facts_by, facts_of_condition}
use Rattle.kat_candidate.specs.Places.{condition_at, conjunct_at, has_number, left_behind}
use Rattle.kat_drop.specs.Certificates.{AreDrops, DropForm, FailsAt, MayDrop, MayDropEach, PointForm, drop_form, dropped_by, drops_of, point_form}
use Rattle.kat_drop.specs.declared.drops.Drop1.{Drop1}
use Rattle.kat_candidate.specs.declared.places.Place1.{Place1}
use Rattle.kat_candidate.specs.declared.places.Place1.TheVariants.{Query}
use Rattle.kat_prove.specs.Trials.{TrialForm, condition_facts, Holds, IsDecisiveFor, IsShorter, conjuncts_of, numbers_from, numbers_left, place_at, place_from, start_or, step_or, without}
use Rattle.kat_prove.specs.declared.trials.Kept.{Kept}
use Rattle.kat_prove.proofs.Places.{get_there, got_has, left_are, left_range, placed, some_get}

-- all candidates are kept at first
pub none_dropped : (n : ℕ) (cs : List Conjunct) → numbers_from n (length cs) ≡ numbers_left n [] cs
none_dropped n [] = refl
none_dropped n (c ∷ cs) = ap (λ xs. n ∷ xs) (none_dropped (suc n) cs)

numbers_length : (n count : ℕ) → length (numbers_from n count) ≡ count
numbers_length n zero = refl
numbers_length n (suc count) = ap suc (numbers_length (suc n) count)

pub holds_first : (trial : TrialForm) (kept : Kept) → kept.drops.items ≡ [] → kept.numbers.items ≡ numbers_from 0 (length trial.candidates)
    → kept.relation.conjuncts ≡ conjuncts_of trial.candidates kept.numbers.items → Holds trial kept
holds_first trial kept none numbers relation =
    let no_drops : [] ≡ drops_of kept.drops.items = ap drops_of (sym none) in
    let all : kept.numbers.items ≡ numbers_left 0 [] trial.candidates = numbers ∙ none_dropped 0 trial.candidates in
    let count : length kept.numbers.items ≡ length trial.candidates = ap length numbers ∙ numbers_length 0 (length trial.candidates) in
    let few : length (drops_of kept.drops.items) ≡ 0 = ap length (sym no_drops) in
    record {
      drops = subst (AreDrops trial.ty trial.design trial.candidates) no_drops tt;
      numbers = all ∙ ap (λ ds. numbers_left 0 (dropped_by ds) trial.candidates) no_drops;
      relation = relation ∙ ap (conjuncts_of trial.candidates) all ∙ sym (left_are trial.candidates []) ∙ ap (λ ds. left_behind trial.candidates (dropped_by ds)) no_drops;
      few = omega (arith, count, few);
    }

-- one more is dropped
any_last : (n j : ℕ) (ds : List ℕ) → has_number n (ds ++ j ∷ []) ≡ (has_number n ds || nat_eq j n)
any_last n j [] = or_false (nat_eq j n)
  where
    or_false : (b : Bool) → (b || false) ≡ b
    or_false true = refl
    or_false false = refl
any_last n j (d ∷ ds) = first (nat_eq d n) (has_number n (ds ++ j ∷ [])) (has_number n ds) (nat_eq j n) (any_last n j ds)
  where
    first : (b r s t : Bool) → r ≡ (s || t) → (b || r) ≡ ((b || s) || t)
    first true r s t e = refl
    first false r s t e = e

picked_without : (b e : Bool) (n j : ℕ) (ns ms : List ℕ) → nat_eq j n ≡ e → without j ns ≡ ms → without j (if b then ns else n ∷ ns) ≡ (if b || e then ms else n ∷ ms)
picked_without true e n j ns ms same rest = rest
picked_without false true n j ns ms same rest = ap (λ b. if b then without j ns else n ∷ without j ns) same ∙ rest
picked_without false false n j ns ms same rest = ap (λ b. if b then without j ns else n ∷ without j ns) same ∙ ap (λ xs. n ∷ xs) rest

pub without_dropped : (n j : ℕ) (ds : List ℕ) (cs : List Conjunct) → without j (numbers_left n ds cs) ≡ numbers_left n (ds ++ j ∷ []) cs
without_dropped n j ds [] = refl
without_dropped n j ds (c ∷ cs) =
    picked_without (has_number n ds) (nat_eq j n) n j (numbers_left (suc n) ds cs) (numbers_left (suc n) (ds ++ j ∷ []) cs) refl (without_dropped (suc n) j ds cs)
    ∙ ap (λ b. if b then numbers_left (suc n) (ds ++ j ∷ []) cs else n ∷ numbers_left (suc n) (ds ++ j ∷ []) cs) (sym (any_last n j ds))

without_most : (j : ℕ) (ns : List ℕ) → length (without j ns) ≤ length ns
without_most j [] = omega arith
without_most j (n ∷ ns) = picked (nat_eq j n) (without_most j ns)
  where
    picked : (b : Bool) → length (without j ns) ≤ length ns → length (if b then without j ns else n ∷ without j ns) ≤ suc (length ns)
    picked true most = omega (arith, most)
    picked false most = omega (arith, most)

without_less : (j : ℕ) (ns : List ℕ) → Has ns j → length (without j ns) < length ns
without_less j [] h = absurd h
without_less j (n ∷ ns) (inl e) =
    let most = without_most j ns in
    let same : nat_eq j n ≡ true = eq-eqb j n (sym e) in
    let gone : length (without j (n ∷ ns)) ≡ length (without j ns) = ap (λ (b : Bool). length (if b then without j ns else n ∷ without j ns)) same in
    omega (arith, most, gone)
without_less j (n ∷ ns) (inr h) = picked (nat_eq j n) (without_less j ns h)
  where
    picked : (b : Bool) → length (without j ns) < length ns → length (if b then without j ns else n ∷ without j ns) < suc (length ns)
    picked true less = omega (arith, less)
    picked false less = omega (arith, less)

drops_last : (ds : List Drop1) (d : Drop1) → drops_of (ds ++ d ∷ []) ≡ drops_of ds ++ drop_form d ∷ []
drops_last [] d = refl
drops_last (e ∷ ds) d = ap (λ xs. drop_form e ∷ xs) (drops_last ds d)

by_last : (ds : List DropForm) (d : DropForm) → dropped_by (ds ++ d ∷ []) ≡ dropped_by ds ++ conjunct_at d.at
by_last [] d = append-nil (conjunct_at d.at)
by_last (e ∷ ds) d = ap (λ xs. conjunct_at e.at ++ xs) (by_last ds d) ∙ sym (append_assoc (conjunct_at e.at) (dropped_by ds) (conjunct_at d.at))

each_last : (ty : TypeForm) (design : DesignForm) (candidates : List Conjunct) (dropped : List ℕ) (ds : List DropForm) (d : DropForm)
    → MayDropEach ty design candidates dropped ds → MayDrop ty design candidates (dropped ++ dropped_by ds) d → MayDropEach ty design candidates dropped (ds ++ d ∷ [])
each_last ty design candidates dropped [] d h may = (subst (λ xs. MayDrop ty design candidates xs d) (append-nil dropped) may, tt)
each_last ty design candidates dropped (e ∷ ds) d h may =
    (h.0, each_last ty design candidates (dropped ++ conjunct_at e.at) ds d h.1 (subst (λ xs. MayDrop ty design candidates xs d) (sym (append_assoc dropped (conjunct_at e.at) (dropped_by ds))) may))

pub fewer_held : (trial : TrialForm) (kept next : Kept) (number : ℕ) (drop : Drop1)
    → MayDrop trial.ty trial.design trial.candidates (dropped_by (drops_of kept.drops.items)) (drop_form drop) → conjunct_at drop.at ≡ number ∷ [] → Has kept.numbers.items number → Holds trial kept
    → next.numbers.items ≡ without number kept.numbers.items → next.relation.conjuncts ≡ conjuncts_of trial.candidates next.numbers.items → next.drops.items ≡ kept.drops.items ++ drop ∷ []
    → IsShorter trial (length kept.numbers.items) next
fewer_held trial kept next number drop may of_number among h numbers relation drops =
    let old = drops_of kept.drops.items in
    let now : drops_of next.drops.items ≡ old ++ drop_form drop ∷ [] = ap drops_of drops ∙ drops_last kept.drops.items drop in
    let by : dropped_by (drops_of next.drops.items) ≡ dropped_by old ++ number ∷ [] = ap dropped_by now ∙ by_last old (drop_form drop) ∙ ap (λ xs. dropped_by old ++ xs) of_number in
    let left : next.numbers.items ≡ numbers_left 0 (dropped_by (drops_of next.drops.items)) trial.candidates =
    numbers ∙ ap (without number) h.numbers ∙ without_dropped 0 number (dropped_by old) trial.candidates ∙ ap (λ ds. numbers_left 0 ds trial.candidates) (sym by) in
    let less = without_less number kept.numbers.items among in
    let count : length next.numbers.items ≡ length (without number kept.numbers.items) = ap length numbers in
    let one_more : length (drops_of next.drops.items) ≡ length old + 1 = ap length now ∙ length-append old (drop_form drop ∷ []) in
    let few = h.few in (
      record {
        drops = subst (AreDrops trial.ty trial.design trial.candidates) (sym now) (each_last trial.ty trial.design trial.candidates [] old (drop_form drop) h.drops may);
        numbers = left;
        relation = relation ∙ ap (conjuncts_of trial.candidates) left ∙ sym (left_are trial.candidates (dropped_by (drops_of next.drops.items)));
        few = omega (arith, few, one_more, count, less);
      },
      omega (arith, less, count),
    )

-- the condition with a number fails, so the one at its place does
pub failing : (ty : TypeForm) (design : DesignForm) (candidates : List Conjunct) (dropped : List ℕ) (relation : List Conjunct) (number : ℕ) (at : Place1) (condition : Condition) (point : PointForm)
    → relation ≡ left_behind candidates dropped → condition_at ty candidates at ≡ slice_get (conditions ty (left_behind candidates dropped)) (number - 1) → condition_at ty candidates at ≡ Some condition
    → IsDecisiveFor (facts_of_condition ty design relation number) point → FailsAt ty design candidates dropped at point
failing ty design candidates dropped relation number at condition point same placed there decisive = record {
  condition = condition;
  there = there;
  decisive = subst (λ found. IsDecisiveFor (facts_by ty design (left_behind candidates dropped) found) point) (sym placed ∙ there) (subst (λ cs. IsDecisiveFor (facts_of_condition ty design cs number) point) same decisive);
}

-- the place of a condition of a candidate: the candidate is kept, and there is the condition
pub record IsOfCandidate (ty : TypeForm) (candidates : List Conjunct) (numbers : List ℕ) (at : Place1) (j : ℕ) : Type 0 where
  pub among : Has numbers j
  pub condition : Condition
  pub there : condition_at ty candidates at ≡ Some condition

no_number : (j : ℕ) → [] ≡ j ∷ [] → ⊥
no_number j e = cc e

abbrev first_or : ℕ → List ℕ → ℕ
first_or d [] = d
first_or d (n ∷ ns) = n

step_of_candidate : (ty : TypeForm) (candidates : List Conjunct) (numbers : List ℕ) (n : ℕ) (op : OperationForm) (left : ℕ) (found : Option ℕ) (rest : Place1) (j : ℕ)
    → ((k : ℕ) → Has numbers k → k < length candidates) → slice_get ty.ops n ≡ Some op → slice_get numbers left ≡ found → (conjunct_at rest ≡ j ∷ [] → IsOfCandidate ty candidates numbers rest j)
    → conjunct_at (step_or found n rest) ≡ j ∷ [] → IsOfCandidate ty candidates numbers (step_or found n rest) j
step_of_candidate ty candidates numbers n op left None rest j range there e on is = on is
step_of_candidate ty candidates numbers n op left (Some i) rest j range there e on is =
    let same : i ≡ j = ap (first_or 0) is in
    let has = got_has numbers left i e in
    let c = some_get candidates i (range i has) in
    record {
      among = subst (Has numbers) same has;
      condition = step n op c.0;
      there = ap (λ o. option_and_then (λ p. option_map (step n p) (slice_get candidates i)) o) there ∙ ap (option_map (step n op)) c.1;
    }

later_of_candidate : (ty : TypeForm) (candidates : List Conjunct) (numbers : List ℕ) (front ops : List OperationForm) (n left j : ℕ)
    → ((k : ℕ) → Has numbers k → k < length candidates) → ty.ops ≡ front ++ ops → length front ≡ n → conjunct_at (place_from n ops numbers left) ≡ j ∷ []
    → IsOfCandidate ty candidates numbers (place_from n ops numbers left) j
later_of_candidate ty candidates numbers front [] n left j range e count is = absurd (no_number j is)
later_of_candidate ty candidates numbers front (op ∷ ops) n left j range e count is =
    step_of_candidate ty candidates numbers n op left (slice_get numbers left) (place_from (suc n) ops numbers (left - length numbers)) j range
    (ap (λ os. slice_get os n) e ∙ get_there front op ops n count) refl
    (later_of_candidate ty candidates numbers (front ++ op ∷ []) ops (suc n) (left - length numbers) j range (e ∙ sym (append_assoc front (op ∷ []) ops)) (omega (arith, count, length-append front (op ∷ []))))
    is

start_of_candidate : (ty : TypeForm) (candidates : List Conjunct) (numbers : List ℕ) (place : ℕ) (found : Option ℕ) (rest : Place1) (j : ℕ)
    → ((k : ℕ) → Has numbers k → k < length candidates) → slice_get numbers place ≡ found → (conjunct_at rest ≡ j ∷ [] → IsOfCandidate ty candidates numbers rest j)
    → conjunct_at (start_or found rest) ≡ j ∷ [] → IsOfCandidate ty candidates numbers (start_or found rest) j
start_of_candidate ty candidates numbers place None rest j range e on is = on is
start_of_candidate ty candidates numbers place (Some i) rest j range e on is =
    let same : i ≡ j = ap (first_or 0) is in
    let has = got_has numbers place i e in
    let c = some_get candidates i (range i has) in
    record { among = subst (Has numbers) same has; condition = start c.0; there = ap (option_map start) c.1 }

of_candidate : (ty : TypeForm) (candidates : List Conjunct) (numbers : List ℕ) (place j : ℕ) → ((k : ℕ) → Has numbers k → k < length candidates)
    → conjunct_at (place_at ty.ops numbers place) ≡ j ∷ [] → IsOfCandidate ty candidates numbers (place_at ty.ops numbers place) j
of_candidate ty candidates numbers place j range is =
    start_of_candidate ty candidates numbers place (slice_get numbers place) (place_from 0 ty.ops numbers (place - length numbers)) j range refl
    (later_of_candidate ty candidates numbers [] ty.ops 0 (place - length numbers) j range refl refl) is

in_range : (trial : TrialForm) (kept : Kept) → Holds trial kept → (k : ℕ) → Has kept.numbers.items k → k < length trial.candidates
in_range trial kept h k has =
    let range = left_range 0 (dropped_by (drops_of kept.drops.items)) trial.candidates k (subst (λ ns. Has ns k) h.numbers has) in
    let less = range.2 in omega (arith, less)

kept_placed : (trial : TrialForm) (kept : Kept) (place : ℕ) → Holds trial kept
    → condition_at trial.ty trial.candidates (place_at trial.ty.ops kept.numbers.items place) ≡ slice_get (conditions trial.ty (left_behind trial.candidates (dropped_by (drops_of kept.drops.items)))) place
kept_placed trial kept place h = ap (λ ns. condition_at trial.ty trial.candidates (place_at trial.ty.ops ns place)) h.numbers ∙ placed trial.ty trial.candidates (dropped_by (drops_of kept.drops.items)) place

-- the candidate of a condition that fails may be dropped
pub may_drop : (trial : TrialForm) (kept : Kept) (number j : ℕ) (at : Place1) (point : Point) → Holds trial kept
    → at ≡ place_at trial.ty.ops kept.numbers.items (number - 1) → conjunct_at at ≡ j ∷ [] → IsDecisiveFor (condition_facts trial kept.relation.conjuncts number) (point_form point)
    → MayDrop trial.ty trial.design trial.candidates (dropped_by (drops_of kept.drops.items)) (record { at = at; point = point_form point }) × Has kept.numbers.items j
may_drop trial kept number j at point h placed_is is decisive =
    let dropped = dropped_by (drops_of kept.drops.items) in
    let here = place_at trial.ty.ops kept.numbers.items (number - 1) in
    let own = of_candidate trial.ty trial.candidates kept.numbers.items (number - 1) j (in_range trial kept h) (ap conjunct_at (sym placed_is) ∙ is) in
    let fresh = (left_range 0 dropped trial.candidates j (subst (λ ns. Has ns j) h.numbers own.among)).0 in
    let fails = failing trial.ty trial.design trial.candidates dropped kept.relation.conjuncts number here own.condition (point_form point) h.relation (kept_placed trial kept (number - 1) h) own.there decisive in
    (record { number = j; of_candidate = is; fresh = fresh; fails = subst (λ a. FailsAt trial.ty trial.design trial.candidates dropped a (point_form point)) (sym placed_is) fails }, own.among)

-- a query's condition that fails
pub query_fails : (trial : TrialForm) (kept : Kept) (number query : ℕ) (point : PointForm) → Holds trial kept
    → place_at trial.ty.ops kept.numbers.items (number - 1) ≡ Query query → 0 < number → number ≤ condition_count trial.ty kept.relation.conjuncts
    → IsDecisiveFor (condition_facts trial kept.relation.conjuncts number) point
    → FailsAt trial.ty trial.design trial.candidates (dropped_by (drops_of kept.drops.items)) (Query query) point
query_fails trial kept number query point h is positive most decisive =
    let dropped = dropped_by (drops_of kept.drops.items) in
    let few : number ≤ length (conditions trial.ty (left_behind trial.candidates dropped)) = subst (λ cs. number ≤ condition_count trial.ty cs) h.relation most in
    let c = some_get (conditions trial.ty (left_behind trial.candidates dropped)) (number - 1) (omega (arith, few, positive)) in
    let at = kept_placed trial kept (number - 1) h in
    failing trial.ty trial.design trial.candidates dropped kept.relation.conjuncts number (Query query) c.0 point h.relation
    (ap (condition_at trial.ty trial.candidates) (sym is) ∙ at) (ap (condition_at trial.ty trial.candidates) (sym is) ∙ at ∙ c.1) decisive

-- the place of a condition that isn't refuted
pub stuck_placed : (trial : TrialForm) (kept : Kept) (number : ℕ) (at : Place1) → Holds trial kept → at ≡ place_at trial.ty.ops kept.numbers.items (number - 1)
    → condition_at trial.ty trial.candidates at ≡ slice_get (conditions trial.ty (left_behind trial.candidates (dropped_by (drops_of kept.drops.items)))) (number - 1)
stuck_placed trial kept number at h is = ap (condition_at trial.ty trial.candidates) is ∙ kept_placed trial kept (number - 1) h
