-- Of a relation that consists of candidates no conjunct is ever dropped, and so its answers differ where the certificate says.
use Rattle.std.proofs.Common.{◌≡◌, ℕ, zero, suc, ◌+◌, ◌-◌, ◌⊎◌, inl, inr, ⊎_elim, nat_eq, Bool, true, false, ◌||◌, if◌then◌else◌, Option, Some, None, option_map, List, [], ◌∷◌, ◌++◌, refl, sym, ap, ◌∙◌, subst, arith}
use Rattle.std.specs.Prelude.{option_and_then, slice_get}
use Rattle.std.proofs.lemmas.Bool.{eqb-true}
use Rattle.std.proofs.lemmas.List.{append-nil, append_assoc}
use Rattle.std.proofs.lemmas.List.Folds.{list_any-append}
use Rattle.kat_form.specs.Readings.{encoding_of}
use Rattle.kat_design.specs.Designs.{DesignForm}
use Rattle.kat_refute.specs.Lines.{AreARefutation, Line}
use Rattle.kat_relation.specs.declared.relations.Conjunct.{Conjunct}
use Rattle.kat_type.specs.Lists.{Has}
use Rattle.kat_type.proofs.Lists.{has_front, has_behind}
use Rattle.kat_type.specs.Types.{OperationForm, QueryForm, TypeForm}
use Rattle.kat_vc.specs.Conditions.{Condition, answers_of_each, conditions, facts_by, facts_of_condition, starts, steps, steps_of_each}
use Rattle.kat_vc.specs.Conditions.Condition.{start, step, answers}
use Rattle.kat_check.specs.Acceptance.{lines_at}
use Rattle.kat_candidate.specs.Places.{condition_at, conjunct_at, has_number, left_behind, left_from}
use Rattle.kat_drop.specs.Certificates.{DropForm, FailsAt, MayDrop, MayDropEach, PointForm, dropped_by}
use Rattle.kat_candidate.specs.declared.places.Place1.{Place1}
use Rattle.kat_candidate.specs.declared.places.Place1.TheVariants.{Start, Step, Query}
use Rattle.kat_invariant.specs.Accepted.{HaveRefutations}
use Rattle.kat_opening.specs.Openings.{CandidatesHaveNoProof, ConsistsOf, OpenDesignsHaveNoFile, OpenDesignsHaveNoProof, SmallerRelationsFail}
use Rattle.kat_opening.proofs.Placed.{get_within}
use Rattle.kat_opening.proofs.Standing.{condition_stands}
use Rattle.kat_opening.proofs.Points.{decisive_stays_open}

-- the place of a member
pub record Found {X : Type 0} (xs : List X) (x : X) : Type 0 where
  pub place : ℕ
  pub is : slice_get xs place ≡ Some x

found : {X : Type 0} (xs : List X) (x : X) → Has xs x → Found xs x
found [] x has = absurd has
found (y ∷ xs) x (inl is) = record { place = 0; is = ap Some is }
found (y ∷ xs) x (inr has) = let rest = found xs x has in record { place = suc rest.place; is = rest.is }

-- the conditions of a relation's conjuncts, and of queries
starts_has : (cs : List Conjunct) (c : Conjunct) → Has cs c → Has (starts cs) (start c)
starts_has [] c has = absurd has
starts_has (x ∷ cs) c (inl is) = inl (ap start is)
starts_has (x ∷ cs) c (inr has) = inr (starts_has cs c has)

steps_has : (o : ℕ) (op : OperationForm) (cs : List Conjunct) (c : Conjunct) → Has cs c → Has (steps o op cs) (step o op c)
steps_has o op [] c has = absurd has
steps_has o op (x ∷ cs) c (inl is) = inl (ap (step o op) is)
steps_has o op (x ∷ cs) c (inr has) = inr (steps_has o op cs c has)

each_step_has : (from o n : ℕ) (ops : List OperationForm) (op : OperationForm) (cs : List Conjunct) (c : Conjunct) → from + o ≡ n → slice_get ops o ≡ Some op → Has cs c → Has (steps_of_each from ops cs) (step n op c)
each_step_has from o n [] op cs c e there has = absurd (cc)
each_step_has from zero n (x ∷ ops) op cs c e there has =
    let is : x ≡ op = cc in
    let same : from ≡ n = omega (arith, e) in
    has_front (steps from x cs) (steps_of_each (suc from) ops cs) (step n op c)
    (subst (λ k. Has (steps from x cs) (step k op c)) same (subst (λ y. Has (steps from x cs) (step from y c)) is (steps_has from x cs c has)))
each_step_has from (suc o) n (x ∷ ops) op cs c e there has =
    has_behind (steps from x cs) (steps_of_each (suc from) ops cs) (step n op c) (each_step_has (suc from) o n ops op cs c (omega (arith, e)) there has)

each_answer_has : (from i n : ℕ) (queries : List QueryForm) (q : QueryForm) → from + i ≡ n → slice_get queries i ≡ Some q → Has (answers_of_each from queries) (answers n q)
each_answer_has from i n [] q e there = absurd (cc)
each_answer_has from zero n (x ∷ queries) q e there =
    let is : x ≡ q = cc in
    let same : from ≡ n = omega (arith, e) in
    inl (ap (λ k. answers k x) same ∙ ap (answers n) is)
each_answer_has from (suc i) n (x ∷ queries) q e there = inr (each_answer_has (suc from) i n queries q (omega (arith, e)) there)

module _ (ty : TypeForm) (cs : List Conjunct) where
  start_has : (c : Conjunct) → Has cs c → Has (conditions ty cs) (start c)
  start_has c has = has_front (starts cs ++ steps_of_each 0 ty.ops cs) (answers_of_each 0 ty.queries) (start c) (has_front (starts cs) (steps_of_each 0 ty.ops cs) (start c) (starts_has cs c has))

  step_has : (o : ℕ) (op : OperationForm) (c : Conjunct) → slice_get ty.ops o ≡ Some op → Has cs c → Has (conditions ty cs) (step o op c)
  step_has o op c there has =
      has_front (starts cs ++ steps_of_each 0 ty.ops cs) (answers_of_each 0 ty.queries) (step o op c)
      (has_behind (starts cs) (steps_of_each 0 ty.ops cs) (step o op c) (each_step_has 0 o o ty.ops op cs c (omega arith) there has))

  answers_has : (q : ℕ) (query : QueryForm) → slice_get ty.queries q ≡ Some query → Has (conditions ty cs) (answers q query)
  answers_has q query there = has_behind (starts cs ++ steps_of_each 0 ty.ops cs) (answers_of_each 0 ty.queries) (answers q query) (each_answer_has 0 q q ty.queries query (omega arith) there)

-- of the value of an option
mapped : {A B : Type 0} (f : A → B) (o : Option A) (y : B) → option_map f o ≡ Some y → (x : A) × (o ≡ Some x) × (f x ≡ y)
mapped f None y e = absurd (cc)
mapped f (Some x) y e = (x, refl, cc)

-- the candidate whose condition is at a place
pub record Dropped (ty : TypeForm) (candidates : List Conjunct) (number : ℕ) (condition : Condition) : Type 0 where
  pub conjunct : Conjunct
  pub there : slice_get candidates number ≡ Some conjunct
  pub has : (cs : List Conjunct) → Has cs conjunct → Has (conditions ty cs) condition

dropped_step : (ty : TypeForm) (candidates : List Conjunct) (o number : ℕ) (condition : Condition) (found' : Option OperationForm) → slice_get ty.ops o ≡ found'
    → option_and_then (λ op. option_map (step o op) (slice_get candidates number)) found' ≡ Some condition → Dropped ty candidates number condition
dropped_step ty candidates o number condition None is e = absurd (cc)
dropped_step ty candidates o number condition (Some op) is e =
    let at = mapped (step o op) (slice_get candidates number) condition e in
    record { conjunct = at.0; there = at.1; has = λ cs has. subst (Has (conditions ty cs)) at.2 (step_has ty cs o op at.0 is has) }

dropped_at : (ty : TypeForm) (candidates : List Conjunct) (at : Place1) (number : ℕ) (condition : Condition) → conjunct_at at ≡ number ∷ [] → condition_at ty candidates at ≡ Some condition → Dropped ty candidates number condition
dropped_at ty candidates (Start k) number condition is there =
    let same : k ≡ number = cc in
    let at = mapped start (slice_get candidates k) condition there in
    subst (λ n. Dropped ty candidates n condition) same (record { conjunct = at.0; there = at.1; has = λ cs has. subst (Has (conditions ty cs)) at.2 (start_has ty cs at.0 has) })
dropped_at ty candidates (Step o k) number condition is there =
    let same : k ≡ number = cc in
    subst (λ n. Dropped ty candidates n condition) same (dropped_step ty candidates o k condition (slice_get ty.ops o) refl there)
dropped_at ty candidates (Query q) number condition is there = absurd (cc)

-- a candidate with another number than the one that is dropped is left
one_more : (n m : ℕ) (dropped : List ℕ) → has_number m (dropped ++ n ∷ []) ≡ (has_number m dropped || (nat_eq n m || false))
one_more n m dropped = list_any-append (λ k. nat_eq k m) dropped (n ∷ [])

left_has : (n m : ℕ) (dropped : List ℕ) (cs : List Conjunct) (x : Conjunct) → ((i : ℕ) (c : Conjunct) → m + i ≡ n → slice_get cs i ≡ Some c → c ≡ x → ⊥)
    → Has (left_from m dropped cs) x → Has (left_from m (dropped ++ n ∷ []) cs) x
left_has n m dropped [] x others has = absurd has
left_has n m dropped (y ∷ ys) x others has =
    by_tests (has_number m dropped) (nat_eq n m) refl refl has (left_has n (suc m) dropped ys x (λ i c e there is. others (suc i) c (omega (arith, e)) there is))
  where
    Goal : Bool → Type 0
    Goal b = Has (if b then left_from (suc m) (dropped ++ n ∷ []) ys else y ∷ left_from (suc m) (dropped ++ n ∷ []) ys) x

    by_tests : (a b : Bool) → has_number m dropped ≡ a → nat_eq n m ≡ b → Has (if has_number m dropped then left_from (suc m) dropped ys else y ∷ left_from (suc m) dropped ys) x
        → (Has (left_from (suc m) dropped ys) x → Has (left_from (suc m) (dropped ++ n ∷ []) ys) x) → Goal (has_number m (dropped ++ n ∷ []))
    by_tests true b p q old rest =
        let now : has_number m (dropped ++ n ∷ []) ≡ true = one_more n m dropped ∙ ap (λ k. k || (nat_eq n m || false)) p in
        subst Goal (sym now) (rest (subst (λ k. Has (if k then left_from (suc m) dropped ys else y ∷ left_from (suc m) dropped ys) x) p old))
    by_tests false true p q old rest =
        let now : has_number m (dropped ++ n ∷ []) ≡ true = one_more n m dropped ∙ ap (λ k. k || (nat_eq n m || false)) p ∙ ap (λ k. k || false) q in
        let same : n ≡ m = eqb-true n m q in
        let left : (y ≡ x) ⊎ Has (left_from (suc m) dropped ys) x = subst (λ k. Has (if k then left_from (suc m) dropped ys else y ∷ left_from (suc m) dropped ys) x) p old in
        subst Goal (sym now) (⊎_elim {C = Has (left_from (suc m) (dropped ++ n ∷ []) ys) x} (λ (is : y ≡ x). absurd (others 0 y (omega (arith, same)) refl is)) (λ (h : Has (left_from (suc m) dropped ys) x). rest h) left)
    by_tests false false p q old rest =
        let now : has_number m (dropped ++ n ∷ []) ≡ false = one_more n m dropped ∙ ap (λ k. k || (nat_eq n m || false)) p ∙ ap (λ k. k || false) q in
        let left : (y ≡ x) ⊎ Has (left_from (suc m) dropped ys) x = subst (λ k. Has (if k then left_from (suc m) dropped ys else y ∷ left_from (suc m) dropped ys) x) p old in
        subst Goal (sym now) (⊎_elim {C = (y ≡ x) ⊎ Has (left_from (suc m) (dropped ++ n ∷ []) ys) x} (λ (is : y ≡ x). inl is) (λ (h : Has (left_from (suc m) dropped ys) x). inr (rest h)) left)

nothing_dropped : (m : ℕ) (cs : List Conjunct) → left_from m [] cs ≡ cs
nothing_dropped m [] = refl
nothing_dropped m (c ∷ cs) = ap (λ xs. c ∷ xs) (nothing_dropped (suc m) cs)

pub smaller_relations_fail : SmallerRelationsFail
smaller_relations_fail ty d conjuncts relation condition point among decisive lines shown =
    decisive_stays_open (facts_by ty d relation (Some condition)) (facts_by ty d conjuncts (Some condition)) (condition_stands ty d conjuncts relation among condition) _ point.den point.nums point.truths decisive lines shown

module _ (ty : TypeForm) (d : DesignForm) (candidates relation : List Conjunct) (shown : HaveRefutations ty d relation) where
  -- a condition of the relation is refuted
  refuted : (condition : Condition) → Has (conditions ty relation) condition → (lines : List Line) × AreARefutation (encoding_of (facts_by ty d relation (Some condition))) lines
  refuted condition has =
      let at = found (conditions ty relation) condition has in
      let inside = get_within (conditions ty relation) at.place condition at.is in
      let lines = shown (suc at.place) (omega arith) (omega (arith, inside)) in
      let back : suc at.place - 1 ≡ at.place = omega arith in
      let facts : facts_of_condition ty d relation (suc at.place) ≡ facts_by ty d relation (Some condition) = ap (λ n. facts_by ty d relation (slice_get (conditions ty relation) n)) back ∙ ap (facts_by ty d relation) at.is in
      (lines.0, subst (λ fs. AreARefutation (encoding_of fs) lines.0) facts lines.1)

  -- so none of its conditions fails under conjuncts of which it consists
  no_failure : (dropped : List ℕ) (at : Place1) (point : PointForm) → ConsistsOf (left_behind candidates dropped) relation → (fails : FailsAt ty d candidates dropped at point) → Has (conditions ty relation) fails.condition → ⊥
  no_failure dropped at point among fails has =
      let lines = refuted fails.condition has in
      smaller_relations_fail ty d (left_behind candidates dropped) relation fails.condition point among fails.decisive lines.0 lines.1

  -- and none of its conjuncts is dropped
  still_left : (dropped : List ℕ) (drop : DropForm) → MayDrop ty d candidates dropped drop → ConsistsOf (left_behind candidates dropped) relation → ConsistsOf (left_behind candidates (dropped ++ conjunct_at drop.at)) relation
  still_left dropped drop may among x has =
      let gone = dropped_at ty candidates drop.at may.number may.fails.condition may.of_candidate may.fails.there in
      subst (λ ns. Has (left_from 0 (dropped ++ ns) candidates) x) (sym may.of_candidate)
      (left_has may.number 0 dropped candidates x
      (λ i c e there is.
      let place : i ≡ may.number = omega (arith, e) in
      let both : Some c ≡ Some gone.conjunct = sym there ∙ ap (slice_get candidates) place ∙ gone.there in
      let same : x ≡ gone.conjunct = let one : c ≡ gone.conjunct = cc in sym is ∙ one in
      no_failure dropped drop.at drop.point among may.fails (gone.has relation (subst (Has relation) same has)))
      (among x has))

  all_left : (drops : List DropForm) (dropped : List ℕ) → MayDropEach ty d candidates dropped drops → ConsistsOf (left_behind candidates dropped) relation → ConsistsOf (left_behind candidates (dropped ++ dropped_by drops)) relation
  all_left [] dropped may among = subst (λ ns. ConsistsOf (left_behind candidates ns) relation) (sym (append-nil dropped)) among
  all_left (drop ∷ drops) dropped may among =
      subst (λ ns. ConsistsOf (left_behind candidates ns) relation) (append_assoc dropped (conjunct_at drop.at) (dropped_by drops))
      (all_left drops (dropped ++ conjunct_at drop.at) may.1 (still_left dropped drop may.0 among))

pub open_designs_have_no_proof : OpenDesignsHaveNoProof
open_designs_have_no_proof ty d candidates relation drops query point certificate among shown =
    let start_left : ConsistsOf (left_behind candidates []) relation = subst (λ cs. ConsistsOf cs relation) (sym (nothing_dropped 0 candidates)) among in
    let left = all_left ty d candidates relation shown drops [] certificate.dropped start_left in
    let asked = mapped (answers query) (slice_get ty.queries query) certificate.fails.condition certificate.fails.there in
    no_failure ty d candidates relation shown (dropped_by drops) (Query query) point left certificate.fails (subst (Has (conditions ty relation)) asked.2 (answers_has ty relation query asked.0 asked.1))

pub candidates_have_no_proof : CandidatesHaveNoProof
candidates_have_no_proof ty d candidates relation drops query point are certificate each shown =
    open_designs_have_no_proof ty d candidates relation drops query point certificate (λ c has. (are.members c).1 (each c has)) shown

pub open_designs_have_no_file : OpenDesignsHaveNoFile
open_designs_have_no_file ty f candidates drops query point certificate among accepted =
    open_designs_have_no_proof ty f.design candidates f.relation drops query point certificate among (λ k above within. (lines_at f k, accepted.proved k above within))
