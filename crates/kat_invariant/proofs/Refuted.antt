-- Refuted conditions hold: the relation is an inductive invariant.
use Rattle.std.proofs.Common.{◌≡◌, ℕ, zero, suc, ◌+◌, ◌-◌, List, [], ◌∷◌, ◌++◌, get_or, Some, refl, sym, ap, subst, ◌∙◌, arith, All}
use Rattle.std.specs.Prelude.{slice_get, true}
use Rattle.std.proofs.lemmas.Option.{get_or_from_slice_get, slice_get-get_or, slice_get_within}
use Rattle.kat_refute.proofs.Facts.{facts_fail}
use Rattle.kat_type.specs.Types.{OperationForm, QueryForm, TypeForm}
use Rattle.kat_design.specs.Designs.{DesignForm}
use Rattle.kat_relation.specs.Fits.{FitsConjunct}
use Rattle.kat_relation.specs.Keys.{conjunct_key}
use Rattle.kat_relation.specs.declared.relations.Conjunct.{Conjunct}
use Rattle.kat_vc.specs.Conditions.{Condition, answers_of_each, condition_stated, conditions, facts_by, facts_of_condition, starts, steps, steps_of_each}
use Rattle.kat_vc.specs.Conditions.Condition.{start, step, answers}
use Rattle.kat_symbols.specs.Readers.{fresh}
use Rattle.kat_invariant.specs.Accepted.{GoTogether, HaveRefutations, RefutedConditionsHold}
use Rattle.kat_invariant.specs.Inductive.{AnswersAgree, HoldsAtStart, IsKept}
use Rattle.kat_invariant.specs.Relations.{HoldsEverywhere, holds_at}
use Rattle.kat_invariant.specs.Situations.{after, start_of}
use Rattle.kat_invariant.proofs.Conditions.{AreRefuted, answers_hold, start_holds}
use Rattle.kat_invariant.proofs.Meaning.{each_has}
use Rattle.kat_invariant.proofs.Steps.{step_holds}
use Rattle.kat_form.specs.Meanings.{holds}

-- a list has an element
pub record There {X : Type 0} (xs : List X) (x : X) : Type 0 where
  pub place : ℕ
  pub is : slice_get xs place ≡ Some x

first_there : {X : Type 0} (x : X) (xs : List X) → There (x ∷ xs) x
first_there x xs = record { place = 0; is = refl }

later_there : {X : Type 0} (x y : X) (xs : List X) → There xs y → There (x ∷ xs) y
later_there x y xs h = record { place = suc h.place; is = h.is }

there_right : {X : Type 0} (xs ys : List X) (y : X) → There ys y → There (xs ++ ys) y
there_right [] ys y h = h
there_right (x ∷ xs) ys y h = later_there x y (xs ++ ys) (there_right xs ys y h)

there_left : {X : Type 0} (xs ys : List X) (y : X) → There xs y → There (xs ++ ys) y
there_left [] ys y h = absurd (let nowhere : slice_get [] h.place ≡ Some y = h.is in cc)
there_left (x ∷ xs) ys y h = by_place h.place h.is (λ i e. there_left xs ys y (record { place = i; is = e }))
  where
    by_place : (i : ℕ) → slice_get (x ∷ xs) i ≡ Some y → ((j : ℕ) → slice_get xs j ≡ Some y → There (xs ++ ys) y) → There (x ∷ xs ++ ys) y
    by_place zero e rest = record { place = 0; is = e }
    by_place (suc i) e rest = later_there x y (xs ++ ys) (rest i e)

starts_there : (relation : List Conjunct) (i : ℕ) (c : Conjunct) → slice_get relation i ≡ Some c → There (starts relation) (start c)
starts_there [] i c e = absurd (cc)
starts_there (x ∷ relation) zero c e = let is : x ≡ c = cc in subst (λ y. There (starts (x ∷ relation)) (start y)) is (first_there (start x) (starts relation))
starts_there (x ∷ relation) (suc i) c e = later_there (start x) (start c) (starts relation) (starts_there relation i c e)

steps_there : (o : ℕ) (op : OperationForm) (relation : List Conjunct) (i : ℕ) (c : Conjunct) → slice_get relation i ≡ Some c → There (steps o op relation) (step o op c)
steps_there o op [] i c e = absurd (cc)
steps_there o op (x ∷ relation) zero c e = let is : x ≡ c = cc in subst (λ y. There (steps o op (x ∷ relation)) (step o op y)) is (first_there (step o op x) (steps o op relation))
steps_there o op (x ∷ relation) (suc i) c e = later_there (step o op x) (step o op c) (steps o op relation) (steps_there o op relation i c e)

each_step_there : (from : ℕ) (ops : List OperationForm) (relation : List Conjunct) (o : ℕ) (op : OperationForm) (i : ℕ) (c : Conjunct) → slice_get ops o ≡ Some op → slice_get relation i ≡ Some c → There (steps_of_each from ops relation) (step (from + o) op c)
each_step_there from [] relation o op i c e f = absurd (cc)
each_step_there from (x ∷ ops) relation zero op i c e f =
    let is : x ≡ op = cc in
    let same : from ≡ from + 0 = omega arith in
    there_left (steps from x relation) (steps_of_each (suc from) ops relation) (step (from + 0) op c)
    (subst (λ n. There (steps from x relation) (step n op c)) same (subst (λ y. There (steps from x relation) (step from y c)) is (steps_there from x relation i c f)))
each_step_there from (x ∷ ops) relation (suc o) op i c e f =
    let same : suc from + o ≡ from + suc o = omega arith in
    there_right (steps from x relation) (steps_of_each (suc from) ops relation) (step (from + suc o) op c)
    (subst (λ n. There (steps_of_each (suc from) ops relation) (step n op c)) same (each_step_there (suc from) ops relation o op i c e f))

each_answer_there : (from : ℕ) (queries : List QueryForm) (i : ℕ) (q : QueryForm) → slice_get queries i ≡ Some q → There (answers_of_each from queries) (answers (from + i) q)
each_answer_there from [] i q e = absurd (cc)
each_answer_there from (x ∷ queries) zero q e =
    let is : x ≡ q = cc in
    let same : from ≡ from + 0 = omega arith in
    subst (λ n. There (answers_of_each from (x ∷ queries)) (answers n q)) same (subst (λ y. There (answers_of_each from (x ∷ queries)) (answers from y)) is (first_there (answers from x) (answers_of_each (suc from) queries)))
each_answer_there from (x ∷ queries) (suc i) q e =
    let same : suc from + i ≡ from + suc i = omega arith in
    later_there (answers from x) (answers (from + suc i) q) (answers_of_each (suc from) queries)
    (subst (λ n. There (answers_of_each (suc from) queries) (answers n q)) same (each_answer_there (suc from) queries i q e))

-- all elements
all_there : {X : Type 0} (P : X → Type 0) (xs : List X) → ((i : ℕ) (x : X) → slice_get xs i ≡ Some x → P x) → All P xs
all_there P xs h = λ k d lt. h k (get_or xs k d) (slice_get-get_or xs k d lt)

of_all : {X : Type 0} (P : X → Type 0) (xs : List X) (i : ℕ) (x : X) → All P xs → slice_get xs i ≡ Some x → P x
of_all P xs i x h e = subst P (get_or_from_slice_get xs i x x e) (h i x (slice_get_within xs i x e))

module _ (ty : TypeForm) (d : DesignForm) (relation : List Conjunct) (go : GoTogether ty d) (fit : All (FitsConjunct ty d.components) relation) (shown : HaveRefutations ty d relation) where
  refuted_at : (condition : Condition) → There (conditions ty relation) condition → AreRefuted (condition_stated ty d relation condition fresh).facts
  refuted_at condition there =
      let k = suc there.place in
      let inside = slice_get_within (conditions ty relation) there.place condition there.is in
      let lines = shown k (omega arith) (omega (arith, inside)) in
      let back : k - 1 ≡ there.place = omega arith in
      let facts_are : facts_of_condition ty d relation k ≡ (condition_stated ty d relation condition fresh).facts = ap (λ n. facts_by ty d relation (slice_get (conditions ty relation) n)) back ∙ ap (facts_by ty d relation) there.is in
      λ truths nums h. facts_fail (facts_of_condition ty d relation k) lines.0 lines.1 truths nums (subst (λ fs. All (λ f. holds truths nums f ≡ true) fs) (sym facts_are) h)

  front : List Condition
  front = starts relation ++ steps_of_each 0 ty.ops relation

  at_start : HoldsAtStart ty d relation
  at_start = all_there (λ c. HoldsEverywhere (conjunct_key ty d.components c) (λ key. holds_at ty d (start_of ty d) key c)) relation
      (λ i c e. start_holds ty d go.type_sorted go.ranks go.design_sorted go.signed c (of_all (FitsConjunct ty d.components) relation i c fit e)
      (refuted_at (start c) (there_left (starts relation ++ steps_of_each 0 ty.ops relation) (answers_of_each 0 ty.queries) (start c) (there_left (starts relation) (steps_of_each 0 ty.ops relation) (start c) (starts_there relation i c e)))))

  is_kept : IsKept ty d relation
  is_kept s done legal held follows = all_there (λ c. HoldsEverywhere (conjunct_key ty d.components c) (λ key. holds_at ty d (after ty d done s) key c)) relation
      (λ i c e. step_holds ty d go relation fit c (of_all (FitsConjunct ty d.components) relation i c fit e) s done legal held follows
      (refuted_at (step done.op follows.fits.operation c)
      (there_left (starts relation ++ steps_of_each 0 ty.ops relation) (answers_of_each 0 ty.queries) (step done.op follows.fits.operation c)
      (there_right (starts relation) (steps_of_each 0 ty.ops relation) (step done.op follows.fits.operation c)
      (let same : 0 + done.op ≡ done.op = omega arith in subst (λ n. There (steps_of_each 0 ty.ops relation) (step n follows.fits.operation c)) same (each_step_there 0 ty.ops relation done.op follows.fits.operation i c follows.fits.there e))))))

  agree : AnswersAgree ty d relation
  agree s query q args legal held there fits =
      answers_hold ty d go.type_sorted go.ranks go.design_sorted go.signed relation fit query q there
      (refuted_at (answers query q) (there_right (starts relation ++ steps_of_each 0 ty.ops relation) (answers_of_each 0 ty.queries) (answers query q)
      (let same : 0 + query ≡ query = omega arith in subst (λ n. There (answers_of_each 0 ty.queries) (answers n q)) same (each_answer_there 0 ty.queries query q there))))
      s args legal held fits

pub refuted_conditions_hold : RefutedConditionsHold
refuted_conditions_hold ty d relation go each shown =
    let fit : All (FitsConjunct ty d.components) relation = all_there (FitsConjunct ty d.components) relation (λ i c e. each_has (FitsConjunct ty d.components) relation i c each e) in
    record {
      start = at_start ty d relation go fit shown;
      kept = is_kept ty d relation go fit shown;
      answers = agree ty d relation go fit shown;
    }
