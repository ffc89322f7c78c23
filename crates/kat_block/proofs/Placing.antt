-- Conditions at places, and their numbers.
use Rattle.std.proofs.Common.{◌≡◌, ℕ, ◌+◌, ◌-◌, ◌*◌, ◌<◌, ◌≤◌, false, List, [], ◌∷◌, ◌++◌, ◌^◌, length, Option, Some, None, option_map, refl, sym, ap, subst, ◌∙◌, arith}
use Rattle.std.specs.Prelude.{slice_get, option_and_then}
use Rattle.kat_design.specs.Designs.{DesignForm}
use Rattle.kat_form.specs.Facts.{Fact}
use Rattle.kat_points.specs.Points.{PointForm}
use Rattle.kat_points.specs.declared.points.Found.{Found}
use Rattle.kat_points.specs.declared.points.Found.TheVariants as found
use Rattle.kat_relation.specs.declared.relations.Conjunct.{Conjunct}
use Rattle.kat_said.specs.declared.said.Place.{Place}
use Rattle.kat_said.specs.declared.said.Place.TheVariants.{Start, Step, Query}
use Rattle.kat_said.specs.declared.judging.Step.TheVariants.{Fault}
use Rattle.kat_type.specs.Lists.{Has}
use Rattle.kat_type.specs.Types.{TypeForm}
use Rattle.kat_vc.specs.Conditions.{Condition, start, step, answers, conditions, facts_by, facts_of_condition}
use Rattle.kat_candidate.specs.Places.{has_number, left_behind}
use Rattle.kat_block.specs.Blocks.{Fails, FailsAt, HasCondition, Passes, PassesAt, facts_under}
use Rattle.kat_block.specs.Left.{HasNone, IsBlock, IsFoundIn, IsNumberAt, IsPointStep, conjuncts_of, numbers_from, numbers_left, step_of, without}
use Rattle.kat_block.specs.declared.left.Block.{Block}
use Rattle.kat_block.proofs.Places.{got_has, got_less, left_are, left_at, left_length, left_range, none_dropped, none_some, number_left, numbers_few, query_there, some_get, some_same, start_there, step_there, without_dropped}

-- a mapped option that is there comes of one that is
mapped_there : {A B : Type 0} (f : A → B) (o : Option A) (y : B) → option_map f o ≡ Some y → (x : A) × (o ≡ Some x)
mapped_there f None y e = absurd (none_some y e)
mapped_there f (Some x) y e = (x, refl)

then_there : {A B : Type 0} (f : A → Option B) (o : Option A) (y : B) → option_and_then f o ≡ Some y → (x : A) × (o ≡ Some x) × (f x ≡ Some y)
then_there f None y e = absurd (none_some y e)
then_there f (Some x) y e = (x, refl, e)

-- what is known of a block
fresh_at : (b : Block) → IsBlock b → (place j : ℕ) → slice_get b.numbers.items place ≡ Some j → (has_number j b.dropped.items ≡ false) × ((c : Conjunct) × (slice_get b.candidates.conjuncts j ≡ Some c))
fresh_at b is place j e =
    let has : Has (numbers_left 0 b.dropped.items b.candidates.conjuncts) j = got_has (numbers_left 0 b.dropped.items b.candidates.conjuncts) place j (ap (λ ns. slice_get ns place) (sym is.numbers) ∙ e) in
    let range = left_range 0 b.dropped.items b.candidates.conjuncts j has in
    let less = range.2 in
    (range.0, some_get b.candidates.conjuncts j (omega (arith, less)))

left_is : (b : Block) → IsBlock b → (place j : ℕ) → slice_get b.numbers.items place ≡ Some j → slice_get (left_behind b.candidates.conjuncts b.dropped.items) place ≡ slice_get b.candidates.conjuncts j
left_is b is place j e = left_at b.candidates.conjuncts b.dropped.items place j (ap (λ ns. slice_get ns place) (sym is.numbers) ∙ e)

pub count_is : (b : Block) → IsBlock b → length (left_behind b.candidates.conjuncts b.dropped.items) ≡ length b.numbers.items
count_is b is = left_length b.candidates.conjuncts b.dropped.items ∙ ap length (sym is.numbers)

gone : (b : Block) → IsBlock b → (j : ℕ) → (Has b.numbers.items j → ⊥) → has_number j b.dropped.items ≡ false → (c : Conjunct) → slice_get b.candidates.conjuncts j ≡ Some c → ⊥
gone b is j none fresh c there =
    let less = got_less b.candidates.conjuncts j c there in
    let P : List ℕ → Type 0 = λ ns. Has ns j in
    none (subst P (sym is.numbers) (number_left 0 b.dropped.items b.candidates.conjuncts j fresh (omega arith) (omega (arith, less))))

-- at the start
pub start_found : (ty : TypeForm) (b : Block) → IsBlock b → (j place number : ℕ) → slice_get b.numbers.items place ≡ Some j → number ≡ place + 1 → IsNumberAt ty b.candidates.conjuncts b.dropped.items (Start j) number
start_found ty b is j place number e counted =
    let own = fresh_at b is place j e in
    let cs = left_behind b.candidates.conjuncts b.dropped.items in
    let less : place < length (left_behind b.candidates.conjuncts b.dropped.items) = omega (arith, got_less b.numbers.items place j e, count_is b is) in
    let back : number - 1 ≡ place = omega (arith, counted) in
    record {
      condition = start own.1.0;
      has = record { there = ap (option_map start) own.1.1; left = own.0 };
      numbered = ap (slice_get (conditions ty cs)) back ∙ start_there ty cs place less ∙ ap (option_map start) (left_is b is place j e ∙ own.1.1);
    }

pub start_none : (ty : TypeForm) (b : Block) → IsBlock b → (j : ℕ) → (Has b.numbers.items j → ⊥) → HasNone ty b.candidates.conjuncts b.dropped.items (Start j)
start_none ty b is j none condition has =
    let c = mapped_there start (slice_get b.candidates.conjuncts j) condition has.there in gone b is j none has.left c.0 c.1

-- for an operation
pub step_found : (ty : TypeForm) (b : Block) → IsBlock b → (o j place number : ℕ) → o < length ty.ops → slice_get b.numbers.items place ≡ Some j
    → number ≡ (length b.numbers.items + (o * length b.numbers.items + place)) + 1 → IsNumberAt ty b.candidates.conjuncts b.dropped.items (Step o j) number
step_found ty b is o j place number among e counted =
    let own = fresh_at b is place j e in
    let op = some_get ty.ops o among in
    let cs = left_behind b.candidates.conjuncts b.dropped.items in
    let same : length b.numbers.items ≡ length (left_behind b.candidates.conjuncts b.dropped.items) = sym (count_is b is) in
    let less : place < length (left_behind b.candidates.conjuncts b.dropped.items) = omega (arith, got_less b.numbers.items place j e, same) in
    let back : number - 1 ≡ length b.numbers.items + (o * length b.numbers.items + place) = omega (arith, counted) in
    let whole : number - 1 ≡ length (left_behind b.candidates.conjuncts b.dropped.items) + (o * length (left_behind b.candidates.conjuncts b.dropped.items) + place) = back ∙ ap (λ n. n + (o * n + place)) same in
    record {
      condition = step o op.0 own.1.0;
      has = record { there = ap (option_and_then (λ p. option_map (step o p) (slice_get b.candidates.conjuncts j))) op.1 ∙ ap (option_map (step o op.0)) own.1.1; left = own.0 };
      numbered = ap (slice_get (conditions ty cs)) whole ∙ step_there ty cs o place less among
          ∙ ap (option_and_then (λ p. option_map (step o p) (slice_get cs place))) op.1 ∙ ap (option_map (step o op.0)) (left_is b is place j e ∙ own.1.1);
    }

pub step_none : (ty : TypeForm) (b : Block) → IsBlock b → (o j : ℕ) → (Has b.numbers.items j → ⊥) → HasNone ty b.candidates.conjuncts b.dropped.items (Step o j)
step_none ty b is o j none condition has =
    let op = then_there (λ p. option_map (step o p) (slice_get b.candidates.conjuncts j)) (slice_get ty.ops o) condition has.there in
    let c = mapped_there (step o op.0) (slice_get b.candidates.conjuncts j) condition op.2 in gone b is j none has.left c.0 c.1

pub step_past : (ty : TypeForm) (b : Block) (o j : ℕ) → length ty.ops ≤ o → HasNone ty b.candidates.conjuncts b.dropped.items (Step o j)
step_past ty b o j past condition has =
    let op = then_there (λ p. option_map (step o p) (slice_get b.candidates.conjuncts j)) (slice_get ty.ops o) condition has.there in
    let less = got_less ty.ops o op.0 op.1 in omega (arith, less, past)

-- of a query
pub query_found : (ty : TypeForm) (b : Block) → IsBlock b → (q number : ℕ) → q < length ty.queries
    → number ≡ (length b.numbers.items + (length ty.ops * length b.numbers.items + q)) + 1 → IsNumberAt ty b.candidates.conjuncts b.dropped.items (Query q) number
query_found ty b is q number among counted =
    let query = some_get ty.queries q among in
    let cs = left_behind b.candidates.conjuncts b.dropped.items in
    let same : length b.numbers.items ≡ length (left_behind b.candidates.conjuncts b.dropped.items) = sym (count_is b is) in
    let back : number - 1 ≡ length b.numbers.items + (length ty.ops * length b.numbers.items + q) = omega (arith, counted) in
    let whole : number - 1 ≡ length (left_behind b.candidates.conjuncts b.dropped.items) + (length ty.ops * length (left_behind b.candidates.conjuncts b.dropped.items) + q) = back ∙ ap (λ n. n + (length ty.ops * n + q)) same in
    record {
      condition = answers q query.0;
      has = record { there = ap (option_map (answers q)) query.1; left = tt };
      numbered = ap (slice_get (conditions ty cs)) whole ∙ query_there ty cs q ∙ ap (option_map (answers q)) query.1;
    }

pub query_past : (ty : TypeForm) (b : Block) (q : ℕ) → length ty.queries ≤ q → HasNone ty b.candidates.conjuncts b.dropped.items (Query q)
query_past ty b q past condition has =
    let query = mapped_there (answers q) (slice_get ty.queries q) condition has.there in
    let less = got_less ty.queries q query.0 query.1 in omega (arith, less, past)

-- a place has one condition, and the facts of its number are those under the candidates that are left
pub one_condition : (ty : TypeForm) (candidates : List Conjunct) (dropped : List ℕ) (at : Place) (a b : Condition) → HasCondition ty candidates dropped at a → HasCondition ty candidates dropped at b → a ≡ b
one_condition ty candidates dropped at a b x y = some_same a b (sym x.there ∙ y.there)

pub facts_numbered : (ty : TypeForm) (d : DesignForm) (b : Block) → IsBlock b → (at : Place) (number : ℕ) (n : IsNumberAt ty b.candidates.conjuncts b.dropped.items at number)
    → facts_of_condition ty d b.left.conjuncts number ≡ facts_under ty d b.candidates.conjuncts b.dropped.items n.condition
facts_numbered ty d b is at number n =
    ap (λ relation. facts_of_condition ty d relation number) is.left ∙ ap (facts_by ty d (left_behind b.candidates.conjuncts b.dropped.items)) n.numbered

-- a point when the place has no condition
pub none_due : (ty : TypeForm) (d : DesignForm) (candidates : List Conjunct) (dropped : List ℕ) (at : Place) (point : PointForm) → HasNone ty candidates dropped at → IsPointStep ty d candidates dropped at point Fault
none_due ty d candidates dropped at point none = (λ passes. none passes.condition passes.has, λ fails. none fails.condition fails.has)

-- and when it has one
fails_so : (ty : TypeForm) (d : DesignForm) (candidates : List Conjunct) (dropped : List ℕ) (at : Place) (point : PointForm) (c : Condition) → HasCondition ty candidates dropped at c
    → FailsAt ty d candidates dropped at point → Fails (facts_under ty d candidates dropped c) point
fails_so ty d candidates dropped at point c has fails =
    let P : Condition → Type 0 = λ x. Fails (facts_under ty d candidates dropped x) point in
    subst P (one_condition ty candidates dropped at fails.condition c fails.has has) fails.decisive

passes_so : (ty : TypeForm) (d : DesignForm) (candidates : List Conjunct) (dropped : List ℕ) (at : Place) (point : PointForm) (c : Condition) → HasCondition ty candidates dropped at c
    → PassesAt ty d candidates dropped at point → Passes (facts_under ty d candidates dropped c) point
passes_so ty d candidates dropped at point c has passes =
    let P : Condition → Type 0 = λ x. Passes (facts_under ty d candidates dropped x) point in
    subst P (one_condition ty candidates dropped at passes.condition c passes.has has) passes.wide

told_point : (ty : TypeForm) (d : DesignForm) (candidates : List Conjunct) (dropped : List ℕ) (at : Place) (point : PointForm) (c : Condition) (f : Found) → HasCondition ty candidates dropped at c
    → IsFoundIn (facts_under ty d candidates dropped c) point f → IsPointStep ty d candidates dropped at point (step_of f)
told_point ty d candidates dropped at point c found.Decisive has is =
    (λ passes. is.0 (passes_so ty d candidates dropped at point c has passes), record { condition = c; has = has; decisive = is.1 })
told_point ty d candidates dropped at point c found.TooWide has is = record { condition = c; has = has; wide = is }
told_point ty d candidates dropped at point c found.Neither has is =
    (λ passes. is.0 (passes_so ty d candidates dropped at point c has passes), λ fails. is.1 (fails_so ty d candidates dropped at point c has fails))

pub point_step : (ty : TypeForm) (d : DesignForm) (b : Block) → IsBlock b → (at : Place) (point : PointForm) (number : ℕ) (f : Found) → IsNumberAt ty b.candidates.conjuncts b.dropped.items at number
    → IsFoundIn (facts_of_condition ty d b.left.conjuncts number) point f → IsPointStep ty d b.candidates.conjuncts b.dropped.items at point (step_of f)
point_step ty d b is at point number f n found =
    let P : List Fact → Type 0 = λ facts. IsFoundIn facts point f in
    told_point ty d b.candidates.conjuncts b.dropped.items at point n.condition f n.has (subst P (facts_numbered ty d b is at number n) found)

-- blocks
pub first_block : (b : Block) → length b.candidates.conjuncts ≤ 2 ^ 28 → b.dropped.items ≡ [] → b.numbers.items ≡ numbers_from 0 (length b.candidates.conjuncts) → b.left.conjuncts ≡ conjuncts_of b.candidates.conjuncts b.numbers.items → IsBlock b
first_block b few none numbers left =
    let all : b.numbers.items ≡ numbers_left 0 b.dropped.items b.candidates.conjuncts = numbers ∙ none_dropped 0 b.candidates.conjuncts ∙ ap (λ ds. numbers_left 0 ds b.candidates.conjuncts) (sym none) in
    record { few = few; numbers = all; left = left ∙ ap (conjuncts_of b.candidates.conjuncts) all ∙ sym (left_are b.candidates.conjuncts b.dropped.items) }

pub next_block : (old new : Block) (number : ℕ) → IsBlock old → new.candidates.conjuncts ≡ old.candidates.conjuncts → new.dropped.items ≡ old.dropped.items ++ number ∷ [] → new.numbers.items ≡ without number old.numbers.items
    → new.left.conjuncts ≡ conjuncts_of old.candidates.conjuncts new.numbers.items → IsBlock new
next_block old new number is same dropped numbers left =
    let all : new.numbers.items ≡ numbers_left 0 new.dropped.items new.candidates.conjuncts =
    numbers ∙ ap (without number) is.numbers ∙ without_dropped 0 number old.dropped.items old.candidates.conjuncts
    ∙ ap (λ ds. numbers_left 0 ds old.candidates.conjuncts) (sym dropped) ∙ ap (numbers_left 0 new.dropped.items) (sym same) in
    let few = is.few in
    record {
      few = omega (arith, few, ap length same);
      numbers = all;
      left = left ∙ ap (λ cs. conjuncts_of cs new.numbers.items) (sym same) ∙ ap (conjuncts_of new.candidates.conjuncts) all ∙ sym (left_are new.candidates.conjuncts new.dropped.items);
    }

pub count_few : (b : Block) → IsBlock b → length b.numbers.items ≤ 2 ^ 28
count_few b is = let few = is.few in omega (arith, few, ap length is.numbers, numbers_few 0 b.dropped.items b.candidates.conjuncts)

pub place_few : (b : Block) → IsBlock b → (place j : ℕ) → slice_get b.numbers.items place ≡ Some j → place < length b.numbers.items
place_few b is place j e = got_less b.numbers.items place j e

-- a number that was counted
pub recounted : (r n m a b q : ℕ) → r ≡ (n + (a * n + q)) + 1 → n ≡ m → a ≡ b → r ≡ (m + (b * m + q)) + 1
recounted r n m a b q e f g = e ∙ ap (λ k. (k + (a * k + q)) + 1) f ∙ ap (λ k. (m + (k * m + q)) + 1) g
