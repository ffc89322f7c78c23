-- The conditions of the candidates that are left, by their places.
use Rattle.std.proofs.Common.{◌≡◌, ℕ, zero, suc, ◌+◌, ◌⊎◌, inl, inr, ⊎_elim, Bool, true, false, if◌then◌else◌, List, [], ◌∷◌, ◌++◌, Option, Some, None, option_map, refl, sym, ap, ◌∙◌, subst, arith}
use Rattle.std.specs.Prelude.{slice_get, option_and_then}
use Rattle.std.specs.List.{AllPairs}
use Rattle.kat_block.specs.Blocks.{conjunct_conditions}
use Rattle.kat_block.proofs.Places.{got_has, none_some, some_same}
use Rattle.kat_candidate.specs.Places.{has_number, left_behind, left_from}
use Rattle.kat_candidate.specs.Texts.{Precedes, text_of}
use Rattle.kat_candidate.proofs.Orders.{less_asym}
use Rattle.kat_prove.specs.Provings.{IsOfConjunct}
use Rattle.kat_relation.specs.declared.relations.Conjunct.{Conjunct}
use Rattle.kat_type.specs.Lists.{Has, IsOnce}
use Rattle.kat_type.proofs.Lists.{has_behind, has_either, has_front}
use Rattle.kat_type.proofs.Ordered.{had_all}
use Rattle.kat_type.specs.Types.{OperationForm, QueryForm, TypeForm}
use Rattle.kat_vc.specs.Conditions.{Condition, start, step, answers, answers_of_each, conditions, starts, steps, steps_of_each}

-- what maps to something is something
pub map_some : {A B : Type 0} (f : A → B) (o : Option A) (y : B) → option_map f o ≡ Some y → (x : A) × (o ≡ Some x) × (f x ≡ y)
map_some f None y e = absurd (none_some y e)
map_some f (Some x) y e = (x, refl, some_same (f x) y e)

pub then_some : {A B : Type 0} (f : A → Option B) (o : Option A) (y : B) → option_and_then f o ≡ Some y → (x : A) × (o ≡ Some x) × (f x ≡ Some y)
then_some f None y e = absurd (none_some y e)
then_some f (Some x) y e = (x, refl, e)

-- candidates in their order are different
not_itself : (c d : Conjunct) → Precedes c d → c ≡ d → ⊥
not_itself c d h e = less_asym (text_of c) (text_of c) (subst (Precedes c) (sym e) h) (subst (Precedes c) (sym e) h)

pub pairs_once : (cs : List Conjunct) → AllPairs Precedes cs → IsOnce cs
pairs_once [] h = tt
pairs_once (c ∷ cs) h = (
  λ has. not_itself c c (had_all (Precedes c) cs c c (λ k lt. h zero (suc k) c (omega arith) (omega (arith, lt))) has) refl,
  pairs_once cs (λ i j d lt le. h (suc i) (suc j) d (omega (arith, lt)) (omega (arith, le))),
)

-- a candidate that is left is one, and it has the number of one that isn't dropped
has_picked : (b : Bool) (x c : Conjunct) (left : List Conjunct) → Has (if b then left else x ∷ left) c → Has left c ⊎ ((b ≡ false) × (x ≡ c))
has_picked true x c left h = inl h
has_picked false x c left (inl e) = inr (refl, e)
has_picked false x c left (inr h) = inl h

has_left : (n : ℕ) (dropped : List ℕ) (cs : List Conjunct) (c : Conjunct) → Has (left_from n dropped cs) c → Has cs c
has_left n dropped [] c h = h
has_left n dropped (x ∷ xs) c h = ⊎_elim
    (λ (k : Has (left_from (suc n) dropped xs) c). inr (has_left (suc n) dropped xs c k))
    (λ (e : (has_number n dropped ≡ false) × (x ≡ c)). inl e.1)
    (has_picked (has_number n dropped) x c (left_from (suc n) dropped xs) h)

fresh_from : (n : ℕ) (dropped : List ℕ) (cs : List Conjunct) (j : ℕ) (c : Conjunct) → IsOnce cs → slice_get cs j ≡ Some c → Has (left_from n dropped cs) c → has_number (n + j) dropped ≡ false
fresh_from n dropped [] j c once there h = absurd h
fresh_from n dropped (x ∷ xs) zero c once there h =
    let same : x ≡ c = some_same x c there in
    let at : n + zero ≡ n = omega arith in
    ⊎_elim
    (λ (k : Has (left_from (suc n) dropped xs) c). absurd (once.0 (subst (Has xs) (sym same) (has_left (suc n) dropped xs c k))))
    (λ (e : (has_number n dropped ≡ false) × (x ≡ c)). ap (λ m. has_number m dropped) at ∙ e.0)
    (has_picked (has_number n dropped) x c (left_from (suc n) dropped xs) h)
fresh_from n dropped (x ∷ xs) (suc j) c once there h =
    let at : n + suc j ≡ suc n + j = omega arith in
    ⊎_elim
    (λ (k : Has (left_from (suc n) dropped xs) c). ap (λ m. has_number m dropped) at ∙ fresh_from (suc n) dropped xs j c once.1 there k)
    (λ (e : (has_number n dropped ≡ false) × (x ≡ c)). absurd (once.0 (subst (Has xs) (sym e.1) (got_has xs j c there))))
    (has_picked (has_number n dropped) x c (left_from (suc n) dropped xs) h)

pub left_fresh : (dropped : List ℕ) (cs : List Conjunct) (j : ℕ) (c : Conjunct) → IsOnce cs → slice_get cs j ≡ Some c → Has (left_behind cs dropped) c → has_number j dropped ≡ false
left_fresh dropped cs j c once there h = let at : j ≡ 0 + j = omega arith in ap (λ m. has_number m dropped) at ∙ fresh_from 0 dropped cs j c once there h

-- and one that isn't dropped is left
put_later : (b : Bool) (x c : Conjunct) (left : List Conjunct) → Has left c → Has (if b then left else x ∷ left) c
put_later true x c left h = h
put_later false x c left h = inr h

put_here : (b : Bool) (x c : Conjunct) (left : List Conjunct) → b ≡ false → x ≡ c → Has (if b then left else x ∷ left) c
put_here true x c left b e = absurd (cc)
put_here false x c left b e = inl e

left_from_has : (n : ℕ) (dropped : List ℕ) (cs : List Conjunct) (j : ℕ) (c : Conjunct) → slice_get cs j ≡ Some c → has_number (n + j) dropped ≡ false → Has (left_from n dropped cs) c
left_from_has n dropped [] j c there fresh = absurd (none_some c there)
left_from_has n dropped (x ∷ xs) zero c there fresh =
    let at : n ≡ n + zero = omega arith in put_here (has_number n dropped) x c (left_from (suc n) dropped xs) (ap (λ m. has_number m dropped) at ∙ fresh) (some_same x c there)
left_from_has n dropped (x ∷ xs) (suc j) c there fresh =
    let at : suc n + j ≡ n + suc j = omega arith in
    put_later (has_number n dropped) x c (left_from (suc n) dropped xs) (left_from_has (suc n) dropped xs j c there (ap (λ m. has_number m dropped) at ∙ fresh))

pub left_has : (dropped : List ℕ) (cs : List Conjunct) (j : ℕ) (c : Conjunct) → slice_get cs j ≡ Some c → has_number j dropped ≡ false → Has (left_behind cs dropped) c
left_has dropped cs j c there fresh = let at : 0 + j ≡ j = omega arith in left_from_has 0 dropped cs j c there (ap (λ m. has_number m dropped) at ∙ fresh)

-- what a condition is, by the list that has it
starts_of : (cs : List Conjunct) (k : Condition) → Has (starts cs) k → (x : Conjunct) × Has cs x × (start x ≡ k)
starts_of [] k h = absurd h
starts_of (c ∷ cs) k (inl e) = (c, inl refl, e)
starts_of (c ∷ cs) k (inr h) = let rest = starts_of cs k h in (rest.0, inr rest.1, rest.2)

steps_of : (o : ℕ) (op : OperationForm) (cs : List Conjunct) (k : Condition) → Has (steps o op cs) k → (x : Conjunct) × Has cs x × (step o op x ≡ k)
steps_of o op [] k h = absurd h
steps_of o op (c ∷ cs) k (inl e) = (c, inl refl, e)
steps_of o op (c ∷ cs) k (inr h) = let rest = steps_of o op cs k h in (rest.0, inr rest.1, rest.2)

each_step_of : (n : ℕ) (ops : List OperationForm) (cs : List Conjunct) (k : Condition) → Has (steps_of_each n ops cs) k → (o : ℕ) × (op : OperationForm) × (x : Conjunct) × Has cs x × (step o op x ≡ k)
each_step_of n [] cs k h = absurd h
each_step_of n (op ∷ ops) cs k h = ⊎_elim
    (λ (a : Has (steps n op cs) k). let s = steps_of n op cs k a in (n, op, s.0, s.1, s.2))
    (λ (b : Has (steps_of_each (suc n) ops cs) k). each_step_of (suc n) ops cs k b)
    (has_either (steps n op cs) (steps_of_each (suc n) ops cs) k h)

each_answer_of : (n : ℕ) (queries : List QueryForm) (k : Condition) → Has (answers_of_each n queries) k → (q : ℕ) × (query : QueryForm) × (answers q query ≡ k)
each_answer_of n [] k h = absurd h
each_answer_of n (x ∷ xs) k (inl e) = (n, x, e)
each_answer_of n (x ∷ xs) k (inr h) = each_answer_of (suc n) xs k h

-- a condition of a candidate is of one of these
start_start : (c x : Conjunct) → start x ≡ start c → x ≡ c
start_start c x e = cc

step_no_start : (o : ℕ) (op : OperationForm) (c x : Conjunct) → step o op x ≡ start c → ⊥
step_no_start o op c x e = cc

answer_no_start : (q : ℕ) (query : QueryForm) (c : Conjunct) → answers q query ≡ start c → ⊥
answer_no_start q query c e = cc

start_no_step : (o : ℕ) (op : OperationForm) (c x : Conjunct) → start x ≡ step o op c → ⊥
start_no_step o op c x e = cc

step_step : (o o' : ℕ) (op op' : OperationForm) (c x : Conjunct) → step o' op' x ≡ step o op c → x ≡ c
step_step o o' op op' c x e = cc

answer_no_step : (q o : ℕ) (query : QueryForm) (op : OperationForm) (c : Conjunct) → answers q query ≡ step o op c → ⊥
answer_no_step q o query op c e = cc

pub has_start : (ty : TypeForm) (cs : List Conjunct) (c : Conjunct) → Has (conditions ty cs) (start c) → Has cs c
has_start ty cs c h = ⊎_elim
    (λ (own : Has (conjunct_conditions ty cs) (start c)). ⊎_elim
    (λ (a : Has (starts cs) (start c)). let s = starts_of cs (start c) a in subst (Has cs) (start_start c s.0 s.2) s.1)
    (λ (b : Has (steps_of_each 0 ty.ops cs) (start c)). let s = each_step_of 0 ty.ops cs (start c) b in absurd (step_no_start s.0 s.1 c s.2 s.4))
    (has_either (starts cs) (steps_of_each 0 ty.ops cs) (start c) own))
    (λ (last : Has (answers_of_each 0 ty.queries) (start c)). let s = each_answer_of 0 ty.queries (start c) last in absurd (answer_no_start s.0 s.1 c s.2))
    (has_either (conjunct_conditions ty cs) (answers_of_each 0 ty.queries) (start c) h)

pub has_step : (ty : TypeForm) (cs : List Conjunct) (o : ℕ) (op : OperationForm) (c : Conjunct) → Has (conditions ty cs) (step o op c) → Has cs c
has_step ty cs o op c h = ⊎_elim
    (λ (own : Has (conjunct_conditions ty cs) (step o op c)). ⊎_elim
    (λ (a : Has (starts cs) (step o op c)). let s = starts_of cs (step o op c) a in absurd (start_no_step o op c s.0 s.2))
    (λ (b : Has (steps_of_each 0 ty.ops cs) (step o op c)). let s = each_step_of 0 ty.ops cs (step o op c) b in subst (Has cs) (step_step o s.0 op s.1 c s.2 s.4) s.3)
    (has_either (starts cs) (steps_of_each 0 ty.ops cs) (step o op c) own))
    (λ (last : Has (answers_of_each 0 ty.queries) (step o op c)). let s = each_answer_of 0 ty.queries (step o op c) last in absurd (answer_no_step s.0 o s.1 op c s.2))
    (has_either (conjunct_conditions ty cs) (answers_of_each 0 ty.queries) (step o op c) h)

-- the conditions of candidates are those that are of a conjunct
pub of_conjuncts : (ty : TypeForm) (cs : List Conjunct) (k : Condition) → Has (conditions ty cs) k → IsOfConjunct (Some k) → Has (conjunct_conditions ty cs) k
of_conjuncts ty cs k h own = ⊎_elim
    (λ (a : Has (conjunct_conditions ty cs) k). a)
    (λ (b : Has (answers_of_each 0 ty.queries) k).
    let s = each_answer_of 0 ty.queries k b in
    let P : Condition → Type 0 = λ x. IsOfConjunct (Some x) in
    let none : IsOfConjunct (Some (answers s.0 s.1)) = subst P (sym s.2) own in absurd none)
    (has_either (conjunct_conditions ty cs) (answers_of_each 0 ty.queries) k h)

pub are_of_conjuncts : (ty : TypeForm) (cs : List Conjunct) (k : Condition) → Has (conjunct_conditions ty cs) k → Has (conditions ty cs) k × IsOfConjunct (Some k)
are_of_conjuncts ty cs k h = (
  has_front (conjunct_conditions ty cs) (answers_of_each 0 ty.queries) k h,
  (let P : Condition → Type 0 = λ x. IsOfConjunct (Some x) in
      ⊎_elim
      (λ (a : Has (starts cs) k). let s = starts_of cs k a in subst P s.2 tt)
      (λ (b : Has (steps_of_each 0 ty.ops cs) k). let s = each_step_of 0 ty.ops cs k b in subst P s.4 tt)
      (has_either (starts cs) (steps_of_each 0 ty.ops cs) k h)),
)

-- each place has its condition
starts_have : (cs : List Conjunct) (c : Conjunct) → Has cs c → Has (starts cs) (start c)
starts_have [] c h = absurd h
starts_have (x ∷ xs) c (inl e) = inl (ap start e)
starts_have (x ∷ xs) c (inr h) = inr (starts_have xs c h)

steps_have : (o : ℕ) (op : OperationForm) (cs : List Conjunct) (c : Conjunct) → Has cs c → Has (steps o op cs) (step o op c)
steps_have o op [] c h = absurd h
steps_have o op (x ∷ xs) c (inl e) = inl (ap (step o op) e)
steps_have o op (x ∷ xs) c (inr h) = inr (steps_have o op xs c h)

each_step_has : (n : ℕ) (ops : List OperationForm) (cs : List Conjunct) (o : ℕ) (op : OperationForm) (c : Conjunct) → slice_get ops o ≡ Some op → Has cs c → Has (steps_of_each n ops cs) (step (n + o) op c)
each_step_has n [] cs o op c there h = absurd (none_some op there)
each_step_has n (x ∷ xs) cs zero op c there h =
    let at : n ≡ n + zero = omega arith in
    let P : ℕ → Type 0 = λ m. Has (steps n x cs ++ steps_of_each (suc n) xs cs) (step m op c) in
    let Q : OperationForm → Type 0 = λ y. Has (steps n x cs ++ steps_of_each (suc n) xs cs) (step n y c) in
    subst P at (subst Q (some_same x op there) (has_front (steps n x cs) (steps_of_each (suc n) xs cs) (step n x c) (steps_have n x cs c h)))
each_step_has n (x ∷ xs) cs (suc o) op c there h =
    let at : suc n + o ≡ n + suc o = omega arith in
    let P : ℕ → Type 0 = λ m. Has (steps n x cs ++ steps_of_each (suc n) xs cs) (step m op c) in
    subst P at (has_behind (steps n x cs) (steps_of_each (suc n) xs cs) (step (suc n + o) op c) (each_step_has (suc n) xs cs o op c there h))

each_answer_has : (n : ℕ) (queries : List QueryForm) (q : ℕ) (query : QueryForm) → slice_get queries q ≡ Some query → Has (answers_of_each n queries) (answers (n + q) query)
each_answer_has n [] q query there = absurd (none_some query there)
each_answer_has n (x ∷ xs) zero query there =
    let at : n ≡ n + zero = omega arith in
    inl (ap (answers n) (some_same x query there) ∙ ap (λ m. answers m query) at)
each_answer_has n (x ∷ xs) (suc q) query there =
    let at : suc n + q ≡ n + suc q = omega arith in
    let P : ℕ → Type 0 = λ m. Has (answers_of_each (suc n) xs) (answers m query) in
    inr (subst P at (each_answer_has (suc n) xs q query there))

pub start_among : (ty : TypeForm) (cs : List Conjunct) (c : Conjunct) → Has cs c → Has (conditions ty cs) (start c)
start_among ty cs c h = has_front (conjunct_conditions ty cs) (answers_of_each 0 ty.queries) (start c) (has_front (starts cs) (steps_of_each 0 ty.ops cs) (start c) (starts_have cs c h))

pub step_among : (ty : TypeForm) (cs : List Conjunct) (o : ℕ) (op : OperationForm) (c : Conjunct) → slice_get ty.ops o ≡ Some op → Has cs c → Has (conditions ty cs) (step o op c)
step_among ty cs o op c there h =
    let at : 0 + o ≡ o = omega arith in
    let P : ℕ → Type 0 = λ m. Has (steps_of_each 0 ty.ops cs) (step m op c) in
    has_front (conjunct_conditions ty cs) (answers_of_each 0 ty.queries) (step o op c)
    (has_behind (starts cs) (steps_of_each 0 ty.ops cs) (step o op c) (subst P at (each_step_has 0 ty.ops cs o op c there h)))

pub answer_among : (ty : TypeForm) (cs : List Conjunct) (q : ℕ) (query : QueryForm) → slice_get ty.queries q ≡ Some query → Has (conditions ty cs) (answers q query)
answer_among ty cs q query there =
    let at : 0 + q ≡ q = omega arith in
    let P : ℕ → Type 0 = λ m. Has (answers_of_each 0 ty.queries) (answers m query) in
    has_behind (conjunct_conditions ty cs) (answers_of_each 0 ty.queries) (answers q query) (subst P at (each_answer_has 0 ty.queries q query there))
