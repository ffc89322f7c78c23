-- The condition with a number.
use Rattle.std.proofs.Common.{◌≡◌, ℕ, zero, suc, ◌+◌, ◌-◌, ◌<◌, ◌≤◌, List, [], ◌∷◌, ◌++◌, length, Option, Some, option_map, Result, Ok, Err, IfOk, refl, sym, ap, ◌∙◌, arith}
use Rattle.std.specs.Prelude.{slice_get}
use Rattle.std.proofs.lemmas.List.{append_assoc}
use Rattle.std.proofs.lemmas.Option.{slice_get_within}
use Rattle.kat_relation.specs.declared.relations.Conjunct.{Conjunct}
use Rattle.kat_type.specs.Types.{OperationForm, QueryForm, TypeForm}
use Rattle.kat_claims.proofs.Appended.{get_before, get_behind}
use Rattle.kat_vc.specs.Conditions.{Condition, answers_of_each, conditions, starts, steps, steps_of_each}
use Rattle.kat_vc.specs.Conditions.Condition.{start, step, answers}
use Rattle.kat_vc.specs.Numbered.{condition_of}
use Rattle.kat_vc.specs.declared.by_number.Condition.{Condition as Numbered}

starts_at : (cs : List Conjunct) (i : ℕ) → slice_get (starts cs) i ≡ option_map start (slice_get cs i)
starts_at [] i = refl
starts_at (c ∷ cs) zero = refl
starts_at (c ∷ cs) (suc i) = starts_at cs i

steps_at : (o : ℕ) (op : OperationForm) (cs : List Conjunct) (i : ℕ) → slice_get (steps o op cs) i ≡ option_map (step o op) (slice_get cs i)
steps_at o op [] i = refl
steps_at o op (c ∷ cs) zero = refl
steps_at o op (c ∷ cs) (suc i) = steps_at o op cs i

answers_at : (q : ℕ) (queries : List QueryForm) (i n : ℕ) → q + i ≡ n → slice_get (answers_of_each q queries) i ≡ option_map (answers n) (slice_get queries i)
answers_at q [] i n e = refl
answers_at q (x ∷ xs) zero n e = let same : q ≡ n = omega (arith, e) in rw same refl
answers_at q (x ∷ xs) (suc i) n e = answers_at (suc q) xs i n (omega (arith, e))

pub answer_at : (queries : List QueryForm) (i : ℕ) → slice_get (answers_of_each 0 queries) i ≡ option_map (answers i) (slice_get queries i)
answer_at queries i = answers_at 0 queries i i (omega arith)

starts_length : (cs : List Conjunct) → length (starts cs) ≡ length cs
starts_length [] = refl
starts_length (c ∷ cs) = ap suc (starts_length cs)

steps_length : (o : ℕ) (op : OperationForm) (cs : List Conjunct) → length (steps o op cs) ≡ length cs
steps_length o op [] = refl
steps_length o op (c ∷ cs) = ap suc (steps_length o op cs)

-- a condition of the start
pub start_at_number : (ty : TypeForm) (cs : List Conjunct) (i : ℕ) → i < length cs → slice_get (conditions ty cs) i ≡ option_map start (slice_get cs i)
start_at_number ty cs i h =
    let behind = steps_of_each 0 ty.ops cs ++ answers_of_each 0 ty.queries in
    ap (λ (xs : List Condition). slice_get xs i) (append_assoc (starts cs) (steps_of_each 0 ty.ops cs) (answers_of_each 0 ty.queries))
    ∙ get_before (starts cs) behind i (omega (arith, h, starts_length cs)) ∙ starts_at cs i

-- the others
pub behind_starts : (ty : TypeForm) (cs : List Conjunct) (i left : ℕ) → length cs ≤ i → i - length cs ≡ left
    → slice_get (steps_of_each 0 ty.ops cs ++ answers_of_each 0 ty.queries) left ≡ slice_get (conditions ty cs) i
behind_starts ty cs i left h e =
    let behind = steps_of_each 0 ty.ops cs ++ answers_of_each 0 ty.queries in
    let place : i - length (starts cs) ≡ left = omega (arith, e, starts_length cs) in
    sym (ap (λ (xs : List Condition). slice_get xs i) (append_assoc (starts cs) (steps_of_each 0 ty.ops cs) (answers_of_each 0 ty.queries))
    ∙ get_behind (starts cs) behind i (omega (arith, h, starts_length cs)) ∙ ap (slice_get behind) place)

-- a condition of the first of some operations, and of the others
pub step_at_number : (o : ℕ) (op : OperationForm) (ops : List OperationForm) (cs : List Conjunct) (others : List Condition) (i : ℕ) → i < length cs
    → slice_get (steps_of_each o (op ∷ ops) cs ++ others) i ≡ option_map (step o op) (slice_get cs i)
step_at_number o op ops cs others i h =
    ap (λ (xs : List Condition). slice_get xs i) (append_assoc (steps o op cs) (steps_of_each (suc o) ops cs) others)
    ∙ get_before (steps o op cs) (steps_of_each (suc o) ops cs ++ others) i (omega (arith, h, steps_length o op cs)) ∙ steps_at o op cs i

pub behind_steps : (o : ℕ) (op : OperationForm) (ops : List OperationForm) (cs : List Conjunct) (others : List Condition) (i left : ℕ) → length cs ≤ i → i - length cs ≡ left
    → slice_get (steps_of_each (suc o) ops cs ++ others) left ≡ slice_get (steps_of_each o (op ∷ ops) cs ++ others) i
behind_steps o op ops cs others i left h e =
    let rest = steps_of_each (suc o) ops cs ++ others in
    let place : i - length (steps o op cs) ≡ left = omega (arith, e, steps_length o op cs) in
    sym (ap (λ (xs : List Condition). slice_get xs i) (append_assoc (steps o op cs) (steps_of_each (suc o) ops cs) others)
    ∙ get_behind (steps o op cs) rest i (omega (arith, h, steps_length o op cs)) ∙ ap (slice_get rest) place)

-- the same when a conjunct, or a query, is found
pub start_found : (ty : TypeForm) (cs : List Conjunct) (i : ℕ) (claim : Conjunct) → Some claim ≡ slice_get cs i → Some (start claim) ≡ slice_get (conditions ty cs) i
start_found ty cs i claim e = sym (start_at_number ty cs i (slice_get_within cs i claim (sym e)) ∙ ap (option_map start) (sym e))

pub step_found : (o : ℕ) (op : OperationForm) (ops : List OperationForm) (cs : List Conjunct) (others : List Condition) (i : ℕ) (claim : Conjunct) → Some claim ≡ slice_get cs i
    → Some (step o op claim) ≡ slice_get (steps_of_each o (op ∷ ops) cs ++ others) i
step_found o op ops cs others i claim e = sym (step_at_number o op ops cs others i (slice_get_within cs i claim (sym e)) ∙ ap (option_map (step o op)) (sym e))

pub answer_found : (queries : List QueryForm) (i : ℕ) (found : Option QueryForm) → found ≡ slice_get queries i → option_map (answers i) found ≡ slice_get (answers_of_each 0 queries) i
answer_found queries i found e = ap (option_map (answers i)) e ∙ sym (answer_at queries i)

-- the conditions of later operations, and of all operations, once the conjuncts are passed
pub later_found : {E : Type 0} (result : Result (Option Numbered) E) (o next : ℕ) (op : OperationForm) (ops : List OperationForm) (cs : List Conjunct) (others : List Condition) (i left : ℕ)
    → length cs ≤ i → left ≡ i - length cs → next ≡ o + 1
    → IfOk result (λ condition. option_map condition_of condition ≡ slice_get (steps_of_each next ops cs ++ others) left)
    → IfOk result (λ condition. option_map condition_of condition ≡ slice_get (steps_of_each o (op ∷ ops) cs ++ others) i)
later_found (Ok condition) o next op ops cs others i left h e n was =
    let same : next ≡ suc o = omega (arith, n) in
    was ∙ ap (λ m. slice_get (steps_of_each m ops cs ++ others) left) same ∙ behind_steps o op ops cs others i left h (sym e)
later_found (Err e) o next op ops cs others i left h e' n was = tt

pub all_found : {E : Type 0} (result : Result (Option Numbered) E) (ty : TypeForm) (cs : List Conjunct) (i k left : ℕ)
    → i ≡ k → length cs ≤ i → left ≡ i - length cs
    → IfOk result (λ condition. option_map condition_of condition ≡ slice_get (steps_of_each 0 ty.ops cs ++ answers_of_each 0 ty.queries) left)
    → IfOk result (λ condition. option_map condition_of condition ≡ slice_get (conditions ty cs) k)
all_found (Ok condition) ty cs i k left place h e was = was ∙ behind_starts ty cs i left h (sym e) ∙ ap (slice_get (conditions ty cs)) place
all_found (Err e) ty cs i k left place h e' was = tt
