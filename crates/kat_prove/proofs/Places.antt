-- The places of conditions among candidates, and among those that are left.
use Rattle.std.proofs.Common.{◌≡◌, ℕ, zero, suc, ◌+◌, ◌-◌, ◌<◌, ◌≤◌, ◌⊎◌, Bool, true, false, if◌then◌else◌, List, [], ◌∷◌, ◌++◌, length, Option, Some, None, option_map, inl, inr, ⊎_elim, refl, sym, ap, subst, ◌∙◌, arith}
use Rattle.std.specs.Prelude.{slice_get, option_and_then}
use Rattle.std.specs.List.{cons_option}
use Rattle.std.proofs.lemmas.List.{append_assoc, length-append}
use Rattle.std.proofs.lemmas.Option.{slice_get_within}
use Rattle.kat_relation.specs.declared.relations.Conjunct.{Conjunct}
use Rattle.kat_type.specs.Lists.{Has}
use Rattle.kat_type.specs.Types.{OperationForm, QueryForm, TypeForm}
use Rattle.kat_vc.specs.Conditions.{Condition, start, step, answers, answers_of_each, conditions, starts, steps, steps_of_each}
use Rattle.kat_candidate.specs.Places.{condition_at, has_number, left_behind, left_from}
use Rattle.kat_candidate.specs.declared.places.Place1.{Place1}
use Rattle.kat_prove.specs.Trials.{conjuncts_of, numbers_left, place_at, place_from, start_or, step_or}

-- elements of lists that are put together
pub get_before : {A : Type 0} (xs ys : List A) (i : ℕ) → i < length xs → slice_get (xs ++ ys) i ≡ slice_get xs i
get_before [] ys i h = absurd (omega (arith, h))
get_before (x ∷ xs) ys zero h = refl
get_before (x ∷ xs) ys (suc i) h = get_before xs ys i (omega (arith, h))

pub get_behind : {A : Type 0} (xs ys : List A) (i : ℕ) → length xs ≤ i → slice_get (xs ++ ys) i ≡ slice_get ys (i - length xs)
get_behind [] ys i h = let same : i ≡ i - 0 = omega arith in ap (slice_get ys) same
get_behind (x ∷ xs) ys zero h = absurd (omega (arith, h))
get_behind (x ∷ xs) ys (suc i) h =
    let same : i - length xs ≡ suc i - suc (length xs) = omega arith in get_behind xs ys i (omega (arith, h)) ∙ ap (slice_get ys) same

some_none : {A : Type 0} (x : A) → Some x ≡ None → ⊥
some_none x e = cc e

none_some : {A : Type 0} (x : A) → None ≡ Some x → ⊥
none_some x e = cc e

some_same : {A : Type 0} (a b : A) → Some a ≡ Some b → a ≡ b
some_same a b e = cc e

pub past_get : {A : Type 0} (xs : List A) (i : ℕ) → slice_get xs i ≡ None → length xs ≤ i
past_get [] i e = omega arith
past_get (x ∷ xs) zero e = absurd (some_none x e)
past_get (x ∷ xs) (suc i) e = let rest = past_get xs i e in omega (arith, rest)

pub some_get : {A : Type 0} (xs : List A) (i : ℕ) → i < length xs → (x : A) × (slice_get xs i ≡ Some x)
some_get [] i h = absurd (omega (arith, h))
some_get (x ∷ xs) zero h = (x, refl)
some_get (x ∷ xs) (suc i) h = some_get xs i (omega (arith, h))

pub got_has : {A : Type 0} (xs : List A) (i : ℕ) (x : A) → slice_get xs i ≡ Some x → Has xs x
got_has [] i x e = absurd (none_some x e)
got_has (y ∷ ys) zero x e = inl (some_same y x e)
got_has (y ∷ ys) (suc i) x e = inr (got_has ys i x e)

-- the one after a prefix
pub get_there : {A : Type 0} (front : List A) (x : A) (xs : List A) (n : ℕ) → length front ≡ n → slice_get (front ++ x ∷ xs) n ≡ Some x
get_there front x xs n e =
    let same : n - length front ≡ 0 = omega (arith, e) in
    get_behind front (x ∷ xs) n (omega (arith, e)) ∙ ap (slice_get (x ∷ xs)) same

-- what is left are the candidates with the numbers that are left
picked_left : (b : Bool) (candidates : List Conjunct) (n : ℕ) (c : Conjunct) (left : List Conjunct) (numbers : List ℕ) → slice_get candidates n ≡ Some c → left ≡ conjuncts_of candidates numbers
    → (if b then left else c ∷ left) ≡ conjuncts_of candidates (if b then numbers else n ∷ numbers)
picked_left true candidates n c left numbers e same = same
picked_left false candidates n c left numbers e same = ap (λ xs. c ∷ xs) same ∙ ap (λ o. cons_option o [] ++ conjuncts_of candidates numbers) (sym e)

left_conjuncts : (front cs : List Conjunct) (n : ℕ) (dropped : List ℕ) → length front ≡ n → left_from n dropped cs ≡ conjuncts_of (front ++ cs) (numbers_left n dropped cs)
left_conjuncts front [] n dropped e = refl
left_conjuncts front (c ∷ cs) n dropped e =
    let whole : (front ++ c ∷ []) ++ cs ≡ front ++ c ∷ cs = append_assoc front (c ∷ []) cs in
    picked_left (has_number n dropped) (front ++ c ∷ cs) n c (left_from (suc n) dropped cs) (numbers_left (suc n) dropped cs) (get_there front c cs n e)
    (subst (λ all. left_from (suc n) dropped cs ≡ conjuncts_of all (numbers_left (suc n) dropped cs)) whole (left_conjuncts (front ++ c ∷ []) cs (suc n) dropped (omega (arith, e, length-append front (c ∷ [])))))

pub left_are : (candidates : List Conjunct) (dropped : List ℕ) → left_behind candidates dropped ≡ conjuncts_of candidates (numbers_left 0 dropped candidates)
left_are candidates dropped = left_conjuncts [] candidates 0 dropped refl

-- the numbers that are left are of candidates that aren't dropped
picked_number : (b : Bool) (n : ℕ) (numbers : List ℕ) (j : ℕ) → Has (if b then numbers else n ∷ numbers) j → ((b ≡ false) × (n ≡ j)) ⊎ Has numbers j
picked_number true n numbers j h = inr h
picked_number false n numbers j (inl e) = inl (refl, e)
picked_number false n numbers j (inr h) = inr h

pub left_range : (n : ℕ) (dropped : List ℕ) (cs : List Conjunct) (j : ℕ) → Has (numbers_left n dropped cs) j → (has_number j dropped ≡ false) × (n ≤ j) × (j < n + length cs)
left_range n dropped [] j h = absurd h
left_range n dropped (c ∷ cs) j h = ⊎_elim
    (λ e. (subst (λ m. has_number m dropped ≡ false) e.1 e.0, let at = e.1 in omega (arith, at), let at = e.1 in omega (arith, at)))
    (λ k. let rest = left_range (suc n) dropped cs j k in let least = rest.1 in let less = rest.2 in (rest.0, omega (arith, least), omega (arith, less)))
    (picked_number (has_number n dropped) n (numbers_left (suc n) dropped cs) j h)

-- so is the one at each place
abbrev AreIn : List Conjunct → List ℕ → Type 0
AreIn candidates numbers = (j : ℕ) → Has numbers j → j < length candidates

conjunct_got : (candidates : List Conjunct) (n : ℕ) (ns : List ℕ) (c : Conjunct) (i : ℕ) → slice_get candidates n ≡ Some c → slice_get (conjuncts_of candidates (n ∷ ns)) i ≡ slice_get (c ∷ conjuncts_of candidates ns) i
conjunct_got candidates n ns c i e = ap (λ o. slice_get (cons_option o [] ++ conjuncts_of candidates ns) i) e

chosen_at : (candidates : List Conjunct) (numbers : List ℕ) (i j : ℕ) → AreIn candidates numbers → slice_get numbers i ≡ Some j → slice_get (conjuncts_of candidates numbers) i ≡ slice_get candidates j
chosen_at candidates [] i j range e = absurd (none_some j e)
chosen_at candidates (n ∷ ns) zero j range e =
    let c = some_get candidates n (range n (inl refl)) in
    let same = some_same n j e in
    conjunct_got candidates n ns c.0 zero c.1 ∙ sym c.1 ∙ ap (slice_get candidates) same
chosen_at candidates (n ∷ ns) (suc i) j range e =
    let c = some_get candidates n (range n (inl refl)) in
    conjunct_got candidates n ns c.0 (suc i) c.1 ∙ chosen_at candidates ns i j (λ k h. range k (inr h)) e

chosen_length : (candidates : List Conjunct) (numbers : List ℕ) → AreIn candidates numbers → length (conjuncts_of candidates numbers) ≡ length numbers
chosen_length candidates [] range = refl
chosen_length candidates (n ∷ ns) range =
    let c = some_get candidates n (range n (inl refl)) in
    ap (λ o. length (cons_option o [] ++ conjuncts_of candidates ns)) c.1 ∙ ap suc (chosen_length candidates ns (λ k h. range k (inr h)))

left_in : (candidates : List Conjunct) (dropped : List ℕ) → AreIn candidates (numbers_left 0 dropped candidates)
left_in candidates dropped j h = let less = (left_range 0 dropped candidates j h).2 in omega (arith, less)

left_at : (candidates : List Conjunct) (dropped : List ℕ) (i j : ℕ) → slice_get (numbers_left 0 dropped candidates) i ≡ Some j → slice_get (left_behind candidates dropped) i ≡ slice_get candidates j
left_at candidates dropped i j e = ap (λ cs. slice_get cs i) (left_are candidates dropped) ∙ chosen_at candidates (numbers_left 0 dropped candidates) i j (left_in candidates dropped) e

left_length : (candidates : List Conjunct) (dropped : List ℕ) → length (left_behind candidates dropped) ≡ length (numbers_left 0 dropped candidates)
left_length candidates dropped = ap length (left_are candidates dropped) ∙ chosen_length candidates (numbers_left 0 dropped candidates) (left_in candidates dropped)

-- conditions by their places
starts_at : (cs : List Conjunct) (i : ℕ) → slice_get (starts cs) i ≡ option_map start (slice_get cs i)
starts_at [] i = refl
starts_at (c ∷ cs) zero = refl
starts_at (c ∷ cs) (suc i) = starts_at cs i

steps_at : (o : ℕ) (op : OperationForm) (cs : List Conjunct) (i : ℕ) → slice_get (steps o op cs) i ≡ option_map (step o op) (slice_get cs i)
steps_at o op [] i = refl
steps_at o op (c ∷ cs) zero = refl
steps_at o op (c ∷ cs) (suc i) = steps_at o op cs i

answers_at : (q : ℕ) (queries : List QueryForm) (i n : ℕ) → q + i ≡ n → slice_get (answers_of_each q queries) i ≡ option_map (answers n) (slice_get queries i)
answers_at q [] i n e = refl
answers_at q (x ∷ xs) zero n e = let same : q ≡ n = omega (arith, e) in ap (λ m. Some (answers m x)) same
answers_at q (x ∷ xs) (suc i) n e = answers_at (suc q) xs i n (omega (arith, e))

starts_length : (cs : List Conjunct) → length (starts cs) ≡ length cs
starts_length [] = refl
starts_length (c ∷ cs) = ap suc (starts_length cs)

steps_length : (o : ℕ) (op : OperationForm) (cs : List Conjunct) → length (steps o op cs) ≡ length cs
steps_length o op [] = refl
steps_length o op (c ∷ cs) = ap suc (steps_length o op cs)

step_there : (o : Option OperationForm) (op : OperationForm) (n : ℕ) (c : Option Conjunct) → o ≡ Some op → option_and_then (λ p. option_map (step n p) c) o ≡ option_map (step n op) c
step_there o op n c e = ap (λ x. option_and_then (λ p. option_map (step n p) c) x) e

-- of the first of some operations: its own, or those after it
first_step : (o : ℕ) (op : OperationForm) (ops : List OperationForm) (cs : List Conjunct) (others : List Condition) (i : ℕ) → i < length cs
    → slice_get (steps_of_each o (op ∷ ops) cs ++ others) i ≡ option_map (step o op) (slice_get cs i)
first_step o op ops cs others i h =
    ap (λ (xs : List Condition). slice_get xs i) (append_assoc (steps o op cs) (steps_of_each (suc o) ops cs) others)
    ∙ get_before (steps o op cs) (steps_of_each (suc o) ops cs ++ others) i (omega (arith, h, steps_length o op cs)) ∙ steps_at o op cs i

behind_step : (o : ℕ) (op : OperationForm) (ops : List OperationForm) (cs : List Conjunct) (others : List Condition) (i count : ℕ) → length cs ≡ count → count ≤ i
    → slice_get (steps_of_each (suc o) ops cs ++ others) (i - count) ≡ slice_get (steps_of_each o (op ∷ ops) cs ++ others) i
behind_step o op ops cs others i count e h =
    let rest = steps_of_each (suc o) ops cs ++ others in
    let place : i - length (steps o op cs) ≡ i - count = omega (arith, e, steps_length o op cs) in
    sym (ap (λ (xs : List Condition). slice_get xs i) (append_assoc (steps o op cs) (steps_of_each (suc o) ops cs) others)
    ∙ get_behind (steps o op cs) rest i (omega (arith, h, e, steps_length o op cs)) ∙ ap (slice_get rest) place)

step_placed : (ty : TypeForm) (candidates : List Conjunct) (dropped : List ℕ) (n : ℕ) (op : OperationForm) (ops : List OperationForm) (left : ℕ) (found : Option ℕ) (rest : Place1)
    → slice_get ty.ops n ≡ Some op → slice_get (numbers_left 0 dropped candidates) left ≡ found
    → condition_at ty candidates rest ≡ slice_get (steps_of_each (suc n) ops (left_behind candidates dropped) ++ answers_of_each 0 ty.queries) (left - length (numbers_left 0 dropped candidates))
    → condition_at ty candidates (step_or found n rest) ≡ slice_get (steps_of_each n (op ∷ ops) (left_behind candidates dropped) ++ answers_of_each 0 ty.queries) left
step_placed ty candidates dropped n op ops left None rest there e behind =
    behind ∙ behind_step n op ops (left_behind candidates dropped) (answers_of_each 0 ty.queries) left (length (numbers_left 0 dropped candidates)) (left_length candidates dropped) (past_get (numbers_left 0 dropped candidates) left e)
step_placed ty candidates dropped n op ops left (Some j) rest there e behind =
    let less = slice_get_within (numbers_left 0 dropped candidates) left j e in
    step_there (slice_get ty.ops n) op n (slice_get candidates j) there
    ∙ ap (option_map (step n op)) (sym (left_at candidates dropped left j e))
    ∙ sym (first_step n op ops (left_behind candidates dropped) (answers_of_each 0 ty.queries) left (omega (arith, less, left_length candidates dropped)))

later_placed : (ty : TypeForm) (candidates : List Conjunct) (dropped : List ℕ) (front ops : List OperationForm) (n left : ℕ) → ty.ops ≡ front ++ ops → length front ≡ n
    → condition_at ty candidates (place_from n ops (numbers_left 0 dropped candidates) left) ≡ slice_get (steps_of_each n ops (left_behind candidates dropped) ++ answers_of_each 0 ty.queries) left
later_placed ty candidates dropped front [] n left e count = sym (answers_at 0 ty.queries left left (omega arith))
later_placed ty candidates dropped front (op ∷ ops) n left e count =
    step_placed ty candidates dropped n op ops left (slice_get (numbers_left 0 dropped candidates) left) (place_from (suc n) ops (numbers_left 0 dropped candidates) (left - length (numbers_left 0 dropped candidates)))
    (ap (λ os. slice_get os n) e ∙ get_there front op ops n count) refl
    (later_placed ty candidates dropped (front ++ op ∷ []) ops (suc n) (left - length (numbers_left 0 dropped candidates)) (e ∙ sym (append_assoc front (op ∷ []) ops)) (omega (arith, count, length-append front (op ∷ []))))

start_placed : (ty : TypeForm) (candidates : List Conjunct) (dropped : List ℕ) (place : ℕ) (found : Option ℕ) (rest : Place1) → slice_get (numbers_left 0 dropped candidates) place ≡ found
    → condition_at ty candidates rest ≡ slice_get (steps_of_each 0 ty.ops (left_behind candidates dropped) ++ answers_of_each 0 ty.queries) (place - length (numbers_left 0 dropped candidates))
    → condition_at ty candidates (start_or found rest) ≡ slice_get (conditions ty (left_behind candidates dropped)) place
start_placed ty candidates dropped place None rest e behind =
    let left = left_behind candidates dropped in let more = steps_of_each 0 ty.ops left ++ answers_of_each 0 ty.queries in
    let past = past_get (numbers_left 0 dropped candidates) place e in
    let same : place - length (starts left) ≡ place - length (numbers_left 0 dropped candidates) = omega (arith, starts_length left, left_length candidates dropped) in
    behind ∙ sym (ap (λ (xs : List Condition). slice_get xs place) (append_assoc (starts left) (steps_of_each 0 ty.ops left) (answers_of_each 0 ty.queries))
    ∙ get_behind (starts left) more place (omega (arith, past, starts_length left, left_length candidates dropped)) ∙ ap (slice_get more) same)
start_placed ty candidates dropped place (Some j) rest e behind =
    let left = left_behind candidates dropped in let more = steps_of_each 0 ty.ops left ++ answers_of_each 0 ty.queries in
    let less = slice_get_within (numbers_left 0 dropped candidates) place j e in
    ap (option_map start) (sym (left_at candidates dropped place j e))
    ∙ sym (ap (λ (xs : List Condition). slice_get xs place) (append_assoc (starts left) (steps_of_each 0 ty.ops left) (answers_of_each 0 ty.queries))
    ∙ get_before (starts left) more place (omega (arith, less, starts_length left, left_length candidates dropped)) ∙ starts_at left place)

-- the place of a condition has that condition
pub placed : (ty : TypeForm) (candidates : List Conjunct) (dropped : List ℕ) (place : ℕ)
    → condition_at ty candidates (place_at ty.ops (numbers_left 0 dropped candidates) place) ≡ slice_get (conditions ty (left_behind candidates dropped)) place
placed ty candidates dropped place =
    start_placed ty candidates dropped place (slice_get (numbers_left 0 dropped candidates) place) (place_from 0 ty.ops (numbers_left 0 dropped candidates) (place - length (numbers_left 0 dropped candidates))) refl
    (later_placed ty candidates dropped [] ty.ops 0 (place - length (numbers_left 0 dropped candidates)) refl refl)
