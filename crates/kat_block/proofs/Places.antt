-- The numbers of candidates that are left, and the places of conditions.
use Rattle.std.proofs.Common.{◌≡◌, ℕ, zero, suc, ◌+◌, ◌-◌, ◌*◌, ◌<◌, ◌≤◌, ◌⊎◌, Bool, true, false, ◌||◌, if◌then◌else◌, List, [], ◌∷◌, ◌++◌, length, get_or, Some, None, option_map, inl, inr, ⊎_elim, refl, sym, ap, subst, ◌∙◌, arith, suc-mul, zero-mul}
use Rattle.std.specs.Prelude.{slice_get, option_and_then, nat_eq}
use Rattle.std.specs.List.{cons_option}
use Rattle.std.proofs.lemmas.Bool.{false≢true}
use Rattle.std.proofs.lemmas.Bool.Decides.{Decides-eqb}
use Rattle.std.proofs.lemmas.List.{append_assoc, length-append}
use Rattle.kat_relation.specs.declared.relations.Conjunct.{Conjunct}
use Rattle.kat_type.specs.Lists.{Has}
use Rattle.kat_type.specs.Types.{OperationForm, QueryForm, TypeForm}
use Rattle.kat_vc.specs.Conditions.{start, step, answers, answers_of_each, conditions, starts, steps, steps_of_each}
use Rattle.kat_candidate.specs.Places.{has_number, left_behind, left_from}
use Rattle.kat_block.specs.Blocks.{conjunct_conditions}
use Rattle.kat_block.specs.Left.{conjuncts_of, numbers_from, numbers_left, without}

-- elements of lists that are put together
pub get_before : {A : Type 0} (xs ys : List A) (i : ℕ) → i < length xs → slice_get (xs ++ ys) i ≡ slice_get xs i
get_before [] ys i h = absurd (omega (arith, h))
get_before (x ∷ xs) ys zero h = refl
get_before (x ∷ xs) ys (suc i) h = get_before xs ys i (omega (arith, h))

pub get_behind : {A : Type 0} (xs ys : List A) (i : ℕ) → length xs ≤ i → slice_get (xs ++ ys) i ≡ slice_get ys (i - length xs)
get_behind [] ys i h = let same : i ≡ i - 0 = omega arith in ap (slice_get ys) same
get_behind (x ∷ xs) ys zero h = absurd (omega (arith, h))
get_behind (x ∷ xs) ys (suc i) h =
    let same : i - length xs ≡ suc i - suc (length xs) = omega arith in get_behind xs ys i (omega (arith, h)) ∙ ap (slice_get ys) same

pub some_none : {A : Type 0} (x : A) → Some x ≡ None → ⊥
some_none x e = cc e

pub none_some : {A : Type 0} (x : A) → None ≡ Some x → ⊥
none_some x e = cc e

pub some_same : {A : Type 0} (a b : A) → Some a ≡ Some b → a ≡ b
some_same a b e = cc e

pub past_get : {A : Type 0} (xs : List A) (i : ℕ) → slice_get xs i ≡ None → length xs ≤ i
past_get [] i e = omega arith
past_get (x ∷ xs) zero e = absurd (some_none x e)
past_get (x ∷ xs) (suc i) e = let rest = past_get xs i e in omega (arith, rest)

pub some_get : {A : Type 0} (xs : List A) (i : ℕ) → i < length xs → (x : A) × (slice_get xs i ≡ Some x)
some_get [] i h = absurd (omega (arith, h))
some_get (x ∷ xs) zero h = (x, refl)
some_get (x ∷ xs) (suc i) h = some_get xs i (omega (arith, h))

pub got_has : {A : Type 0} (xs : List A) (i : ℕ) (x : A) → slice_get xs i ≡ Some x → Has xs x
got_has [] i x e = absurd (none_some x e)
got_has (y ∷ ys) zero x e = inl (some_same y x e)
got_has (y ∷ ys) (suc i) x e = inr (got_has ys i x e)

-- the one after a prefix
pub get_there : {A : Type 0} (front : List A) (x : A) (xs : List A) (n : ℕ) → length front ≡ n → slice_get (front ++ x ∷ xs) n ≡ Some x
get_there front x xs n e =
    let same : n - length front ≡ 0 = omega (arith, e) in
    get_behind front (x ∷ xs) n (omega (arith, e)) ∙ ap (slice_get (x ∷ xs)) same

-- what is left are the candidates with the numbers that are left
picked_left : (b : Bool) (candidates : List Conjunct) (n : ℕ) (c : Conjunct) (left : List Conjunct) (numbers : List ℕ) → slice_get candidates n ≡ Some c → left ≡ conjuncts_of candidates numbers
    → (if b then left else c ∷ left) ≡ conjuncts_of candidates (if b then numbers else n ∷ numbers)
picked_left true candidates n c left numbers e same = same
picked_left false candidates n c left numbers e same = ap (λ xs. c ∷ xs) same ∙ ap (λ o. cons_option o [] ++ conjuncts_of candidates numbers) (sym e)

left_conjuncts : (front cs : List Conjunct) (n : ℕ) (dropped : List ℕ) → length front ≡ n → left_from n dropped cs ≡ conjuncts_of (front ++ cs) (numbers_left n dropped cs)
left_conjuncts front [] n dropped e = refl
left_conjuncts front (c ∷ cs) n dropped e =
    let whole : (front ++ c ∷ []) ++ cs ≡ front ++ c ∷ cs = append_assoc front (c ∷ []) cs in
    picked_left (has_number n dropped) (front ++ c ∷ cs) n c (left_from (suc n) dropped cs) (numbers_left (suc n) dropped cs) (get_there front c cs n e)
    (subst (λ all. left_from (suc n) dropped cs ≡ conjuncts_of all (numbers_left (suc n) dropped cs)) whole (left_conjuncts (front ++ c ∷ []) cs (suc n) dropped (omega (arith, e, length-append front (c ∷ [])))))

pub left_are : (candidates : List Conjunct) (dropped : List ℕ) → left_behind candidates dropped ≡ conjuncts_of candidates (numbers_left 0 dropped candidates)
left_are candidates dropped = left_conjuncts [] candidates 0 dropped refl

-- the numbers that are left are of candidates that aren't dropped
picked_number : (b : Bool) (n : ℕ) (numbers : List ℕ) (j : ℕ) → Has (if b then numbers else n ∷ numbers) j → ((b ≡ false) × (n ≡ j)) ⊎ Has numbers j
picked_number true n numbers j h = inr h
picked_number false n numbers j (inl e) = inl (refl, e)
picked_number false n numbers j (inr h) = inr h

pub left_range : (n : ℕ) (dropped : List ℕ) (cs : List Conjunct) (j : ℕ) → Has (numbers_left n dropped cs) j → (has_number j dropped ≡ false) × (n ≤ j) × (j < n + length cs)
left_range n dropped [] j h = absurd h
left_range n dropped (c ∷ cs) j h = ⊎_elim
    (λ e. (subst (λ m. has_number m dropped ≡ false) e.1 e.0, let at = e.1 in omega (arith, at), let at = e.1 in omega (arith, at)))
    (λ k. let rest = left_range (suc n) dropped cs j k in let least = rest.1 in let less = rest.2 in (rest.0, omega (arith, least), omega (arith, less)))
    (picked_number (has_number n dropped) n (numbers_left (suc n) dropped cs) j h)

-- so is the one at each place
abbrev AreIn : List Conjunct → List ℕ → Type 0
AreIn candidates numbers = (j : ℕ) → Has numbers j → j < length candidates

conjunct_got : (candidates : List Conjunct) (n : ℕ) (ns : List ℕ) (c : Conjunct) (i : ℕ) → slice_get candidates n ≡ Some c → slice_get (conjuncts_of candidates (n ∷ ns)) i ≡ slice_get (c ∷ conjuncts_of candidates ns) i
conjunct_got candidates n ns c i e = ap (λ o. slice_get (cons_option o [] ++ conjuncts_of candidates ns) i) e

chosen_at : (candidates : List Conjunct) (numbers : List ℕ) (i j : ℕ) → AreIn candidates numbers → slice_get numbers i ≡ Some j → slice_get (conjuncts_of candidates numbers) i ≡ slice_get candidates j
chosen_at candidates [] i j range e = absurd (none_some j e)
chosen_at candidates (n ∷ ns) zero j range e =
    let c = some_get candidates n (range n (inl refl)) in
    let same = some_same n j e in
    conjunct_got candidates n ns c.0 zero c.1 ∙ sym c.1 ∙ ap (slice_get candidates) same
chosen_at candidates (n ∷ ns) (suc i) j range e =
    let c = some_get candidates n (range n (inl refl)) in
    conjunct_got candidates n ns c.0 (suc i) c.1 ∙ chosen_at candidates ns i j (λ k h. range k (inr h)) e

chosen_length : (candidates : List Conjunct) (numbers : List ℕ) → AreIn candidates numbers → length (conjuncts_of candidates numbers) ≡ length numbers
chosen_length candidates [] range = refl
chosen_length candidates (n ∷ ns) range =
    let c = some_get candidates n (range n (inl refl)) in
    ap (λ o. length (cons_option o [] ++ conjuncts_of candidates ns)) c.1 ∙ ap suc (chosen_length candidates ns (λ k h. range k (inr h)))

left_in : (candidates : List Conjunct) (dropped : List ℕ) → AreIn candidates (numbers_left 0 dropped candidates)
left_in candidates dropped j h = let less = (left_range 0 dropped candidates j h).2 in omega (arith, less)

pub left_at : (candidates : List Conjunct) (dropped : List ℕ) (i j : ℕ) → slice_get (numbers_left 0 dropped candidates) i ≡ Some j → slice_get (left_behind candidates dropped) i ≡ slice_get candidates j
left_at candidates dropped i j e = ap (λ cs. slice_get cs i) (left_are candidates dropped) ∙ chosen_at candidates (numbers_left 0 dropped candidates) i j (left_in candidates dropped) e

pub left_length : (candidates : List Conjunct) (dropped : List ℕ) → length (left_behind candidates dropped) ≡ length (numbers_left 0 dropped candidates)
left_length candidates dropped = ap length (left_are candidates dropped) ∙ chosen_length candidates (numbers_left 0 dropped candidates) (left_in candidates dropped)

-- conditions by their places
starts_at : (cs : List Conjunct) (i : ℕ) → slice_get (starts cs) i ≡ option_map start (slice_get cs i)
starts_at [] i = refl
starts_at (c ∷ cs) zero = refl
starts_at (c ∷ cs) (suc i) = starts_at cs i

steps_at : (o : ℕ) (op : OperationForm) (cs : List Conjunct) (i : ℕ) → slice_get (steps o op cs) i ≡ option_map (step o op) (slice_get cs i)
steps_at o op [] i = refl
steps_at o op (c ∷ cs) zero = refl
steps_at o op (c ∷ cs) (suc i) = steps_at o op cs i

answers_at : (q : ℕ) (queries : List QueryForm) (i n : ℕ) → q + i ≡ n → slice_get (answers_of_each q queries) i ≡ option_map (answers n) (slice_get queries i)
answers_at q [] i n e = refl
answers_at q (x ∷ xs) zero n e = let same : q ≡ n = omega (arith, e) in ap (λ m. Some (answers m x)) same
answers_at q (x ∷ xs) (suc i) n e = answers_at (suc q) xs i n (omega (arith, e))

starts_length : (cs : List Conjunct) → length (starts cs) ≡ length cs
starts_length [] = refl
starts_length (c ∷ cs) = ap suc (starts_length cs)

steps_length : (o : ℕ) (op : OperationForm) (cs : List Conjunct) → length (steps o op cs) ≡ length cs
steps_length o op [] = refl
steps_length o op (c ∷ cs) = ap suc (steps_length o op cs)

-- all candidates are left at first
pub none_dropped : (n : ℕ) (cs : List Conjunct) → numbers_from n (length cs) ≡ numbers_left n [] cs
none_dropped n [] = refl
none_dropped n (c ∷ cs) = ap (λ xs. n ∷ xs) (none_dropped (suc n) cs)

-- one more is dropped
any_last : (n j : ℕ) (ds : List ℕ) → has_number n (ds ++ j ∷ []) ≡ (has_number n ds || nat_eq j n)
any_last n j [] = or_false (nat_eq j n)
  where
    or_false : (b : Bool) → (b || false) ≡ b
    or_false true = refl
    or_false false = refl
any_last n j (d ∷ ds) = first (nat_eq d n) (has_number n (ds ++ j ∷ [])) (has_number n ds) (nat_eq j n) (any_last n j ds)
  where
    first : (b r s t : Bool) → r ≡ (s || t) → (b || r) ≡ ((b || s) || t)
    first true r s t e = refl
    first false r s t e = e

picked_without : (b e : Bool) (n j : ℕ) (ns ms : List ℕ) → nat_eq j n ≡ e → without j ns ≡ ms → without j (if b then ns else n ∷ ns) ≡ (if b || e then ms else n ∷ ms)
picked_without true e n j ns ms same rest = rest
picked_without false true n j ns ms same rest = ap (λ b. if b then without j ns else n ∷ without j ns) same ∙ rest
picked_without false false n j ns ms same rest = ap (λ b. if b then without j ns else n ∷ without j ns) same ∙ ap (λ xs. n ∷ xs) rest

pub without_dropped : (n j : ℕ) (ds : List ℕ) (cs : List Conjunct) → without j (numbers_left n ds cs) ≡ numbers_left n (ds ++ j ∷ []) cs
without_dropped n j ds [] = refl
without_dropped n j ds (c ∷ cs) =
    picked_without (has_number n ds) (nat_eq j n) n j (numbers_left (suc n) ds cs) (numbers_left (suc n) (ds ++ j ∷ []) cs) refl (without_dropped (suc n) j ds cs)
    ∙ ap (λ b. if b then numbers_left (suc n) (ds ++ j ∷ []) cs else n ∷ numbers_left (suc n) (ds ++ j ∷ []) cs) (sym (any_last n j ds))

-- a number of a candidate that isn't dropped is left
or_none : (a b : Bool) → (a || b) ≡ false → a ≡ false
or_none true b e = e
or_none false b e = refl

above : (n j : ℕ) → n ≤ j → (n ≡ j → ⊥) → suc n ≤ j
above n j least apart = grind arith

number_step : (n j : ℕ) (dropped : List ℕ) (t b : Bool) (ns : List ℕ) → nat_eq n j ≡ t → has_number n dropped ≡ b → has_number j dropped ≡ false → ((n ≡ j → ⊥) → Has ns j) → Has (if b then ns else n ∷ ns) j
number_step n j dropped true true ns e f fresh later = absurd (false≢true (sym fresh ∙ ap (λ k. has_number k dropped) (sym ((Decides-eqb n j).0 e)) ∙ f))
number_step n j dropped true false ns e f fresh later = inl ((Decides-eqb n j).0 e)
number_step n j dropped false true ns e f fresh later = later (λ same. false≢true (sym e ∙ (Decides-eqb n j).1 same))
number_step n j dropped false false ns e f fresh later = inr (later (λ same. false≢true (sym e ∙ (Decides-eqb n j).1 same)))

pub number_left : (n : ℕ) (dropped : List ℕ) (cs : List Conjunct) (j : ℕ) → has_number j dropped ≡ false → n ≤ j → j < n + length cs → Has (numbers_left n dropped cs) j
number_left n dropped [] j fresh least less = absurd (omega (arith, least, less))
number_left n dropped (c ∷ cs) j fresh least less =
    number_step n j dropped (nat_eq n j) (has_number n dropped) (numbers_left (suc n) dropped cs) refl refl fresh
    (λ apart. number_left (suc n) dropped cs j fresh (above n j least apart) (omega (arith, less)))

pub numbers_few : (n : ℕ) (dropped : List ℕ) (cs : List Conjunct) → length (numbers_left n dropped cs) ≤ length cs
numbers_few n dropped [] = omega arith
numbers_few n dropped (c ∷ cs) = picked (has_number n dropped) (numbers_few (suc n) dropped cs)
  where
    picked : (b : Bool) → length (numbers_left (suc n) dropped cs) ≤ length cs → length (if b then numbers_left (suc n) dropped cs else n ∷ numbers_left (suc n) dropped cs) ≤ suc (length cs)
    picked true few = omega (arith, few)
    picked false few = omega (arith, few)

pub none_has : (xs : List ℕ) (x : ℕ) → ((k : ℕ) → k < length xs → get_or xs k 0 ≡ x → ⊥) → Has xs x → ⊥
none_has [] x none h = h
none_has (y ∷ ys) x none (inl e) = none 0 (omega arith) e
none_has (y ∷ ys) x none (inr h) = none_has ys x (λ k less. none (suc k) (omega (arith, less))) h

-- the step of an operation by its number
steps_each_at : (n : ℕ) (ops : List OperationForm) (cs : List Conjunct) (o i : ℕ) → i < length cs
    → slice_get (steps_of_each n ops cs) (o * length cs + i) ≡ option_and_then (λ op. option_map (step (n + o) op) (slice_get cs i)) (slice_get ops o)
steps_each_at n [] cs o i h = refl
steps_each_at n (op ∷ ops) cs zero i h =
    let at : zero * length cs + i ≡ i = ap (λ k. k + i) (zero-mul (length cs)) ∙ omega arith in
    let same : n ≡ n + zero = omega arith in
    ap (slice_get (steps n op cs ++ steps_of_each (suc n) ops cs)) at
    ∙ get_before (steps n op cs) (steps_of_each (suc n) ops cs) i (omega (arith, h, steps_length n op cs))
    ∙ steps_at n op cs i ∙ ap (λ m. option_map (step m op) (slice_get cs i)) same
steps_each_at n (op ∷ ops) cs (suc o) i h =
    let rest = steps_of_each (suc n) ops cs in
    let times : suc o * length cs ≡ o * length cs + length cs = suc-mul o (length cs) in
    let own : length (steps n op cs) ≡ length cs = steps_length n op cs in
    let behind : length (steps n op cs) ≤ suc o * length cs + i = omega (arith, times, own) in
    let place : (suc o * length cs + i) - length (steps n op cs) ≡ o * length cs + i = omega (arith, times, own) in
    let same : suc n + o ≡ n + suc o = omega arith in
    get_behind (steps n op cs) rest (suc o * length cs + i) behind ∙ ap (slice_get rest) place
    ∙ steps_each_at (suc n) ops cs o i h ∙ ap (λ m. option_and_then (λ p. option_map (step m p) (slice_get cs i)) (slice_get ops o)) same

pub steps_each_length : (n : ℕ) (ops : List OperationForm) (cs : List Conjunct) → length (steps_of_each n ops cs) ≡ length ops * length cs
steps_each_length n [] cs = sym (zero-mul (length cs))
steps_each_length n (op ∷ ops) cs =
    let rest : length (steps_of_each (suc n) ops cs) ≡ length ops * length cs = steps_each_length (suc n) ops cs in
    let times : suc (length ops) * length cs ≡ length ops * length cs + length cs = suc-mul (length ops) (length cs) in
    length-append (steps n op cs) (steps_of_each (suc n) ops cs) ∙ omega (arith, rest, times, steps_length n op cs)

steps_place_less : (ops cs o i : ℕ) → o < ops → i < cs → o * cs + i < ops * cs
steps_place_less (suc ops) cs zero i h g =
    let left : zero * cs ≡ 0 = zero-mul cs in
    let right : suc ops * cs ≡ ops * cs + cs = suc-mul ops cs in omega (arith, left, right, g)
steps_place_less (suc ops) cs (suc o) i h g =
    let left : suc o * cs ≡ o * cs + cs = suc-mul o cs in
    let right : suc ops * cs ≡ ops * cs + cs = suc-mul ops cs in
    let less = steps_place_less ops cs o i (omega (arith, h)) g in omega (arith, left, right, less)
steps_place_less zero cs o i h g = absurd (omega (arith, h))

-- conditions by their numbers
pub start_there : (ty : TypeForm) (cs : List Conjunct) (i : ℕ) → i < length cs → slice_get (conditions ty cs) i ≡ option_map start (slice_get cs i)
start_there ty cs i h =
    ap (λ xs. slice_get xs i) (append_assoc (starts cs) (steps_of_each 0 ty.ops cs) (answers_of_each 0 ty.queries))
    ∙ get_before (starts cs) (steps_of_each 0 ty.ops cs ++ answers_of_each 0 ty.queries) i (omega (arith, h, starts_length cs)) ∙ starts_at cs i

pub step_there : (ty : TypeForm) (cs : List Conjunct) (o i : ℕ) → i < length cs → o < length ty.ops
    → slice_get (conditions ty cs) (length cs + (o * length cs + i)) ≡ option_and_then (λ op. option_map (step o op) (slice_get cs i)) (slice_get ty.ops o)
step_there ty cs o i h g =
    let all = steps_of_each 0 ty.ops cs ++ answers_of_each 0 ty.queries in
    let own = starts_length cs in
    let place : (length cs + (o * length cs + i)) - length (starts cs) ≡ o * length cs + i = omega (arith, own) in
    let less : o * length cs + i < length ty.ops * length cs = steps_place_less (length ty.ops) (length cs) o i g h in
    ap (λ xs. slice_get xs (length cs + (o * length cs + i))) (append_assoc (starts cs) (steps_of_each 0 ty.ops cs) (answers_of_each 0 ty.queries))
    ∙ get_behind (starts cs) all (length cs + (o * length cs + i)) (omega (arith, own)) ∙ ap (slice_get all) place
    ∙ get_before (steps_of_each 0 ty.ops cs) (answers_of_each 0 ty.queries) (o * length cs + i) (omega (arith, less, steps_each_length 0 ty.ops cs))
    ∙ steps_each_at 0 ty.ops cs o i h
    ∙ (let same : 0 + o ≡ o = omega arith in ap (λ m. option_and_then (λ p. option_map (step m p) (slice_get cs i)) (slice_get ty.ops o)) same)

pub query_there : (ty : TypeForm) (cs : List Conjunct) (q : ℕ)
    → slice_get (conditions ty cs) (length cs + (length ty.ops * length cs + q)) ≡ option_map (answers q) (slice_get ty.queries q)
query_there ty cs q =
    let all = steps_of_each 0 ty.ops cs ++ answers_of_each 0 ty.queries in
    let own = starts_length cs in
    let steps_own = steps_each_length 0 ty.ops cs in
    let place : (length cs + (length ty.ops * length cs + q)) - length (starts cs) ≡ length ty.ops * length cs + q = omega (arith, own) in
    let last : (length ty.ops * length cs + q) - length (steps_of_each 0 ty.ops cs) ≡ q = omega (arith, steps_own) in
    ap (λ xs. slice_get xs (length cs + (length ty.ops * length cs + q))) (append_assoc (starts cs) (steps_of_each 0 ty.ops cs) (answers_of_each 0 ty.queries))
    ∙ get_behind (starts cs) all (length cs + (length ty.ops * length cs + q)) (omega (arith, own)) ∙ ap (slice_get all) place
    ∙ get_behind (steps_of_each 0 ty.ops cs) (answers_of_each 0 ty.queries) (length ty.ops * length cs + q) (omega (arith, steps_own)) ∙ ap (slice_get (answers_of_each 0 ty.queries)) last
    ∙ answers_at 0 ty.queries q q (omega arith)

-- a condition of a candidate by its number
pub conjunct_length : (ty : TypeForm) (cs : List Conjunct) → length (conjunct_conditions ty cs) ≡ length cs + length ty.ops * length cs
conjunct_length ty cs =
    let own = starts_length cs in let more = steps_each_length 0 ty.ops cs in
    length-append (starts cs) (steps_of_each 0 ty.ops cs) ∙ omega (arith, own, more)

pub conjunct_there : (ty : TypeForm) (cs : List Conjunct) (i : ℕ) → i < length (conjunct_conditions ty cs) → slice_get (conditions ty cs) i ≡ slice_get (conjunct_conditions ty cs) i
conjunct_there ty cs i h = get_before (conjunct_conditions ty cs) (answers_of_each 0 ty.queries) i h

pub has_got : {A : Type 0} (xs : List A) (x : A) → Has xs x → (i : ℕ) × (i < length xs) × (slice_get xs i ≡ Some x)
has_got [] x h = absurd h
has_got (y ∷ ys) x (inl e) = (0, omega arith, ap Some e)
has_got (y ∷ ys) x (inr h) = let rest = has_got ys x h in let less = rest.1 in (suc rest.0, omega (arith, less), rest.2)

pub got_less : {A : Type 0} (xs : List A) (i : ℕ) (x : A) → slice_get xs i ≡ Some x → i < length xs
got_less [] i x e = absurd (none_some x e)
got_less (y ∷ ys) zero x e = omega arith
got_less (y ∷ ys) (suc i) x e = let rest = got_less ys i x e in omega (arith, rest)

number_here : (i count : ℕ) → i < count → i ∷ numbers_from (i + 1) (count - (i + 1)) ≡ numbers_from i (count - i)
number_here i count h =
    let more : suc (count - (i + 1)) ≡ count - i = omega (arith, h) in
    let next : i + 1 ≡ suc i = omega arith in
    ap (λ m. i ∷ numbers_from m (count - (i + 1))) next ∙ ap (numbers_from i) more

pub number_pushed : (items new : List ℕ) (i count n : ℕ) → i < count → items ++ numbers_from i (count - i) ≡ numbers_from 0 count → n ≡ i → new ≡ items ++ n ∷ []
    → new ++ numbers_from (i + 1) (count - (i + 1)) ≡ numbers_from 0 count
number_pushed items new i count n less h same is =
    let rest = numbers_from (i + 1) (count - (i + 1)) in
    ap (λ xs. xs ++ rest) is ∙ append_assoc items (n ∷ []) rest ∙ ap (λ z. items ++ z ∷ rest) same ∙ ap (λ xs. items ++ xs) (number_here i count less) ∙ h
