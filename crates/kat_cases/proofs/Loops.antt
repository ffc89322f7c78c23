-- One turn of a loop over variables, multipliers or literals.
use Rattle.std.proofs.Common.{◌≡◌, ℕ, suc, ◌+◌, ◌<◌, ◌≤◌, ◌^◌, ℤ, pos, neg_ℤ, unsigned_abs, int_lt, int_le, nat_lt, List, [], ◌∷◌, ◌++◌, length, map, take, drop, get_or, All, Bool, true, false, ◌||◌, if◌then◌else◌, cond, Some, drop-cons, append_assoc, refl, sym, ap, ◌∙◌, subst, arith, Result, Ok, Err}
use Rattle.std.specs.Prelude.{OnOk}
use Rattle.std.specs.List.{prefix_len}
use Rattle.std.proofs.lemmas.List.{get_or-map, length-map}
use Rattle.std.proofs.lemmas.Int.{ints}
use Rattle.std.proofs.lemmas.Bool.{false≢true}
use Rattle.std.proofs.lemmas.List.Elements.{All-append, Contains-get_or}
use Rattle.kat_linear.specs.Rows.{Form}
use Rattle.kat_form.specs.declared.Meaning.{Meaning}
use Rattle.kat_form.specs.Encodings.{Sense, form_in, senses_of, sense_of}
use Rattle.kat_form.specs.Encodings.Sense.{gate}
use Rattle.kat_clause.specs.Clauses.{opposites}
use Rattle.kat_cases.specs.Nodes.{Held, held_of, held_from, lowest_open, rows, truths_from, is_truth_sense, used_literals, used_multipliers}
use Rattle.kat_cases.specs.Walks.{put, ascending}
use Rattle.kat_cases.specs.Stacks.{AreSmall}

-- what is done and what is left are the whole, one piece later
pub turn : {B : Type 0} (done new piece rest next whole : List B) → new ≡ done ++ piece → rest ≡ piece ++ next → done ++ rest ≡ whole → new ++ next ≡ whole
turn done new piece rest next whole e f g = ap (λ x. x ++ next) e ∙ append_assoc done piece next ∙ ap (λ x. done ++ x) (sym f) ∙ g

-- the sense of an element
pub sense_here : (meanings : List Meaning) (i : ℕ) (meaning : Meaning) → i < length meanings → meaning ≡ get_or meanings i meaning → (i < length (senses_of meanings)) × (get_or (senses_of meanings) i gate ≡ sense_of meaning)
sense_here meanings i meaning h is = (omega (arith, h, length-map meanings sense_of), get_or-map sense_of meanings i meaning gate h ∙ ap sense_of (sym is))

if_true : {A : Type 0} (b : Bool) (x y : A) → b ≡ true → (if b then x else y) ≡ x
if_true b x y e = rw e refl

if_false : {A : Type 0} (b : Bool) (x y : A) → b ≡ false → (if b then x else y) ≡ y
if_false b x y e = rw e refl

-- the lowest variable without a known literal
lowest_at : (has : ℤ → Bool) (ss : List Sense) (i : ℕ) → i < length ss → lowest_open has (i + 1) (drop i ss) ≡ (if has (pos (i + 1)) || has (neg_ℤ (pos (i + 1))) then lowest_open has (i + 1 + 1) (drop (i + 1) ss) else Some (pos (i + 1)))
lowest_at has ss i h =
    let split : drop i ss ≡ get_or ss i gate ∷ drop (suc i) ss = drop-cons ss i gate h in
    let on : suc i ≡ i + 1 = omega arith in
    let next : suc (i + 1) ≡ i + 1 + 1 = omega arith in
    let known = has (pos (i + 1)) || has (neg_ℤ (pos (i + 1))) in
    ap (lowest_open has (i + 1)) split
    ∙ ap (λ v. if known then lowest_open has v (drop (suc i) ss) else Some (pos (i + 1))) next
    ∙ ap (λ k. if known then lowest_open has (i + 1 + 1) (drop k ss) else Some (pos (i + 1))) on

pub lowest_turn : (has : ℤ → Bool) (ss : List Sense) (i : ℕ) (b : Bool) → i < length ss → b ≡ (has (pos (i + 1)) || has (neg_ℤ (pos (i + 1)))) → b ≡ true → lowest_open has (i + 1) (drop i ss) ≡ lowest_open has 1 ss → lowest_open has (i + 1 + 1) (drop (i + 1) ss) ≡ lowest_open has 1 ss
lowest_turn has ss i b h is e before = sym (lowest_at has ss i h ∙ if_true (has (pos (i + 1)) || has (neg_ℤ (pos (i + 1)))) (lowest_open has (i + 1 + 1) (drop (i + 1) ss)) (Some (pos (i + 1))) (sym is ∙ e)) ∙ before

pub lowest_found : (has : ℤ → Bool) (ss : List Sense) (i : ℕ) (b : Bool) (v : ℤ) → i < length ss → b ≡ (has (pos (i + 1)) || has (neg_ℤ (pos (i + 1)))) → b ≡ false → v ≡ pos (i + 1) → lowest_open has (i + 1) (drop i ss) ≡ lowest_open has 1 ss → Some v ≡ lowest_open has 1 ss
lowest_found has ss i b v h is e at before = ap (λ x. Some x) at ∙ sym (lowest_at has ss i h ∙ if_false (has (pos (i + 1)) || has (neg_ℤ (pos (i + 1)))) (lowest_open has (i + 1 + 1) (drop (i + 1) ss)) (Some (pos (i + 1))) (sym is ∙ e)) ∙ before

-- one value or none before the rest
if_front : {B : Type 0} (b : Bool) (x : B) (rest : List B) → (if b then x ∷ rest else rest) ≡ (if b then x ∷ [] else []) ++ rest
if_front true x rest = refl
if_front false x rest = refl

truths_at : (has : ℤ → Bool) (ss : List Sense) (i : ℕ) → i < length ss → truths_from has (i + 1) (drop i ss) ≡ (if is_truth_sense (get_or ss i gate) then has (pos (i + 1)) ∷ [] else []) ++ truths_from has (i + 1 + 1) (drop (i + 1) ss)
truths_at has ss i h =
    let split : drop i ss ≡ get_or ss i gate ∷ drop (suc i) ss = drop-cons ss i gate h in
    let on : suc i ≡ i + 1 = omega arith in
    let next : suc (i + 1) ≡ i + 1 + 1 = omega arith in
    let front = if is_truth_sense (get_or ss i gate) then has (pos (i + 1)) ∷ [] else [] in
    ap (truths_from has (i + 1)) split
    ∙ if_front (is_truth_sense (get_or ss i gate)) (has (pos (i + 1))) (truths_from has (suc (i + 1)) (drop (suc i) ss))
    ∙ ap (λ v. front ++ truths_from has v (drop (suc i) ss)) next
    ∙ ap (λ k. front ++ truths_from has (i + 1 + 1) (drop k ss)) on

pub truths_skip : (has : ℤ → Bool) (ss : List Sense) (i : ℕ) (b : Bool) (done whole : List Bool) → i < length ss → b ≡ is_truth_sense (get_or ss i gate) → b ≡ false → done ++ truths_from has (i + 1) (drop i ss) ≡ whole → done ++ truths_from has (i + 1 + 1) (drop (i + 1) ss) ≡ whole
truths_skip has ss i b done whole h is e before =
    ap (λ x. done ++ x) (sym (truths_at has ss i h ∙ ap (λ f. f ++ truths_from has (i + 1 + 1) (drop (i + 1) ss)) (if_false (is_truth_sense (get_or ss i gate)) (has (pos (i + 1)) ∷ []) [] (sym is ∙ e)))) ∙ before

pub truths_push : (has : ℤ → Bool) (ss : List Sense) (i : ℕ) (b x : Bool) (done new whole : List Bool) → i < length ss → b ≡ is_truth_sense (get_or ss i gate) → b ≡ true → x ≡ has (pos (i + 1)) → new ≡ done ++ x ∷ [] → done ++ truths_from has (i + 1) (drop i ss) ≡ whole → new ++ truths_from has (i + 1 + 1) (drop (i + 1) ss) ≡ whole
truths_push has ss i b x done new whole h is e value push before =
    turn done new (has (pos (i + 1)) ∷ []) (truths_from has (i + 1) (drop i ss)) (truths_from has (i + 1 + 1) (drop (i + 1) ss)) whole
    (push ∙ ap (λ y. done ++ y ∷ []) value)
    (truths_at has ss i h ∙ ap (λ f. f ++ truths_from has (i + 1 + 1) (drop (i + 1) ss)) (if_true (is_truth_sense (get_or ss i gate)) (has (pos (i + 1)) ∷ []) [] (sym is ∙ e)))
    before

-- held literals and their rows
map-append : {A B : Type 0} (f : A → B) (xs ys : List A) → map f (xs ++ ys) ≡ map f xs ++ map f ys
map-append f [] ys = refl
map-append f (x ∷ xs) ys = ap (λ zs. f x ∷ zs) (map-append f xs ys)

held_at : (has : ℤ → Bool) (ss : List Sense) (i : ℕ) → i < length ss → held_from has (i + 1) (drop i ss) ≡ held_of has (i + 1) (form_in (get_or ss i gate)) ++ held_from has (i + 1 + 1) (drop (i + 1) ss)
held_at has ss i h =
    let split : drop i ss ≡ get_or ss i gate ∷ drop (suc i) ss = drop-cons ss i gate h in
    let on : suc i ≡ i + 1 = omega arith in
    let next : suc (i + 1) ≡ i + 1 + 1 = omega arith in
    let front = held_of has (i + 1) (form_in (get_or ss i gate)) in
    ap (held_from has (i + 1)) split
    ∙ ap (λ v. front ++ held_from has v (drop (suc i) ss)) next
    ∙ ap (λ k. front ++ held_from has (i + 1 + 1) (drop k ss)) on

pub held_turn : {B : Type 0} (f : Held → B) (has : ℤ → Bool) (ss : List Sense) (i : ℕ) (s : Sense) (done new whole : List B) → i < length ss → get_or ss i gate ≡ s → new ≡ done ++ map f (held_of has (i + 1) (form_in s)) → done ++ map f (held_from has (i + 1) (drop i ss)) ≡ whole → new ++ map f (held_from has (i + 1 + 1) (drop (i + 1) ss)) ≡ whole
held_turn f has ss i s done new whole h is push before =
    turn done new (map f (held_of has (i + 1) (form_in s))) (map f (held_from has (i + 1) (drop i ss))) (map f (held_from has (i + 1 + 1) (drop (i + 1) ss))) whole push
    (ap (map f) (held_at has ss i h ∙ ap (λ t. held_of has (i + 1) (form_in t) ++ held_from has (i + 1 + 1) (drop (i + 1) ss)) is) ∙ map-append f (held_of has (i + 1) (form_in s)) (held_from has (i + 1 + 1) (drop (i + 1) ss)))
    before

-- the rows of one variable have a property, and those of all, if those that follow have it
pub met_turn : (P : Form → Type 0) (has : ℤ → Bool) (ss : List Sense) (i : ℕ) (s : Sense) (whole : Type 0) → i < length ss → get_or ss i gate ≡ s → All P (rows (held_of has (i + 1) (form_in s)))
    → (All P (rows (held_from has (i + 1) (drop i ss))) → whole) → All P (rows (held_from has (i + 1 + 1) (drop (i + 1) ss))) → whole
met_turn P has ss i s whole h is here before rest =
    let f : Held → Form = λ x. x.row in
    let parts : rows (held_from has (i + 1) (drop i ss)) ≡ rows (held_of has (i + 1) (form_in s)) ++ rows (held_from has (i + 1 + 1) (drop (i + 1) ss)) =
    ap (map f) (held_at has ss i h ∙ ap (λ t. held_of has (i + 1) (form_in t) ++ held_from has (i + 1 + 1) (drop (i + 1) ss)) is) ∙ map-append f (held_of has (i + 1) (form_in s)) (held_from has (i + 1 + 1) (drop (i + 1) ss)) in
    let Q : List Form → Type 0 = All P in
    before (subst Q (sym parts) (All-append P (rows (held_of has (i + 1) (form_in s))) (rows (held_from has (i + 1 + 1) (drop (i + 1) ss))) here rest))

-- literals whose multipliers are above 0
used_at : (ks ms : List ℤ) (i : ℕ) → i < length ks → i < length ms → used_literals (drop i ks) (drop i ms) ≡ (if int_lt (pos 0) (get_or ms i (pos 0)) then neg_ℤ (get_or ks i (pos 0)) ∷ [] else []) ++ used_literals (drop (i + 1) ks) (drop (i + 1) ms)
used_at ks ms i h g =
    let a : drop i ks ≡ get_or ks i (pos 0) ∷ drop (suc i) ks = drop-cons ks i (pos 0) h in
    let b : drop i ms ≡ get_or ms i (pos 0) ∷ drop (suc i) ms = drop-cons ms i (pos 0) g in
    let on : suc i ≡ i + 1 = omega arith in
    let test = int_lt (pos 0) (get_or ms i (pos 0)) in
    ap (λ xs. used_literals xs (drop i ms)) a ∙ ap (used_literals (get_or ks i (pos 0) ∷ drop (suc i) ks)) b
    ∙ if_front test (neg_ℤ (get_or ks i (pos 0))) (used_literals (drop (suc i) ks) (drop (suc i) ms))
    ∙ ap (λ k. (if test then neg_ℤ (get_or ks i (pos 0)) ∷ [] else []) ++ used_literals (drop k ks) (drop k ms)) on

multipliers_at : (ms : List ℤ) (i : ℕ) → i < length ms → used_multipliers (drop i ms) ≡ (if int_lt (pos 0) (get_or ms i (pos 0)) then get_or ms i (pos 0) ∷ [] else []) ++ used_multipliers (drop (i + 1) ms)
multipliers_at ms i g =
    let b : drop i ms ≡ get_or ms i (pos 0) ∷ drop (suc i) ms = drop-cons ms i (pos 0) g in
    let on : suc i ≡ i + 1 = omega arith in
    let test = int_lt (pos 0) (get_or ms i (pos 0)) in
    ap used_multipliers b ∙ if_front test (get_or ms i (pos 0)) (used_multipliers (drop (suc i) ms))
    ∙ ap (λ k. (if test then get_or ms i (pos 0) ∷ [] else []) ++ used_multipliers (drop k ms)) on

not_above : (m : ℤ) → int_le m (pos 0) ≡ true → int_lt (pos 0) m ≡ false
not_above m h = grind (arith, ints)

above : (m : ℤ) → int_le m (pos 0) ≡ false → int_lt (pos 0) m ≡ true
above m h = grind (arith, ints)

pub used_skip : (ks ms done whole : List ℤ) (i : ℕ) → i < length ks → i < length ms → int_le (get_or ms i (pos 0)) (pos 0) ≡ true → done ++ used_literals (drop i ks) (drop i ms) ≡ whole → done ++ used_literals (drop (i + 1) ks) (drop (i + 1) ms) ≡ whole
used_skip ks ms done whole i h g e before =
    ap (λ x. done ++ x) (sym (used_at ks ms i h g ∙ ap (λ f. f ++ used_literals (drop (i + 1) ks) (drop (i + 1) ms)) (if_false (int_lt (pos 0) (get_or ms i (pos 0))) (neg_ℤ (get_or ks i (pos 0)) ∷ []) [] (not_above (get_or ms i (pos 0)) e)))) ∙ before

pub multipliers_skip : (ms done whole : List ℤ) (i : ℕ) → i < length ms → int_le (get_or ms i (pos 0)) (pos 0) ≡ true → done ++ used_multipliers (drop i ms) ≡ whole → done ++ used_multipliers (drop (i + 1) ms) ≡ whole
multipliers_skip ms done whole i g e before =
    ap (λ x. done ++ x) (sym (multipliers_at ms i g ∙ ap (λ f. f ++ used_multipliers (drop (i + 1) ms)) (if_false (int_lt (pos 0) (get_or ms i (pos 0))) (get_or ms i (pos 0) ∷ []) [] (not_above (get_or ms i (pos 0)) e)))) ∙ before

pub used_push : (ks ms done new whole : List ℤ) (i : ℕ) (x : ℤ) → i < length ks → i < length ms → int_le (get_or ms i (pos 0)) (pos 0) ≡ false → x ≡ neg_ℤ (get_or ks i (pos 0)) → new ≡ done ++ x ∷ [] → done ++ used_literals (drop i ks) (drop i ms) ≡ whole → new ++ used_literals (drop (i + 1) ks) (drop (i + 1) ms) ≡ whole
used_push ks ms done new whole i x h g e is push before =
    turn done new (neg_ℤ (get_or ks i (pos 0)) ∷ []) (used_literals (drop i ks) (drop i ms)) (used_literals (drop (i + 1) ks) (drop (i + 1) ms)) whole
    (push ∙ ap (λ y. done ++ y ∷ []) is)
    (used_at ks ms i h g ∙ ap (λ f. f ++ used_literals (drop (i + 1) ks) (drop (i + 1) ms)) (if_true (int_lt (pos 0) (get_or ms i (pos 0))) (neg_ℤ (get_or ks i (pos 0)) ∷ []) [] (above (get_or ms i (pos 0)) e)))
    before

pub multipliers_push : (ms done new whole : List ℤ) (i : ℕ) (x : ℤ) → i < length ms → int_le (get_or ms i (pos 0)) (pos 0) ≡ false → x ≡ get_or ms i (pos 0) → new ≡ done ++ x ∷ [] → done ++ used_multipliers (drop i ms) ≡ whole → new ++ used_multipliers (drop (i + 1) ms) ≡ whole
multipliers_push ms done new whole i x g e is push before =
    turn done new (get_or ms i (pos 0) ∷ []) (used_multipliers (drop i ms)) (used_multipliers (drop (i + 1) ms)) whole
    (push ∙ ap (λ y. done ++ y ∷ []) is)
    (multipliers_at ms i g ∙ ap (λ f. f ++ used_multipliers (drop (i + 1) ms)) (if_true (int_lt (pos 0) (get_or ms i (pos 0))) (get_or ms i (pos 0) ∷ []) [] (above (get_or ms i (pos 0)) e)))
    before

-- the opposites by variable, from the last literal on
pub ascending_turn : (core lits new : List ℤ) (i n : ℕ) (x : ℤ) → i < length core → n ≡ i + 1 → x ≡ neg_ℤ (get_or core i (pos 0)) → new ≡ put x lits → lits ≡ ascending (opposites (drop n core)) → new ≡ ascending (opposites (drop i core))
ascending_turn core lits new i n x h e is push before =
    let split : drop i core ≡ get_or core i (pos 0) ∷ drop (suc i) core = drop-cons core i (pos 0) h in
    let on : n ≡ suc i = omega (arith, e) in
    push ∙ ap (λ y. put y lits) is ∙ ap (put (neg_ℤ (get_or core i (pos 0)))) (before ∙ ap (λ k. ascending (opposites (drop k core))) on) ∙ sym (ap (λ xs. ascending (opposites xs)) split)

pub small_at : (core : List ℤ) (i : ℕ) → AreSmall core → i < length core → unsigned_abs (get_or core i (pos 0)) ≤ 2 ^ 28
small_at core i all h = all (get_or core i (pos 0)) (Contains-get_or core i (pos 0) h)

-- putting in by variable is inserting after the literals of lower variables
lower_first : (a b : ℕ) → nat_lt a b ≡ true → int_le (pos b) (pos a) ≡ false
lower_first a b h = grind (arith, ints)

not_lower : (a b : ℕ) → nat_lt a b ≡ false → int_le (pos b) (pos a) ≡ true
not_lower a b h = grind (arith, ints)

put_pick : (b d : Bool) (k l : ℤ) (ls : List ℤ) (n : ℕ) → (d ≡ true → b ≡ false) → (d ≡ false → b ≡ true) → put k ls ≡ take n ls ++ k ∷ drop n ls
    → (if b then k ∷ l ∷ ls else l ∷ put k ls) ≡ take (cond d (1 + n) 0) (l ∷ ls) ++ k ∷ drop (cond d (1 + n) 0) (l ∷ ls)
put_pick true true k l ls n f g e = absurd (false≢true (sym (f refl)))
put_pick true false k l ls n f g e = refl
put_pick false true k l ls n f g e =
    let one : suc n ≡ 1 + n = omega arith in
    let P : ℕ → Type 0 = λ m. (l ∷ put k ls) ≡ take m (l ∷ ls) ++ k ∷ drop m (l ∷ ls) in
    subst P one (ap (λ x. l ∷ x) e)
put_pick false false k l ls n f g e = absurd (false≢true (g refl))

pub put_inserts : (k : ℤ) (ls : List ℤ) → put k ls ≡ take (prefix_len (λ l. nat_lt (unsigned_abs l) (unsigned_abs k)) ls) ls ++ k ∷ drop (prefix_len (λ l. nat_lt (unsigned_abs l) (unsigned_abs k)) ls) ls
put_inserts k [] = refl
put_inserts k (l ∷ ls) =
    put_pick (int_le (pos (unsigned_abs k)) (pos (unsigned_abs l))) (nat_lt (unsigned_abs l) (unsigned_abs k)) k l ls (prefix_len (λ l. nat_lt (unsigned_abs l) (unsigned_abs k)) ls)
    (lower_first (unsigned_abs l) (unsigned_abs k)) (not_lower (unsigned_abs l) (unsigned_abs k)) (put_inserts k ls)

cond_below : (d : Bool) (n m : ℕ) → n ≤ m → cond d (1 + n) 0 ≤ suc m
cond_below true n m h = omega arith
cond_below false n m h = omega arith

pub prefix_below : (test : ℤ → Bool) (xs : List ℤ) → prefix_len test xs ≤ length xs
prefix_below test [] = omega arith
prefix_below test (x ∷ xs) = cond_below (test x) (prefix_len test xs) (length xs) (prefix_below test xs)

-- what is so if a call has done well
pub on_ok : {X E : Type 0} (r : Result X E) (P Q : Type 0) → OnOk r P → (P → Q) → OnOk r Q
on_ok (Ok x) P Q h f = f h
on_ok (Err e) P Q h f = h
