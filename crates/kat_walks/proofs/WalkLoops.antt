-- One turn of a loop over variables, multipliers or literals.
use Rattle.std.proofs.Common.{◌≡◌, ℕ, suc, ◌+◌, ◌<◌, ℤ, pos, neg_ℤ, int_lt, int_le, List, [], ◌∷◌, ◌++◌, length, map, drop, get_or, Bool, true, false, ◌||◌, if◌then◌else◌, Some, drop-cons, append_assoc, refl, sym, ap, ◌∙◌, arith}
use Rattle.std.proofs.lemmas.List.{get_or-map, length-map}
use Rattle.std.proofs.lemmas.Int.{ints}
use Rattle.kat_form.specs.declared.Meaning.{Meaning}
use Rattle.kat_form.specs.Encodings.{Sense, form_in, senses_of, sense_of}
use Rattle.kat_form.specs.Encodings.Sense.{gate}
use Rattle.kat_walks.specs.Walks.{Bound, blamed, bound_of, bounds_from, first_unset}

-- what is done and what is left are the whole, one piece later
pub turn : {B : Type 0} (done new piece rest next whole : List B) → new ≡ done ++ piece → rest ≡ piece ++ next → done ++ rest ≡ whole → new ++ next ≡ whole
turn done new piece rest next whole e f g = ap (λ x. x ++ next) e ∙ append_assoc done piece next ∙ ap (λ x. done ++ x) (sym f) ∙ g

-- the sense of an element
pub sense_here : (meanings : List Meaning) (i : ℕ) (meaning : Meaning) → i < length meanings → meaning ≡ get_or meanings i meaning → (i < length (senses_of meanings)) × (get_or (senses_of meanings) i gate ≡ sense_of meaning)
sense_here meanings i meaning h is = (omega (arith, h, length-map meanings sense_of), get_or-map sense_of meanings i meaning gate h ∙ ap sense_of (sym is))

if_true : {A : Type 0} (b : Bool) (x y : A) → b ≡ true → (if b then x else y) ≡ x
if_true b x y e = rw e refl

if_false : {A : Type 0} (b : Bool) (x y : A) → b ≡ false → (if b then x else y) ≡ y
if_false b x y e = rw e refl

-- the lowest variable without a known literal
lowest_at : (has : ℤ → Bool) (ss : List Sense) (i : ℕ) → i < length ss → first_unset has (i + 1) (drop i ss) ≡ (if has (pos (i + 1)) || has (neg_ℤ (pos (i + 1))) then first_unset has (i + 1 + 1) (drop (i + 1) ss) else Some (pos (i + 1)))
lowest_at has ss i h =
    let split : drop i ss ≡ get_or ss i gate ∷ drop (suc i) ss = drop-cons ss i gate h in
    let on : suc i ≡ i + 1 = omega arith in
    let next : suc (i + 1) ≡ i + 1 + 1 = omega arith in
    let known = has (pos (i + 1)) || has (neg_ℤ (pos (i + 1))) in
    ap (first_unset has (i + 1)) split
    ∙ ap (λ v. if known then first_unset has v (drop (suc i) ss) else Some (pos (i + 1))) next
    ∙ ap (λ k. if known then first_unset has (i + 1 + 1) (drop k ss) else Some (pos (i + 1))) on

pub lowest_turn : (has : ℤ → Bool) (ss : List Sense) (i : ℕ) (b : Bool) → i < length ss → b ≡ (has (pos (i + 1)) || has (neg_ℤ (pos (i + 1)))) → b ≡ true → first_unset has (i + 1) (drop i ss) ≡ first_unset has 1 ss → first_unset has (i + 1 + 1) (drop (i + 1) ss) ≡ first_unset has 1 ss
lowest_turn has ss i b h is e before = sym (lowest_at has ss i h ∙ if_true (has (pos (i + 1)) || has (neg_ℤ (pos (i + 1)))) (first_unset has (i + 1 + 1) (drop (i + 1) ss)) (Some (pos (i + 1))) (sym is ∙ e)) ∙ before

pub lowest_found : (has : ℤ → Bool) (ss : List Sense) (i : ℕ) (b : Bool) (v : ℤ) → i < length ss → b ≡ (has (pos (i + 1)) || has (neg_ℤ (pos (i + 1)))) → b ≡ false → v ≡ pos (i + 1) → first_unset has (i + 1) (drop i ss) ≡ first_unset has 1 ss → Some v ≡ first_unset has 1 ss
lowest_found has ss i b v h is e at before = ap (λ x. Some x) at ∙ sym (lowest_at has ss i h ∙ if_false (has (pos (i + 1)) || has (neg_ℤ (pos (i + 1)))) (first_unset has (i + 1 + 1) (drop (i + 1) ss)) (Some (pos (i + 1))) (sym is ∙ e)) ∙ before

-- one value or none in front of the rest
if_front : {B : Type 0} (b : Bool) (x : B) (rest : List B) → (if b then x ∷ rest else rest) ≡ (if b then x ∷ [] else []) ++ rest
if_front true x rest = refl
if_front false x rest = refl

-- held literals and their rows
map-append : {A B : Type 0} (f : A → B) (xs ys : List A) → map f (xs ++ ys) ≡ map f xs ++ map f ys
map-append f [] ys = refl
map-append f (x ∷ xs) ys = ap (λ zs. f x ∷ zs) (map-append f xs ys)

held_at : (has : ℤ → Bool) (ss : List Sense) (i : ℕ) → i < length ss → bounds_from has (i + 1) (drop i ss) ≡ bound_of has (i + 1) (form_in (get_or ss i gate)) ++ bounds_from has (i + 1 + 1) (drop (i + 1) ss)
held_at has ss i h =
    let split : drop i ss ≡ get_or ss i gate ∷ drop (suc i) ss = drop-cons ss i gate h in
    let on : suc i ≡ i + 1 = omega arith in
    let next : suc (i + 1) ≡ i + 1 + 1 = omega arith in
    let front = bound_of has (i + 1) (form_in (get_or ss i gate)) in
    ap (bounds_from has (i + 1)) split
    ∙ ap (λ v. front ++ bounds_from has v (drop (suc i) ss)) next
    ∙ ap (λ k. front ++ bounds_from has (i + 1 + 1) (drop k ss)) on

pub held_turn : {B : Type 0} (f : Bound → B) (has : ℤ → Bool) (ss : List Sense) (i : ℕ) (s : Sense) (done new whole : List B) → i < length ss → get_or ss i gate ≡ s → new ≡ done ++ map f (bound_of has (i + 1) (form_in s)) → done ++ map f (bounds_from has (i + 1) (drop i ss)) ≡ whole → new ++ map f (bounds_from has (i + 1 + 1) (drop (i + 1) ss)) ≡ whole
held_turn f has ss i s done new whole h is push before =
    turn done new (map f (bound_of has (i + 1) (form_in s))) (map f (bounds_from has (i + 1) (drop i ss))) (map f (bounds_from has (i + 1 + 1) (drop (i + 1) ss))) whole push
    (ap (map f) (held_at has ss i h ∙ ap (λ t. bound_of has (i + 1) (form_in t) ++ bounds_from has (i + 1 + 1) (drop (i + 1) ss)) is) ∙ map-append f (bound_of has (i + 1) (form_in s)) (bounds_from has (i + 1 + 1) (drop (i + 1) ss)))
    before

-- literals whose multipliers are above 0
used_at : (ks ms : List ℤ) (i : ℕ) → i < length ks → i < length ms → blamed (drop i ks) (drop i ms) ≡ (if int_lt (pos 0) (get_or ms i (pos 0)) then neg_ℤ (get_or ks i (pos 0)) ∷ [] else []) ++ blamed (drop (i + 1) ks) (drop (i + 1) ms)
used_at ks ms i h g =
    let a : drop i ks ≡ get_or ks i (pos 0) ∷ drop (suc i) ks = drop-cons ks i (pos 0) h in
    let b : drop i ms ≡ get_or ms i (pos 0) ∷ drop (suc i) ms = drop-cons ms i (pos 0) g in
    let on : suc i ≡ i + 1 = omega arith in
    let test = int_lt (pos 0) (get_or ms i (pos 0)) in
    ap (λ xs. blamed xs (drop i ms)) a ∙ ap (blamed (get_or ks i (pos 0) ∷ drop (suc i) ks)) b
    ∙ if_front test (neg_ℤ (get_or ks i (pos 0))) (blamed (drop (suc i) ks) (drop (suc i) ms))
    ∙ ap (λ k. (if test then neg_ℤ (get_or ks i (pos 0)) ∷ [] else []) ++ blamed (drop k ks) (drop k ms)) on

not_above : (m : ℤ) → int_le m (pos 0) ≡ true → int_lt (pos 0) m ≡ false
not_above m h = grind (arith, ints)

above : (m : ℤ) → int_le m (pos 0) ≡ false → int_lt (pos 0) m ≡ true
above m h = grind (arith, ints)

pub used_skip : (ks ms done whole : List ℤ) (i : ℕ) → i < length ks → i < length ms → int_le (get_or ms i (pos 0)) (pos 0) ≡ true → done ++ blamed (drop i ks) (drop i ms) ≡ whole → done ++ blamed (drop (i + 1) ks) (drop (i + 1) ms) ≡ whole
used_skip ks ms done whole i h g e before =
    ap (λ x. done ++ x) (sym (used_at ks ms i h g ∙ ap (λ f. f ++ blamed (drop (i + 1) ks) (drop (i + 1) ms)) (if_false (int_lt (pos 0) (get_or ms i (pos 0))) (neg_ℤ (get_or ks i (pos 0)) ∷ []) [] (not_above (get_or ms i (pos 0)) e)))) ∙ before

pub used_push : (ks ms done new whole : List ℤ) (i : ℕ) (x : ℤ) → i < length ks → i < length ms → int_le (get_or ms i (pos 0)) (pos 0) ≡ false → x ≡ neg_ℤ (get_or ks i (pos 0)) → new ≡ done ++ x ∷ [] → done ++ blamed (drop i ks) (drop i ms) ≡ whole → new ++ blamed (drop (i + 1) ks) (drop (i + 1) ms) ≡ whole
used_push ks ms done new whole i x h g e is push before =
    turn done new (neg_ℤ (get_or ks i (pos 0)) ∷ []) (blamed (drop i ks) (drop i ms)) (blamed (drop (i + 1) ks) (drop (i + 1) ms)) whole
    (push ∙ ap (λ y. done ++ y ∷ []) is)
    (used_at ks ms i h g ∙ ap (λ f. f ++ blamed (drop (i + 1) ks) (drop (i + 1) ms)) (if_true (int_lt (pos 0) (get_or ms i (pos 0))) (neg_ℤ (get_or ks i (pos 0)) ∷ []) [] (above (get_or ms i (pos 0)) e)))
    before
