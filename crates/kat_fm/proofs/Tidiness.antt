-- Of rows with equal coefficients the strongest, by marks.
use Rattle.std.proofs.Common.{◌≡◌, ℕ, zero, suc, ◌+◌, ◌<◌, Bool, true, false, if◌then◌else◌, ℤ, pos, Option, Some, List, [], ◌∷◌, ◌++◌, length, map, take, drop, get_or, refl, sym, ap, ◌∙◌, subst, arith, append_assoc}
use Rattle.std.specs.Prelude.{not, ◌||◌, ◌&&◌, int_lt}
use Rattle.std.specs.List.{list_any, enumerate_from}
use Rattle.std.proofs.lemmas.List.{length-map, map_push, drop_more, length-append, length_push}
use Rattle.kat_fm.specs.declared.working.Combination.{Combination as Working}
use Rattle.kat_fm.specs.Combinations.{Combination, counted}
use Rattle.kat_fm.specs.Comparisons.{covers, exceeds, has_variables}
use Rattle.kat_fm.specs.Eliminations.{strongest, contradiction}
use Rattle.kat_fm.proofs.GivenRows.{counted-push}
use Rattle.kat_fm.specs.EntryViews.{combination_in, multipliers_of}
use Rattle.kat_fm.specs.Views.{combinations, no_row, is_beaten_at, marked}

-- one row more, whose mark is true or false
one_more : (mark beaten : Bool) (w : Working) (place : ℕ) (marks : List Bool) (rest : List (ℕ × Working)) (left : List Combination) → get_or marks place false ≡ mark → mark ≡ not beaten → marked marks rest ≡ left
    → marked marks ((place, w) ∷ rest) ≡ (if beaten then [] else combination_in w ∷ []) ++ left
one_more true true w place marks rest left e f h = absurd (cc)
one_more true false w place marks rest left e f h = rw e (ap (λ xs. combination_in w ∷ xs) h)
one_more false true w place marks rest left e f h = rw e h
one_more false false w place marks rest left e f h = absurd (cc)

-- what comes before, at and after a row
take_front : (xs : List Combination) (ys : List Combination) → take (length xs) (xs ++ ys) ≡ xs
take_front [] ys = refl
take_front (x ∷ xs) ys = ap (λ zs. x ∷ zs) (take_front xs ys)

drop_front : (xs : List Combination) (y : Combination) (ys : List Combination) → drop (length xs + 1) (xs ++ y ∷ ys) ≡ ys
drop_front [] y ys = refl
drop_front (x ∷ xs) y ys = let e : length (x ∷ xs) + 1 ≡ suc (length xs + 1) = omega arith in ap (λ k. drop k (x ∷ (xs ++ y ∷ ys))) e ∙ drop_front xs y ys

at_front : (xs : List Combination) (y : Combination) (ys : List Combination) (d : Combination) → get_or (xs ++ y ∷ ys) (length xs) d ≡ y
at_front [] y ys d = refl
at_front (x ∷ xs) y ys d = at_front xs y ys d

beaten_is : (front : List Combination) (row : Combination) (rest : List Combination)
    → is_beaten_at (front ++ row ∷ rest) (length front) ≡ (list_any (λ other. covers other row) front || list_any (λ other. exceeds other row) rest)
beaten_is front row rest =
    rw (at_front front row rest no_row, take_front front (row ∷ rest), drop_front front row rest) refl

map_append : (xs ys : List Working) → combinations (xs ++ ys) ≡ combinations xs ++ combinations ys
map_append [] ys = refl
map_append (x ∷ xs) ys = ap (λ zs. combination_in x ∷ zs) (map_append xs ys)

kept_from : (marks : List Bool) (front rest : List Working) → ((k : ℕ) → k < length (front ++ rest) → get_or marks k false ≡ not (is_beaten_at (combinations (front ++ rest)) k))
    → marked marks (enumerate_from (length front) rest) ≡ strongest (combinations front) (combinations rest)
kept_from marks front [] h = refl
kept_from marks front (w ∷ rest) h =
    let here : is_beaten_at (combinations (front ++ w ∷ rest)) (length front) ≡ (list_any (λ other. covers other (combination_in w)) (combinations front) || list_any (λ other. exceeds other (combination_in w)) (combinations rest))
    = ap (λ rows. is_beaten_at rows (length front)) (map_append front (w ∷ rest)) ∙ ap (is_beaten_at (combinations front ++ combination_in w ∷ combinations rest)) (sym (length-map front combination_in)) ∙ beaten_is (combinations front) (combination_in w) (combinations rest) in
    let below : length front < length (front ++ w ∷ rest) = omega (arith, length-append front (w ∷ rest)) in
    let mark : get_or marks (length front) false ≡ not (list_any (λ other. covers other (combination_in w)) (combinations front) || list_any (λ other. exceeds other (combination_in w)) (combinations rest))
    = h (length front) below ∙ ap not here in
    let same : (front ++ w ∷ []) ++ rest ≡ front ++ w ∷ rest = append_assoc front (w ∷ []) rest in
    let P : List Working → Type 0 = λ rows. (k : ℕ) → k < length rows → get_or marks k false ≡ not (is_beaten_at (combinations rows) k) in
    let others = kept_from marks (front ++ w ∷ []) rest (subst P (sym same) h) in
    let count : length (front ++ w ∷ []) ≡ length front + 1 = length_push front w in
    let left : marked marks (enumerate_from (length front + 1) rest) ≡ strongest (combinations front ++ combination_in w ∷ []) (combinations rest)
    = ap (λ n. marked marks (enumerate_from n rest)) (sym count) ∙ others ∙ ap (λ xs. strongest xs (combinations rest)) (map_append front (w ∷ [])) in
    one_more (get_or marks (length front) false) (list_any (λ other. covers other (combination_in w)) (combinations front) || list_any (λ other. exceeds other (combination_in w)) (combinations rest)) w (length front) marks (enumerate_from (length front + 1) rest) (strongest (combinations front ++ combination_in w ∷ []) (combinations rest)) refl mark left

at_counted : (f : ℕ → Bool) (from n k : ℕ) → k < n → get_or (map f (counted from n)) k false ≡ f (from + k)
at_counted f from zero k h = absurd (omega arith)
at_counted f from (suc n) zero h = let e : from + 0 ≡ from = omega arith in ap f (sym e)
at_counted f from (suc n) (suc k) h = let e : suc from + k ≡ from + suc k = omega arith in at_counted f (suc from) n k (omega arith) ∙ ap f e

pub marks_keep : (marks : List Bool) (rows : List Working) → marks ≡ map (λ place. not (is_beaten_at (combinations rows) place)) (counted 0 (length rows)) → marked marks (enumerate_from 0 rows) ≡ strongest [] (combinations rows)
marks_keep marks rows e =
    kept_from marks [] rows (λ k h. let zero_on : 0 + k ≡ k = omega arith in
    ap (λ ms. get_or ms k false) e ∙ at_counted (λ place. not (is_beaten_at (combinations rows) place)) 0 (length rows) k h ∙ ap (λ n. not (is_beaten_at (combinations rows) n)) zero_on)

-- one more mark
pub marked_more : (f : ℕ → Bool) (n : ℕ) (items new : List Bool) (x : Bool) → items ≡ map f (counted 0 n) → new ≡ items ++ x ∷ [] → x ≡ f n → new ≡ map f (counted 0 (n + 1))
marked_more f n items new x e k is =
    let count : 0 + n ≡ n = omega arith in
    k ∙ ap (λ xs. xs ++ x ∷ []) e ∙ ap (λ y. map f (counted 0 n) ++ y ∷ []) is ∙ sym (ap (map f) (counted-push 0 n ∙ ap (λ j. counted 0 n ++ j ∷ []) count) ∙ map_push f (counted 0 n) n)

-- the first contradiction
pub contradiction_here : (ws : List Working) (i : ℕ) (w : Working) (whole : Option (List ℤ)) → i < length ws → w ≡ get_or ws i w → true ≡ (not (has_variables (combination_in w)) && int_lt (pos 0) w.constant)
    → contradiction (combinations (drop i ws)) ≡ whole → Some (multipliers_of w.multipliers) ≡ whole
contradiction_here ws i w whole h e is before =
    let rest = combinations (drop (i + 1) ws) in
    ap (λ b. if b then Some (multipliers_of w.multipliers) else contradiction rest) is
    ∙ ap (λ x. contradiction (combination_in x ∷ rest)) e ∙ sym (ap (λ xs. contradiction (combinations xs)) (drop_more ws i w h)) ∙ before
