-- Bounds that are compared, and numbers that are divided.
use Rattle.std.proofs.Common.{◌≡◌, ℕ, ◌+◌, ◌<◌, ◌^◌, ℤ, Bool, if◌then◌else◌, List, [], ◌∷◌, ◌++◌, pos, ◌-◌, length, map, set, take, drop, get_or, append_assoc, sym, ap, ◌∙◌, arith}
use Rattle.std.specs.Prelude.{int_lt}
use Rattle.std.proofs.lemmas.List.{drop_more, length-map, length-take, get_or-append_right, set-append_right, map_more}
use Rattle.kat_fm.specs.Limits.{Checked, and_then, checked_product}
use Rattle.kat_fm.specs.Limits.Checked.{fits, passes}
use Rattle.kat_fm.specs.Points.{Bound, better_bound}

-- when the second product passes the limit
pub better_stops : (lower : Bool) (new kept : Bound) (l left right : ℤ) → fits l ≡ checked_product (2 ^ 126) new.numerator kept.factor → passes left right ≡ checked_product (2 ^ 126) kept.numerator new.factor → passes left right ≡ better_bound lower new kept
better_stops lower new kept l left right e f =
    let last : ℤ → ℤ → Checked Bound = λ x y. fits (if (if lower then int_lt y x else int_lt x y) then new else kept) in
    ap (λ c. and_then c (λ y. last l y)) f ∙ ap (λ c. and_then c (λ x. and_then (checked_product (2 ^ 126) kept.numerator new.factor) (λ y. last x y))) e

-- one more number of a list that is changed in place
pub mapped_more : (f : ℤ → ℤ) (xs items : List ℤ) (i : ℕ) (y : ℤ) → i < length xs → items ≡ map f (take i xs) ++ drop i xs → y ≡ f (get_or items i (pos 0)) → set items i y ≡ map f (take (i + 1) xs) ++ drop (i + 1) xs
mapped_more f xs items i y h e is =
    let count : length (map f (take i xs)) ≡ i = length-map (take i xs) f ∙ length-take i xs ∙ omega arith in
    let zero_off : i - i ≡ 0 = omega arith in
    let read : get_or items i (pos 0) ≡ get_or xs i (pos 0) =
    ap (λ ys. get_or ys i (pos 0)) (e ∙ ap (λ ys. map f (take i xs) ++ ys) (drop_more xs i (pos 0) h)) ∙ get_or-append_right (map f (take i xs)) (get_or xs i (pos 0) ∷ drop (i + 1) xs) i i (pos 0) count (omega arith) ∙ ap (λ k. get_or (get_or xs i (pos 0) ∷ drop (i + 1) xs) k (pos 0)) zero_off in
    ap (λ ys. set ys i y) (e ∙ ap (λ ys. map f (take i xs) ++ ys) (drop_more xs i (pos 0) h))
    ∙ set-append_right (map f (take i xs)) (get_or xs i (pos 0) ∷ drop (i + 1) xs) i i y count (omega arith)
    ∙ ap (λ k. map f (take i xs) ++ set (get_or xs i (pos 0) ∷ drop (i + 1) xs) k y) zero_off
    ∙ ap (λ z. map f (take i xs) ++ z ∷ drop (i + 1) xs) (is ∙ ap f read)
    ∙ sym (append_assoc (map f (take i xs)) (f (get_or xs i (pos 0)) ∷ []) (drop (i + 1) xs))
    ∙ ap (λ ys. ys ++ drop (i + 1) xs) (sym (map_more f xs i (pos 0) h))
