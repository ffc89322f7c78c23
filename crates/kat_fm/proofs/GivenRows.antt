-- The given rows, each with a coefficient for each variable.
use Rattle.std.proofs.Common.{◌≡◌, ℕ, zero, suc, ◌+◌, ◌/◌, ◌<◌, ◌≤◌, ℤ, pos, unsigned_abs, List, [], ◌∷◌, ◌++◌, All, map, length, drop, get_or, sym, ap, ◌∙◌, subst, arith, append_assoc}
use Rattle.std.proofs.lemmas.List.{append-nil, drop_all, drop_more, map_push, get_or-map, length-map}
use Rattle.kat_linear.specs.declared.Row.{Row}
use Rattle.kat_linear.specs.Rows.{Form, form_of, forms}
use Rattle.kat_fm.specs.Combinations.{Combination, at, counted, given_at, given_from, given, gcd, weighed_rows, combination_of}

pub counted-push : (from n : ℕ) → counted from (n + 1) ≡ counted from n ++ (from + n) ∷ []
counted-push from zero = let e : from + 0 ≡ from = omega arith in ap (λ k. k ∷ []) (sym e)
counted-push from (suc n) =
    let e : suc from + n ≡ from + suc n = omega arith in
    let one : suc n + 1 ≡ suc (n + 1) = omega arith in
    ap (counted from) one ∙ ap (λ ks. from ∷ ks) (counted-push (suc from) n ∙ ap (λ k. counted (suc from) n ++ k ∷ []) e)

-- one more variable's number
pub counted_more : (f : ℕ → ℤ) (v : ℕ) (items new : List ℤ) (x : ℤ) → items ≡ map f (counted 0 v) → new ≡ items ++ x ∷ [] → x ≡ f v → new ≡ map f (counted 0 (v + 1))
counted_more f v items new x e k is =
    let count : 0 + v ≡ v = omega arith in
    k ∙ ap (λ xs. xs ++ x ∷ []) e ∙ ap (λ y. map f (counted 0 v) ++ y ∷ []) is ∙ sym (ap (map f) (counted-push 0 v ∙ ap (λ n. counted 0 v ++ n ∷ []) count) ∙ map_push f (counted 0 v) v)

-- what holds of all forms holds of a row's
pub form_holds : (P : Form → Type 0) (rows : List Row) (i : ℕ) (d : Row) → All P (forms rows) → i < length rows → P (form_of (get_or rows i d))
form_holds P rows i d h k =
    let below : i < length (forms rows) = omega (arith, length-map rows form_of) in
    subst P (get_or-map form_of rows i d (form_of d) k) (h i (form_of d) below)

pub given_none : (vars : ℕ) (rows : List Row) → given_from vars (length rows) 0 (forms rows) ≡ given vars (forms rows)
given_none vars rows = ap (λ n. given_from vars n 0 (forms rows)) (sym (length-map rows form_of))

-- one more given row
pub given_more : (vars count place : ℕ) (rows : List Row) (d : Row) (done new : List Combination) (w : Combination) (whole : List Combination) → place < length rows → new ≡ done ++ w ∷ [] → w ≡ given_at vars count place (form_of (get_or rows place d))
    → done ++ given_from vars count place (drop place (forms rows)) ≡ whole → new ++ given_from vars count (place + 1) (drop (place + 1) (forms rows)) ≡ whole
given_more vars count place rows d done new w whole below e is before =
    let h : place < length (forms rows) = omega (arith, length-map rows form_of) in
    let form = form_of (get_or rows place d) in
    let rest = drop (place + 1) (forms rows) in
    let here : drop place (forms rows) ≡ form ∷ rest = drop_more (forms rows) place (form_of d) h ∙ ap (λ x. x ∷ rest) (get_or-map form_of rows place d (form_of d) below) in
    let one : suc place ≡ place + 1 = omega arith in
    ap (λ xs. xs ++ given_from vars count (place + 1) rest) (e ∙ ap (λ x. done ++ x ∷ []) is)
    ∙ append_assoc done (given_at vars count place form ∷ []) (given_from vars count (place + 1) rest)
    ∙ ap (λ k. done ++ given_at vars count place form ∷ given_from vars count k rest) (sym one)
    ∙ ap (λ xs. done ++ given_from vars count place xs) (sym here) ∙ before

pub given_ends : (vars count place : ℕ) (rows : List Row) (done whole : List Combination) → length rows ≤ place → done ++ given_from vars count place (drop place (forms rows)) ≡ whole → done ≡ whole
given_ends vars count place rows done whole h before =
    let past : length (forms rows) ≤ place = omega (arith, length-map rows form_of) in
    sym (append-nil done) ∙ ap (λ xs. done ++ given_from vars count place xs) (sym (drop_all place (forms rows) past)) ∙ before

-- the weights of a combination
pub combined : (v : ℕ) (p n : Combination) (f g : ℤ) (a b k : ℕ) → a ≡ unsigned_abs (at v p) → b ≡ unsigned_abs (at v n) → k ≡ gcd a b → f ≡ pos (b / k) → g ≡ pos (a / k) → weighed_rows f p g n ≡ combination_of v p n
unfolding combination_of
combined v p n f g a b k is_a is_b is_k is_f is_g =
    let k_is : k ≡ gcd (unsigned_abs (at v p)) (unsigned_abs (at v n)) = is_k ∙ ap (λ x. gcd x b) is_a ∙ ap (λ y. gcd (unsigned_abs (at v p)) y) is_b in
    ap (λ x. weighed_rows x p g n) (is_f ∙ ap (λ y. pos (y / k)) is_b ∙ ap (λ y. pos (unsigned_abs (at v n) / y)) k_is)
    ∙ ap (λ x. weighed_rows (pos (unsigned_abs (at v n) / gcd (unsigned_abs (at v p)) (unsigned_abs (at v n)))) p x n) (is_g ∙ ap (λ y. pos (y / k)) is_a ∙ ap (λ y. pos (unsigned_abs (at v p) / y)) k_is)
