-- The choice of a split, from the last clause on.
use Rattle.std.proofs.Common.{◌≡◌, ℕ, zero, suc, ◌+◌, ◌<◌, ℤ, List, [], ◌∷◌, length, drop, get_or, Vec, Bool, if◌then◌else◌, Option, Some, None, drop-cons, sym, ap, ◌∙◌, arith}
use Rattle.std.specs.Global.{Global}
use Rattle.std.proofs.lemmas.List.{get_or-map, length-map}
use Rattle.kat_clause.specs.Clauses.{lists}
use Rattle.kat_cases.specs.Nodes.{is_unmet, first_open, last_unmet, or_else}

abbrev pub chosen_of : (ℤ → Bool) → List ℤ → Option ℤ
chosen_of has c = if is_unmet has c then first_open has c else None

unmet_step : (has : ℤ → Bool) (cs : List (List ℤ)) (i n : ℕ) (c : List ℤ) → i < length cs → n ≡ i + 1 → get_or cs i [] ≡ c → last_unmet has (drop n cs) ≡ None → last_unmet has (drop i cs) ≡ chosen_of has c
unmet_step has cs i n c h is e none =
    let split : drop i cs ≡ get_or cs i [] ∷ drop (suc i) cs = drop-cons cs i [] h in
    let next : suc i ≡ n = omega (arith, is) in
    let rest : last_unmet has (drop (suc i) cs) ≡ None = ap (λ k. last_unmet has (drop k cs)) next ∙ none in
    ap (last_unmet has) split ∙ ap (λ o. or_else o (chosen_of has (get_or cs i []))) rest ∙ ap (chosen_of has) e

unmet_front : (has : ℤ → Bool) (cs : List (List ℤ)) (i : ℕ) (l : ℤ) → last_unmet has (drop i cs) ≡ Some l → last_unmet has cs ≡ Some l
unmet_front has cs zero l e = e
unmet_front has [] (suc i) l e = e
unmet_front has (c ∷ cs) (suc i) l e = ap (λ o. or_else o (chosen_of has c)) (unmet_front has cs i l e)

at_lists : (clauses : List (Vec ℤ Global)) (i : ℕ) (clause : Vec ℤ Global) → i < length clauses → clause ≡ get_or clauses i clause → get_or (lists clauses) i [] ≡ clause.items
at_lists clauses i clause h is = get_or-map (λ (v : Vec ℤ Global). v.items) clauses i clause [] h ∙ ap (λ (v : Vec ℤ Global). v.items) (sym is)

pub none_more : (has : ℤ → Bool) (clauses : List (Vec ℤ Global)) (i n : ℕ) (clause : Vec ℤ Global) (xs : List ℤ) → i < length clauses → n ≡ i + 1 → clause ≡ get_or clauses i clause → xs ≡ clause.items → None ≡ chosen_of has xs → last_unmet has (drop n (lists clauses)) ≡ None → last_unmet has (drop i (lists clauses)) ≡ None
none_more has clauses i n clause xs h e is same o before =
    unmet_step has (lists clauses) i n clause.items (omega (arith, length-map clauses (λ (v : Vec ℤ Global). v.items))) e (at_lists clauses i clause h is) before
    ∙ ap (chosen_of has) (sym same) ∙ sym o

pub found_here : (has : ℤ → Bool) (clauses : List (Vec ℤ Global)) (i n : ℕ) (clause : Vec ℤ Global) (xs : List ℤ) (l k : ℤ) → i < length clauses → n ≡ i + 1 → clause ≡ get_or clauses i clause → xs ≡ clause.items → k ≡ l → Some l ≡ chosen_of has xs → last_unmet has (drop n (lists clauses)) ≡ None → Some k ≡ last_unmet has (lists clauses)
found_here has clauses i n clause xs l k h e is same lit o before =
    ap (λ x. Some x) lit ∙ sym (unmet_front has (lists clauses) i l
    (unmet_step has (lists clauses) i n clause.items (omega (arith, length-map clauses (λ (v : Vec ℤ Global). v.items))) e (at_lists clauses i clause h is) before
    ∙ ap (chosen_of has) (sym same) ∙ sym o))
