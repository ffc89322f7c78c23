-- The variable that a step takes.
use Rattle.std.proofs.Common.{◌≡◌, ℕ, suc, ◌+◌, ◌-◌, ◌<◌, Option, List, ◌∷◌, if◌then◌else◌, sym, ap, ◌∙◌, arith}
use Rattle.std.specs.List.{list_all}
use Rattle.kat_fm.specs.Combinations.{Combination, counted}
use Rattle.kat_fm.specs.Eliminations.{is_rest, better, choice_from}

counted_step : (v n : ℕ) → v < n → counted v (n - v) ≡ v ∷ counted (v + 1) (n - (v + 1))
counted_step v n h =
    let left : n - v ≡ suc (n - (v + 1)) = omega arith in
    let next : suc v ≡ v + 1 = omega arith in
    ap (counted v) left ∙ ap (λ k. v ∷ counted k (n - (v + 1))) next

pub choice_more : (rows : List Combination) (kept new : Option ℕ) (v n : ℕ) (whole : Option ℕ) → v < n → new ≡ (if list_all (is_rest v) rows then kept else better rows kept v)
    → choice_from rows kept (counted v (n - v)) ≡ whole → choice_from rows new (counted (v + 1) (n - (v + 1))) ≡ whole
choice_more rows kept new v n whole h e before =
    ap (λ k. choice_from rows k (counted (v + 1) (n - (v + 1)))) e ∙ sym (ap (choice_from rows kept) (counted_step v n h)) ∙ before
