-- The best bound of rows.
use Rattle.std.proofs.Common.{◌≡◌, ℕ, ◌+◌, ◌<◌, ℤ, Bool, List, ◌∷◌, length, drop, get_or, sym, ap, ◌∙◌}
use Rattle.std.proofs.lemmas.List.{drop_more}
use Rattle.kat_fm.specs.Limits.{Checked, and_then}
use Rattle.kat_fm.specs.Limits.Checked.{fits, passes}
use Rattle.kat_fm.specs.Combinations.{Combination}
use Rattle.kat_fm.specs.Points.{Values, Bound, bound_at, better_bound, best_from}
use Rattle.kat_fm.proofs.Loops.{nested}

-- a row's bound when it is better than the kept one
abbrev pub compared : Bool → ℕ → Values → Combination → Bound → Checked Bound
compared lower v values row kept = and_then (bound_at lower v values row) (λ new. better_bound lower new kept)

best_step : (lower : Bool) (v : ℕ) (values : Values) (kept : Bound) (rows : List Combination) (i : ℕ) (row : Combination) → i < length rows → row ≡ get_or rows i row
    → best_from lower v values kept (drop i rows) ≡ and_then (compared lower v values row kept) (λ best. best_from lower v values best (drop (i + 1) rows))
best_step lower v values kept rows i row h e =
    ap (best_from lower v values kept) (drop_more rows i row h ∙ ap (λ x. x ∷ drop (i + 1) rows) (sym e))
    ∙ nested (bound_at lower v values row) (λ new. better_bound lower new kept) (λ best. best_from lower v values best (drop (i + 1) rows))

pub best_more : (lower : Bool) (v : ℕ) (values : Values) (kept new : Bound) (rows : List Combination) (i : ℕ) (row : Combination) (whole : Checked Bound) → i < length rows → row ≡ get_or rows i row
    → fits new ≡ compared lower v values row kept → best_from lower v values kept (drop i rows) ≡ whole → best_from lower v values new (drop (i + 1) rows) ≡ whole
best_more lower v values kept new rows i row whole h e k before =
    ap (λ c. and_then c (λ best. best_from lower v values best (drop (i + 1) rows))) k ∙ sym (best_step lower v values kept rows i row h e) ∙ before

pub best_stops : (lower : Bool) (v : ℕ) (values : Values) (kept : Bound) (left right : ℤ) (rows : List Combination) (i : ℕ) (row : Combination) (whole : Checked Bound) → i < length rows → row ≡ get_or rows i row
    → passes left right ≡ compared lower v values row kept → best_from lower v values kept (drop i rows) ≡ whole → passes left right ≡ whole
best_stops lower v values kept left right rows i row whole h e k before =
    ap (λ c. and_then c (λ best. best_from lower v values best (drop (i + 1) rows))) k ∙ sym (best_step lower v values kept rows i row h e) ∙ before
