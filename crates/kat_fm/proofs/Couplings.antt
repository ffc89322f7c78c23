-- Each plus row with each minus row.
use Rattle.std.proofs.Common.{◌≡◌, ℕ, ◌+◌, ◌<◌, List, ◌∷◌, ◌++◌, length, map, drop, get_or, sym, ap, ◌∙◌}
use Rattle.std.proofs.lemmas.List.{drop_more, get_or-map, length-map}
use Rattle.kat_fm.specs.declared.working.Combination.{Combination as Working}
use Rattle.kat_fm.specs.Limits.{Checked, and_then}
use Rattle.kat_fm.specs.Limits.Checked.{fits}
use Rattle.kat_fm.specs.Combinations.{Combination, combination_of}
use Rattle.kat_fm.specs.Eliminations.{couples}
use Rattle.kat_fm.specs.EntryViews.{combination_in, behind}
use Rattle.kat_fm.specs.Views.{combinations}
use Rattle.kat_fm.proofs.Loops.{behind_append, map_checked}

-- a row at a place, as it is seen
pub combination_at : (ws : List Working) (i : ℕ) (w : Working) → i < length ws → w ≡ get_or ws i w → combination_in w ≡ get_or (combinations ws) i (combination_in w)
combination_at ws i w h e = ap combination_in e ∙ sym (get_or-map combination_in ws i w (combination_in w) h)

pub as_many : (ws : List Working) → length (combinations ws) ≡ length ws
as_many ws = length-map ws combination_in

abbrev pub combined_in : ℕ → Combination × Combination → Checked Combination
combined_in v x = combination_of v x.0 x.1

pub couples_step : (v : ℕ) (ps ns done : List Combination) (i : ℕ) (p : Combination) → i < length ps → p ≡ get_or ps i p
    → behind (combined_in v) (couples (drop i ps) ns) done ≡ and_then (behind (combination_of v p) ns done) (λ d. behind (combined_in v) (couples (drop (i + 1) ps) ns) d)
couples_step v ps ns done i p h e =
    let rest = drop (i + 1) ps in
    ap (λ xs. behind (combined_in v) (couples xs ns) done) (drop_more ps i p h ∙ ap (λ x. x ∷ rest) (sym e))
    ∙ behind_append (combined_in v) (map (λ n. (p, n)) ns) (couples rest ns) done
    ∙ ap (λ c. and_then (and_then c (λ ys. fits (done ++ ys))) (λ d. behind (combined_in v) (couples rest ns) d)) (map_checked (combined_in v) (λ n. (p, n)) ns)
