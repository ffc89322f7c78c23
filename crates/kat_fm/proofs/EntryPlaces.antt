-- Which number is at each place of a list of entries.
use Rattle.std.proofs.Common.{◌≡◌, ◌≢◌, ℕ, ◌+◌, ◌<◌, ◌≤◌, ℤ, pos, Bool, true, false, if◌then◌else◌, unsigned_abs, List, [], ◌∷◌, ◌++◌, All, sym, ◌∙◌, subst, refl, arith, ◌+ℤ◌, ◌==◌}
use Rattle.std.proofs.Math.IntN.{+ℤ_idl}
use Rattle.std.proofs.lemmas.Int.{ints}
use Rattle.std.proofs.lemmas.List.Elements.{All-head, All-tail}
use Rattle.kat_linear.specs.Rows.{Term, AreAscending, coefficient_in}
use Rattle.kat_linear.proofs.Columns.{coefficient_below}
use Rattle.kat_linear.proofs.Totals.{part_at, part_apart}
use Rattle.std.proofs.lemmas.Bool.{eqb-true}

-- the first entry's number, and what the others have
pub first_at : (e : Term) (es : List Term) → AreAscending (e ∷ es) → coefficient_in (e ∷ es) e.0 ≡ e.1
first_at e es h = rw (part_at e e.0 refl, coefficient_below es e.0 h.0) (omega (arith, ints))

pub others_at : (e : Term) (es : List Term) (w : ℕ) → e.0 ≢ w → coefficient_in (e ∷ es) w ≡ coefficient_in es w
others_at e es w h = rw (part_apart e w h) (+ℤ_idl (coefficient_in es w))

-- there is nothing past all places
pub past_all : (es : List Term) (w : ℕ) → All (λ (e : Term). e.0 < w) es → coefficient_in es w ≡ pos 0
past_all [] w h = refl
past_all (e ∷ es) w h =
    let less : e.0 < w = All-head (λ (x : Term). x.0 < w) e es h in
    others_at e es w (λ s. omega arith) ∙ past_all es w (All-tail (λ (x : Term). x.0 < w) e es h)

-- one entry more
pub pushed_apart : (es : List Term) (e : Term) (w : ℕ) → e.0 ≢ w → coefficient_in (es ++ e ∷ []) w ≡ coefficient_in es w
pushed_apart [] e w h = others_at e [] w h
pushed_apart (x ∷ es) e w h = rw (pushed_apart es e w h) refl

pub pushed_here : (es : List Term) (e : Term) → All (λ (x : Term). x.0 < e.0) es → coefficient_in (es ++ e ∷ []) e.0 ≡ e.1
pushed_here [] e h = rw (part_at e e.0 refl) (omega (arith, ints))
pushed_here (x ∷ es) e h =
    let less : x.0 < e.0 = All-head (λ (y : Term). y.0 < e.0) x es h in
    others_at x (es ++ e ∷ []) e.0 (λ s. omega arith) ∙ pushed_here es e (All-tail (λ (y : Term). y.0 < e.0) x es h)

small_if : (b : Bool) (c rest : ℤ) (n : ℕ) → unsigned_abs c ≤ n → unsigned_abs rest ≤ n → (b ≡ true → rest ≡ pos 0) → unsigned_abs ((if b then c else pos 0) +ℤ rest) ≤ n
small_if true c rest n h k none = let e : rest ≡ pos 0 = none refl in omega (arith, ints)
small_if false c rest n h k none = let e : pos 0 +ℤ rest ≡ rest = omega (arith, ints) in let P : ℤ → Type 0 = λ z. unsigned_abs z ≤ n in subst P (sym e) k

-- a coefficient is as small as the numbers of the terms
pub coefficient_small : (ts : List Term) (v n : ℕ) → AreAscending ts → All (λ (t : Term). unsigned_abs t.1 ≤ n) ts → unsigned_abs (coefficient_in ts v) ≤ n
coefficient_small [] v n h k = omega arith
coefficient_small (t ∷ ts) v n h k =
    small_if (t.0 == v) t.1 (coefficient_in ts v) n (All-head (λ (u : Term). unsigned_abs u.1 ≤ n) t ts k) (coefficient_small ts v n h.1 (All-tail (λ (u : Term). unsigned_abs u.1 ≤ n) t ts k))
    (λ e. let same : t.0 ≡ v = eqb-true t.0 v e in let P : ℕ → Type 0 = λ x. coefficient_in ts x ≡ pos 0 in subst P same (coefficient_below ts t.0 h.0))
