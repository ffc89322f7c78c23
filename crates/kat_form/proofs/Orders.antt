-- Terms ascend if each is above the one before it.
use Rattle.std.proofs.Common.{ℕ, zero, suc, ◌<◌, List, [], ◌∷◌, length, get_or, All, arith}
use Rattle.std.proofs.lemmas.List.Elements.{All-nil, All-cons, All-weaker, All-get_or}
use Rattle.kat_linear.specs.Rows.{Term, AreAscending}

-- each term is above the one before it
abbrev pub Climbs : List Term → Type 0
Climbs ts = (j : ℕ) (d : Term) → suc j < length ts → (get_or ts j d).0 < (get_or ts (suc j) d).0

above_first : (t : Term) (ts : List Term) → Climbs (t ∷ ts) → All (λ (u : Term). t.0 < u.0) ts
above_first t [] h = All-nil (λ (u : Term). t.0 < u.0)
above_first t (u ∷ us) h =
    let first : t.0 < u.0 = h 0 t (omega arith) in
    All-cons (λ (x : Term). t.0 < x.0) u us first (All-weaker (λ (x : Term). u.0 < x.0) (λ (x : Term). t.0 < x.0) (λ x above. omega arith) us (above_first u us (λ j d below. h (suc j) d (omega arith))))

pub ascending_from : (ts : List Term) → Climbs ts → AreAscending ts
ascending_from [] h = tt
ascending_from (t ∷ ts) h = (above_first t ts h, ascending_from ts (λ j d below. h (suc j) d (omega arith)))

pub climbs_from : (ts : List Term) → AreAscending ts → Climbs ts
climbs_from [] h j d below = absurd (omega arith)
climbs_from (t ∷ ts) h zero d below = All-get_or (λ (u : Term). t.0 < u.0) ts 0 d (omega arith) h.0
climbs_from (t ∷ ts) h (suc j) d below = climbs_from ts h.1 j d (omega arith)
