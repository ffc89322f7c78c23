-- A packet that isn't there changes no times.
use Rattle.std.proofs.Common.{◌≡◌, ℕ, zero, suc, ◌≤◌, List, [], ◌∷◌, length, set, refl, sym, ◌∙◌, ap, arith}
use Rattle.std.proofs.lemmas.List.{set-get_or}
use Rattle.kat_world.specs.Tracked.{later, times_at}

later_none : (times : List ℕ) → later times [] ≡ times
later_none [] = refl
later_none (time ∷ times) = refl

past_end : (lists : List (List ℕ)) (i : ℕ) → length lists ≤ i → times_at lists i ≡ []
past_end [] i h = refl
past_end (x ∷ lists) zero h = absurd (omega arith)
past_end (x ∷ lists) (suc i) h = past_end lists i (omega arith)

set_past : (lists : List (List ℕ)) (i : ℕ) (x : List ℕ) → length lists ≤ i → set lists i x ≡ lists
set_past [] i x h = refl
set_past (y ∷ lists) zero x h = absurd (omega arith)
set_past (y ∷ lists) (suc i) x h = ap (λ (ls : List (List ℕ)). y ∷ ls) (set_past lists i x (omega arith))

pub no_packet : (replicas packets : List (List ℕ)) (place packet : ℕ) → length packets ≤ packet
    → replicas ≡ set replicas place (later (times_at replicas place) (times_at packets packet))
no_packet replicas packets place packet h =
    sym (ap (λ (ts : List ℕ). set replicas place (later (times_at replicas place) ts)) (past_end packets packet h)
    ∙ ap (λ (ts : List ℕ). set replicas place ts) (later_none (times_at replicas place)) ∙ set-get_or replicas place [])

pub no_replica : (replicas packets : List (List ℕ)) (place packet : ℕ) → length replicas ≤ place
    → replicas ≡ set replicas place (later (times_at replicas place) (times_at packets packet))
no_replica replicas packets place packet h = sym (set_past replicas place (later (times_at replicas place) (times_at packets packet)) h)
