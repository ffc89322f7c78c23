-- Pruning by what a state needs at least throws nothing away.
use Rattle.std.proofs.Common.{◌≡◌, ℕ, ◌+◌, ◌-◌, ◌≤◌, true, nat_le, List, [], ◌∷◌, arith}
use Rattle.std.proofs.lemmas.Grind.{common_steps}
use Rattle.kat_walk.specs.Machines.{Accepts, Machine}
use Rattle.kat_walk.specs.Pruning.{IsBehindLeast, IsLeast, KeepsAll, by_least, total}

least_total : {S T : Type 0} (m : Machine S T) (cost : T → ℕ) (least : S → ℕ) → IsLeast m cost least → (s : S) (w : List T) → Accepts m s w → least s ≤ total cost w
least_total m cost least l s [] a = let e = l.ends s a in omega arith
least_total m cost least l s (t ∷ w) a =
    let f = l.falls s t a.1 in
    let r = least_total m cost least l (m.step s t) w a.2 in
    omega arith

pub le_true : (a b : ℕ) → a ≤ b → nat_le a b ≡ true
le_true a b h = grind (arith, common_steps)

pub least_keeps : {S T : Type 0} (m : Machine S T) (cost : T → ℕ) (least : S → ℕ) (behind : S → T → ℕ) → IsLeast m cost least → IsBehindLeast m least behind → (s : S) (left : ℕ) (w : List T) → Accepts m s w
    → total cost w ≤ left → KeepsAll m (by_least cost behind) s left w
least_keeps m cost least behind l b s left [] a h = tt
least_keeps m cost least behind l b s left (t ∷ w) a h =
    let r = least_total m cost least l (m.step s t) w a.2 in
    let q = b s t a.1 in
    (le_true (cost t + behind s t) left (omega arith), least_keeps m cost least behind l b (m.step s t) (left - cost t) w a.2 (omega arith))
