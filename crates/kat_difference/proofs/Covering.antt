-- Marks tell which operations a replica has.
use Rattle.std.proofs.Common.{◌≡◌, ◌⊎◌, ℕ, ◌≤◌, max, refl, List, ap, inl, inr, arith}
use Rattle.kat_lattice.specs.Tallies.{Sums, TalliesKin, sum_of, tallies_joined}
use Rattle.kat_lattice.proofs.Readings.{takes_greater_sums}
use Rattle.kat_type.specs.Lists.{Has}
use Rattle.kat_type.specs.declared.done.Done.{Done}
use Rattle.kat_difference.specs.Marks.{AreMarks, latest}
use Rattle.kat_difference.specs.Near.{AreTimed, IsPrefix}
use Rattle.kat_difference.specs.Uniting.{MarksTellOperations}
use Rattle.kat_difference.proofs.Latest.{Reached, latest_after, latest_reached}

latest_below : (known peer : List Done) (base marks : Sums) → TalliesKin base marks → AreMarks base known → AreMarks marks peer → tallies_joined base marks ≡ marks → (replica : ℕ) → latest replica known ≤ latest replica peer
latest_below known peer base marks kin h k below replica =
    let a : sum_of (tallies_joined base marks) replica ≡ max (sum_of base replica) (sum_of marks replica) = takes_greater_sums base marks kin replica in
    let b : sum_of (tallies_joined base marks) replica ≡ sum_of marks replica = ap (λ (t : Sums). sum_of t replica) below in
    let c : sum_of base replica ≡ latest replica known = h.each replica in
    let d : sum_of marks replica ≡ latest replica peer = k.each replica in
    omega (arith, a, b, c, d)

-- if the peer's operations of an origin are a prefix of those known, and go as far, it has them all
covered : (known peer : List Done) (one : Done) → AreTimed known → IsPrefix one.replica peer known → latest one.replica known ≤ latest one.replica peer → Has known one → (latest one.replica peer ≡ 0) ⊎ Reached one.replica peer → Has peer one
covered known peer one timed prefix low has (inl none) = absurd (
    let a : one.time ≤ latest one.replica known = latest_after one.replica known one refl has in
    let b : 1 ≤ one.time = timed.timed one has in
    omega (arith, a, b, low, none))
covered known peer one timed prefix low has (inr r) =
    let a : one.time ≤ latest one.replica known = latest_after one.replica known one refl has in
    let t : r.one.time ≡ latest one.replica peer = r.time in
    prefix.closed r.one one r.is refl r.has has (omega (arith, a, low, t))

pub marks_tell : MarksTellOperations
marks_tell known peer base marks timed near kin h k below one has =
    elim (near one.replica) as (λ _. Has peer one) [
      | inl among ↦ among.among one refl has
      | inr prefix ↦ covered known peer one timed prefix (latest_below known peer base marks kin h k below one.replica) has (latest_reached one.replica peer)
    ]
