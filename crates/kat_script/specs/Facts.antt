-- What holds in every world of a judged script.
use Rattle.std.specs.Prelude.{◌≡◌, ◌↔◌, ℕ, ◌+◌, ◌≤◌, ◌<◌, List, [], ◌∷◌}
use Rattle.std.specs.List.{slice_index_or}
use Rattle.kat_script.specs.Judged.{IsReplica}
use Rattle.kat_type.specs.Lists.{Has, IsOnce}
use Rattle.kat_script.specs.World.{Holder, World, fresh}
use Rattle.kat_type.specs.declared.done.Done.{Done}
use Rattle.kat_script.specs.declared.script.Line.{Line}
use Rattle.kat_script.specs.declared.script.Line.TheVariants.{Do}

-- the operations that lines do, in order
abbrev pub done_in : List Line → List Done
done_in [] = []
done_in (Do done ∷ lines) = done ∷ done_in lines
done_in (line ∷ lines) = done_in lines

-- Of what was done so far, a holder has each operation at most once, none later than its clock, and with
-- an operation all earlier ones of the same replica.
pub record IsFront (past : List Done) (holder : Holder) : Type 0 where
  pub within : (one : Done) → Has holder.absorbed one → one.time ≤ holder.clock
  pub was_done : (one : Done) → Has holder.absorbed one → Has past one
  pub closed : (one early : Done) → Has holder.absorbed one → Has past early → early.replica ≡ one.replica → early.time ≤ one.time → Has holder.absorbed early
  pub once : IsOnce holder.absorbed

-- Once these operations were done: times are above 0, each was done at a replica that there is, time
-- and replica tell operations apart, a replica has all that it did, and each replica and packet has a prefix
-- of them. A number without a replica or packet counts as one that did nothing.
pub record HoldsFronts (past : List Done) (world : World) : Type 0 where
  pub timed : (one : Done) → Has past one → 0 < one.time
  pub placed : (one : Done) → Has past one → IsReplica world one.replica
  pub apart : (one other : Done) → Has past one → Has past other → one.replica ≡ other.replica → one.time ≡ other.time → one ≡ other
  pub own : (i : ℕ) (one : Done) → Has past one → one.replica ≡ i + 1 → Has (slice_index_or world.replicas i fresh).absorbed one
  pub replicas : (i : ℕ) → IsFront past (slice_index_or world.replicas i fresh)
  pub packets : (i : ℕ) → IsFront past (slice_index_or world.packets i fresh)

-- of this replica, the holder has exactly what was done up to a time
abbrev pub HasUpTo : List Done → Holder → ℕ → ℕ → Type 0
HasUpTo past holder origin time = (one : Done) → one.replica ≡ origin → Has holder.absorbed one ↔ (Has past one × (one.time ≤ time))
