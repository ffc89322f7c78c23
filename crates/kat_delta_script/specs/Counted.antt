-- Used inside only.
-- What a reader keeps of counts, and what it stands for.
use Rattle.std.specs.Prelude.{◌≡◌, ℕ, ◌+◌, ◌-◌, ◌≤◌, max, List, [], ◌∷◌, length, map, replicate, slice_set, Option, None, Some}
use Rattle.std.specs.List.{slice_index_or}
use Rattle.kat_type.specs.Lists.{Has}
use Rattle.kat_type.specs.declared.done.Done.{Done}
use Rattle.kat_script.specs.Facts.{HoldsFronts}
use Rattle.kat_script.specs.World.{Holder, put}
use Rattle.kat_script.specs.declared.script.Line.TheVariants.{Do, Ship, Deliver, Ask, Show}
use Rattle.kat_delta.specs.Standing.{AreCounts, count_at}
use Rattle.kat_delta.specs.Worlds.{DeltaWorld, Made, first_delta_world}
use Rattle.kat_delta.specs.declared.script.DeltaLine.{DeltaLine}
use Rattle.kat_delta.specs.declared.script.DeltaLine.TheVariants.{Plain, Delta}
use Rattle.kat_delta_script.specs.declared.counts.Parcel.{Parcel}
use Rattle.kat_delta_script.specs.declared.counts.Parcel.TheVariants.{Whole, Own}
use Rattle.kat_delta_script.specs.declared.counts.Tally.{Tally}

-- the counts of each replica, and the packets
pub record Counted : Type 0 where
  pub replicas : List (List ℕ)
  pub packets : List Parcel

abbrev pub counted : Tally → Counted
counted tally = record { replicas = tally.replicas.items; packets = tally.packets.items }

-- the counts of so many replicas that did nothing
abbrev pub no_counts : ℕ → List (List ℕ)
no_counts n = replicate n (replicate n 0)

abbrev pub counts_of : List (List ℕ) → ℕ → List ℕ
counts_of rows r = slice_index_or rows (r - 1) []

abbrev pub parcel_at : List Parcel → ℕ → Parcel
parcel_at packets p = slice_index_or packets p (Whole [])

abbrev pub made_of : Parcel → Option Made
made_of (Whole counts) = None
made_of (Own origin from to) = Some (record { origin = origin; from = from })

-- the greater counts
abbrev pub raised_each : List ℕ → List ℕ → List ℕ
raised_each [] others = []
raised_each (count ∷ counts) [] = count ∷ counts
raised_each (count ∷ counts) (other ∷ others) = max count other ∷ raised_each counts others

abbrev pub with_own : List ℕ → ℕ → ℕ → List ℕ
with_own counts r v = slice_set counts (r - 1) v

abbrev pub raised_by : List ℕ → Parcel → List ℕ
raised_by counts (Whole others) = raised_each counts others
raised_by counts (Own origin from to) = with_own counts origin (max (count_at counts origin) to)

-- what a line makes of them
abbrev pub counted_after : Counted → DeltaLine → Counted
counted_after k (Plain (Do done)) = record k {
  replicas = slice_set k.replicas (done.replica - 1)
      (with_own (counts_of k.replicas done.replica) done.replica (count_at (counts_of k.replicas done.replica) done.replica + 1));
}
counted_after k (Plain (Ship r p)) = record k { packets = put k.packets p (Whole (counts_of k.replicas r)) }
counted_after k (Plain (Deliver p r)) = record k { replicas = slice_set k.replicas (r - 1) (raised_by (counts_of k.replicas r) (parcel_at k.packets p)) }
counted_after k (Plain (Ask r query args)) = k
counted_after k (Plain (Show r)) = k
counted_after k (Delta r p from) = record k { packets = put k.packets p (Own r from (count_at (counts_of k.replicas r) r)) }

-- or, if it says how many replicas there are, these
abbrev pub counted_with : Counted → ℕ → Option DeltaLine → Counted
counted_with k n None = record k { replicas = no_counts n }
counted_with k n (Some line) = counted_after k line

-- each element of the one list goes with the one beside it
abbrev pub AreBeside : {X Y : Type 0} → (X → Y → Type 0) → List X → List Y → Type 0
AreBeside R [] [] = Unit {0}
AreBeside R (x ∷ xs) (y ∷ ys) = R x y × AreBeside R xs ys
AreBeside R xs ys = ⊥

-- the counts of this many replicas are those of what a replica absorbed
abbrev pub RowCounts : ℕ → List ℕ → Holder → Type 0
RowCounts many counts holder = AreCounts counts holder.absorbed × (length counts ≡ many)

-- the packet's counts are those of what it carries, or it carries this many operations of its origin
abbrev pub ParcelCounts : ℕ → Parcel → Holder → Type 0
ParcelCounts many (Whole counts) holder = RowCounts many counts holder
ParcelCounts many (Own origin from to) holder = (1 ≤ origin) × (origin ≤ many) × ((one : Done) → Has holder.absorbed one → one.replica ≡ origin) × (to ≡ length holder.absorbed)

-- the counts are those of this world after this many lines, given that each replica and packet holds a prefix of what was done before
pub record Counts (k : Counted) (lines : ℕ) (w : DeltaWorld) : Type 0 where
  pub past : List Done
  pub facts : HoldsFronts past w.world
  pub first : lines ≡ 0 → w ≡ first_delta_world 0
  pub many : ℕ
  pub some : length w.world.replicas ≡ many
  pub replicas : AreBeside (RowCounts many) k.replicas w.world.replicas
  pub packets : AreBeside (ParcelCounts many) k.packets w.world.packets
  pub made : map made_of k.packets ≡ w.made
