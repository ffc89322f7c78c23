-- Used inside only.
-- The clocks while the lines of commands are made.
use Rattle.std.specs.Prelude.{ℕ, ◌+◌, ◌-◌, List, max, map, slice_set}
use Rattle.std.specs.List.{slice_index_or}
use Rattle.kat_sample.specs.declared.clocks.Clocks.{Clocks}
use Rattle.kat_sample.specs.declared.commands.Command.{Command}
use Rattle.kat_sample.specs.declared.commands.Command.TheVariants.{Add, Ship, Deliver, Ask}
use Rattle.kat_script.specs.World.{Holder, World, put}

-- the clocks of all replicas, and of the packets by the number of their word
pub record Times : Type 0 where
  pub replicas : List ℕ
  pub packets : List ℕ

abbrev pub kept : Clocks → Times
kept clocks = record { replicas = clocks.replicas.items; packets = clocks.packets.items }

abbrev pub times_of : World → Times
times_of world = record {
  replicas = map (λ (holder : Holder). holder.clock) world.replicas;
  packets = map (λ (holder : Holder). holder.clock) world.packets;
}

-- replicas are numbered from 1
abbrev pub clock_at : Times → ℕ → ℕ
clock_at t r = slice_index_or t.replicas (r - 1) 0

-- the clocks after a command
abbrev pub times_after : Times → Command → Times
times_after t (Add r thing amount) = record t { replicas = slice_set t.replicas (r - 1) (clock_at t r + 1) }
times_after t (Ship r) = record t { packets = put t.packets (r - 1) (clock_at t r) }
times_after t (Deliver sender r) = record t { replicas = slice_set t.replicas (r - 1) (max (clock_at t r) (slice_index_or t.packets (sender - 1) 0)) }
times_after t (Ask r thing) = t
