-- Used inside only.
-- The times that the code keeps.
use Rattle.kat_world.specs.Tracked.{Times}
use Rattle.kat_world.specs.declared.times.Holders.{Holders}

abbrev pub seen : Holders → Times
seen holders = record { replicas = holders.replicas.items; packets = holders.packets.items }
