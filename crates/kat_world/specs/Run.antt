-- Used inside only.
-- The replicas and packets that the code keeps.
use Rattle.kat_world.specs.Kept.{Keeps}
use Rattle.kat_world.specs.declared.running.Running.{Running}

abbrev pub kept : Running → Keeps
kept running = record { replicas = running.replicas.items; packets = running.packets.items }
