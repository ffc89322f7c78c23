use Rattle.std.proofs.Common.{◌≡◌}
use Rattle.std.specs.Prelude.{replicate}
use Rattle.kat_design.specs.Designs.{design_form}
use Rattle.kat_script.specs.World.{fresh}
use Rattle.kat_world.specs.Kept.{kept_replica}
use Rattle.kat_world.proofs.running.Running.new.Given as goal

abbrev pub invariant-loop : goal.invariant-loop
invariant-loop l = l.fresh.items ≡ replicate l.counter (kept_replica (design_form l.design) fresh)
