-- Used inside only.
-- The states that are kept from one ask to the next.
use Rattle.std.specs.Prelude.{◌≡◌, All, List, Option}
use Rattle.std.specs.Option.{IfSome}
use Rattle.kat_seq.specs.States.{started, stepped_by}
use Rattle.kat_type.specs.Types.{TypeForm}
use Rattle.kat_type.specs.declared.done.Done.{Done}
use Rattle.kat_world.specs.Tracked.{known_of}
use Rattle.kat_world.specs.declared.checkpoints.Checkpoint.{Checkpoint}

-- a checkpoint has the state after the operations that are known at its times
abbrev pub IsReached : TypeForm → List Done → Checkpoint → Type 0
IsReached ty order point = point.state.items ≡ stepped_by ty (started ty) (known_of point.latest order)

-- each replica that was asked has a checkpoint
abbrev pub AreReached : TypeForm → List Done → List (Option Checkpoint) → Type 0
AreReached ty order points = All (λ (point : Option Checkpoint). IfSome point (IsReached ty order)) points
