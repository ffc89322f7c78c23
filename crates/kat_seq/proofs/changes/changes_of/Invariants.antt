use Rattle.std.proofs.Common.{◌≡◌, take}
use Rattle.std.specs.Prelude.{map}
use Rattle.kat_seq.specs.States.{change_of}
use Rattle.kat_type.specs.Types.{assigned_by}
use Rattle.kat_seq.proofs.changes.changes_of.Given as goal

abbrev pub invariant-loop-assign : goal.invariant-loop-assign
invariant-loop-assign l = l.changes.items ≡ map (change_of l.state l.args) (map assigned_by (take l.assign-index l.assigns))
