use Rattle.std.proofs.Common.{◌≡◌, take, map}
use Rattle.kat_type.specs.Types.{assigned_by}
use Rattle.kat_embed.proofs.copies.copied_assigns.Given as goal

abbrev pub invariant-loop-assign : goal.invariant-loop-assign
invariant-loop-assign l = map assigned_by l.copies.items ≡ map assigned_by (take l.assign-index l.assigns)
