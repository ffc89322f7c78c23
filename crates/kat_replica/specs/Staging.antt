-- Used inside only.
-- What a part takes before another is joined to it.
use Rattle.std.specs.Prelude.{◌≡◌}
use Rattle.kat_num.specs.Orders.{value_order}
use Rattle.kat_lattice.specs.InPlace.{IsReady}
use Rattle.kat_lattice.specs.Maps.{maps_joined}
use Rattle.kat_lattice.specs.Sets.{sets_joined}
use Rattle.kat_lattice.specs.Staging.{after}
use Rattle.kat_lattice.specs.Tallies.{tallies_joined}
use Rattle.kat_design.specs.declared.states.Part.{Part}
use Rattle.kat_design.specs.declared.states.Part.TheVariants as part
use Rattle.kat_replica.specs.declared.staged.StagedPart.{StagedPart}
use Rattle.kat_replica.specs.declared.staged.StagedPart.TheVariants as staged

-- what was staged is what joining b to a needs
abbrev pub IsStaged : StagedPart → Part → Part → Type 0
IsStaged staged.Cell (part.Cell a) (part.Cell b) = Unit {0}
IsStaged (staged.Table room) (part.Table a) (part.Table b) = IsReady value_order room a.entries b.entries
IsStaged (staged.Set next) (part.Set a) (part.Set b) = after a next ≡ sets_joined value_order a b
IsStaged (staged.Tally next) (part.Tally a) (part.Tally b) = after a next ≡ tallies_joined a b
IsStaged (staged.Tallies next) (part.Tallies a) (part.Tallies b) = after a next ≡ maps_joined value_order tallies_joined a b
IsStaged _ _ _ = ⊥
