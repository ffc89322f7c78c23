-- The laws of designs, for the order of values.
use Rattle.std.proofs.Common.{rules}
use Rattle.kat_num.specs.Orders.{value_order}
use Rattle.kat_num.specs.contracts.values.ValueOrd.TheImpl.Laws.{total-law}
use Rattle.kat_lattice.specs.Sets.{TellsApart}
use Rattle.kat_design.specs.Designs.{DesignForm}
use Rattle.kat_design.specs.Small.{IsSmallDesign}
use Rattle.kat_design.specs.Sorted.{IsWellSorted}
use Rattle.kat_design.proofs.Converse.{no_faults}
use Rattle.kat_design.proofs.SmallDesigns.{small_design as small_accepted}
use Rattle.kat_design.proofs.SmallStates.{roomy_state, small_state}
use Rattle.kat_design.proofs.WholeDesigns.{designs_mean}
use Rattle.kat_world.proofs.Keeping.{Lawful}

pub small_design : (d : DesignForm) → IsWellSorted d → IsSmallDesign d
small_design d sorted = small_accepted d (no_faults d sorted)

-- values that compare equal are one
tells_apart : TellsApart value_order
tells_apart = search rules

pub lawful : (d : DesignForm) → IsWellSorted d → Lawful d
lawful d sorted = record {
  means = designs_mean total-law tells_apart d sorted;
  small = λ ones fit few. small_state d.sig d.components ones sorted.components few fit;
  roomy = λ ones fit few. roomy_state d.sig d.components ones few fit;
}
