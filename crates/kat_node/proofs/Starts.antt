-- Components of a well-sorted design have starts.
use Rattle.std.proofs.Common.{List, [], ◌∷◌}
use Rattle.kat_type.specs.declared.signatures.OpSig.{OpSig}
use Rattle.kat_design.specs.Designs.{ComponentForm}
use Rattle.kat_design.specs.Designs.ComponentForm.{a_cell, a_table, a_set, a_tally, tallies}
use Rattle.kat_design.specs.Sorted.{EachHas, IsComponent}
use Rattle.kat_design.proofs.SmallDesigns.{starts_fit}
use Rattle.kat_replica.specs.Starting.{HasStarts}

pub component_starts : (ops : List OpSig) (component : ComponentForm) → IsComponent ops component → HasStarts component
component_starts ops (a_cell shape starts effects) is = (is.0, starts_fit shape starts is.1)
component_starts ops (a_table key shape starts effects) is = (is.1, starts_fit shape starts is.2)
component_starts ops (a_set key effects) is = tt
component_starts ops (a_tally effects) is = tt
component_starts ops (tallies key effects) is = tt

pub each_start : (ops : List OpSig) (components : List ComponentForm) → EachHas (IsComponent ops) components → EachHas HasStarts components
each_start ops [] each = tt
each_start ops (component ∷ components) each = (component_starts ops component each.0, each_start ops components each.1)
