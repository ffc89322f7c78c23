-- Used inside only.
-- How the leaves of a change are read.
use Rattle.kat_design.specs.Designs.{design_form}
use Rattle.kat_design.specs.declared.designs.Leaf.{Leaf}
use Rattle.kat_type.specs.Types.{type_form}
use Rattle.std.specs.Prelude.{List}
use Rattle.kat_claims.specs.Effects.{Leaves, effect_at, leaves_of}
use Rattle.kat_claims.specs.States.{old_side}
use Rattle.kat_claims.specs.declared.effects.Change.{Change}

-- before the operation, and what it gives
abbrev pub old_of : Change → Leaves
old_of change = leaves_of (old_side (type_form change.old.ty.now) (design_form change.old.design.now)) change.component change.at

abbrev pub effects_of : Change → List Leaf → Leaves
effects_of change gifts = effect_at change.params.now change.component gifts
