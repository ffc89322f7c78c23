-- Used inside only.
-- Lines as they are held.
use Rattle.std.specs.Prelude.{◌↔◌, ℕ, List}
use Rattle.kat_design.specs.Designs.{DesignForm}
use Rattle.kat_relation.specs.declared.relations.Conjunct.{Conjunct}
use Rattle.kat_said.specs.Sayings.{IsHeldSaid, SaidForm}
use Rattle.kat_type.specs.Types.{TypeForm}
use Rattle.kat_block.specs.Blocks.{IsDueIn, IsWideIn}

-- what a line says is due, and has a point that is too wide, if and only if it is so of what it is held as
abbrev pub HeldLinesAreAlike : Type 0
HeldLinesAreAlike = (ty : TypeForm) (d : DesignForm) (candidates : List Conjunct) (effort : ℕ) (dropped : List ℕ) (said held : SaidForm) → IsHeldSaid said held
    → (IsWideIn ty d candidates dropped said ↔ IsWideIn ty d candidates dropped held) × (IsDueIn ty d candidates effort dropped said ↔ IsDueIn ty d candidates effort dropped held)
