-- Used inside only.
-- Used by kat_node: what a part needs to begin.
use Rattle.std.specs.Prelude.{◌≡◌, map}
use Rattle.kat_shape.specs.Forms.{IsGoodForm, leaf_kind_of, leaf_kinds_of}
use Rattle.kat_design.specs.Denotations.{part_of}
use Rattle.kat_design.specs.Designs.{ComponentForm}
use Rattle.kat_design.specs.Designs.ComponentForm.{a_cell, a_table, a_set, a_tally, tallies}

-- a cell of the shape may have these starts
abbrev pub HasStarts : ComponentForm → Type 0
HasStarts (a_cell shape starts effects) = IsGoodForm shape × (map leaf_kind_of starts ≡ leaf_kinds_of shape)
HasStarts (a_table key shape starts effects) = IsGoodForm shape × (map leaf_kind_of starts ≡ leaf_kinds_of shape)
HasStarts (a_set key effects) = Unit {0}
HasStarts (a_tally effects) = Unit {0}
HasStarts (tallies key effects) = Unit {0}
