-- Used inside only.
-- Used by kat_wire and inside only: the parts of a design are values that a file can have.
use Rattle.kat_design.specs.Designs.{ComponentForm, AskForm}
use Rattle.kat_design.specs.Designs.ComponentForm.{a_cell, a_table, a_set, a_tally, tallies}
use Rattle.kat_design.specs.Sorted.{EachHas, IsWritten}
use Rattle.kat_design.specs.Designs.AskForm.{leaf as a_leaf, parameter, constant, negation, both, either, less, sum, difference}

abbrev pub HasWrittenStarts : ComponentForm → Type 0
HasWrittenStarts (a_cell shape starts effects) = EachHas IsWritten starts
HasWrittenStarts (a_table key shape starts effects) = EachHas IsWritten starts
HasWrittenStarts (a_set key effects) = Unit {0}
HasWrittenStarts (a_tally effects) = Unit {0}
HasWrittenStarts (tallies key effects) = Unit {0}

abbrev pub HasWrittenConstants : AskForm → Type 0
HasWrittenConstants (a_leaf component place key) = Unit {0}
HasWrittenConstants (parameter place) = Unit {0}
HasWrittenConstants (constant v) = IsWritten v
HasWrittenConstants (negation a) = HasWrittenConstants a
HasWrittenConstants (both a b) = HasWrittenConstants a × HasWrittenConstants b
HasWrittenConstants (either a b) = HasWrittenConstants a × HasWrittenConstants b
HasWrittenConstants (less a b) = HasWrittenConstants a × HasWrittenConstants b
HasWrittenConstants (sum a b) = HasWrittenConstants a × HasWrittenConstants b
HasWrittenConstants (difference a b) = HasWrittenConstants a × HasWrittenConstants b
