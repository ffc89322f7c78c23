use Rattle.std.proofs.Common.{◌≡◌, ◌+◌, length, map}
use Rattle.kat_pseudocode.specs.Leaves.{table_words}
use Rattle.kat_shape.specs.Forms.{form_of}
use Rattle.kat_type.specs.Types.{operation_form}
use Rattle.kat_pseudocode.proofs.leaves.table_words.Given as goal

abbrev pub invariant-effects : goal.invariant-effects
invariant-effects l =
    (table_words (map operation_form l.ops) (form_of l.shape) l.op l.rest ≡ table_words (map operation_form l.ops) (form_of l.shape) 0 l.fn.effects) × (l.op + length l.rest ≡ length l.fn.effects)

abbrev pub decreases-effects : goal.decreases-effects
decreases-effects l = length l.rest
