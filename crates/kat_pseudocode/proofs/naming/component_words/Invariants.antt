use Rattle.std.proofs.Common.{◌≡◌, ◌++◌, length, map}
use Rattle.kat_design.specs.Designs.{component_form}
use Rattle.kat_pseudocode.specs.Naming.{component_words}
use Rattle.kat_type.specs.Types.{type_form}
use Rattle.kat_pseudocode.proofs.naming.component_words.Given as goal

abbrev pub invariant-components : goal.invariant-components
invariant-components l =
    l.words.items ++ component_words (type_form l.ty) l.relation (length l.words.items) (map component_form l.rest)
    ≡ component_words (type_form l.ty) l.relation 0 (map component_form l.fn.components)

abbrev pub decreases-components : goal.decreases-components
decreases-components l = length l.rest
