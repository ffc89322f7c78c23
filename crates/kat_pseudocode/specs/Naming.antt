-- The names of components: that of the field which a leaf is said to equal, or of the only operation that touches it, or what it is.
use Rattle.std.specs.Prelude.{ℕ, ◌+◌, ◌==◌, Bool, true, false, List, [], ◌∷◌, codes, Option, None, Some, slice_get, unwrap_or, if◌then◌else◌}
use Rattle.kat_num.specs.Names.{code_of}
use Rattle.kat_design.specs.Designs.{ComponentForm}
use Rattle.kat_design.specs.Designs.ComponentForm.{a_cell, a_table, a_set, a_tally, tallies}
use Rattle.kat_pseudocode.specs.Leaves.{distinct}
use Rattle.kat_relation.specs.declared.relations.Conjunct.{Conjunct}
use Rattle.kat_relation.specs.declared.relations.Conjunct.TheVariants.{Query, Equal, Bounded, AtLeast, Matched, Total}
use Rattle.kat_type.specs.Types.{OperationForm, TypeForm}
use Rattle.kat_type.specs.declared.types.Field.{Field}
use Rattle.kat_type.specs.declared.types.Field.TheVariants as field

-- the field that a conjunct says to equal a leaf of the component
abbrev pub equal_field : ℕ → Conjunct → Option ℕ
equal_field component (Query n) = None
equal_field component (Equal f leaf) = if leaf.component == component then Some f else None
equal_field component (Bounded leaves position) = None
equal_field component (AtLeast leaf position digit) = None
equal_field component (Matched first position second later digit) = None
equal_field component (Total n) = None

-- the first such field
abbrev pub first_of_two : Option ℕ → Option ℕ → Option ℕ
first_of_two None other = other
first_of_two (Some f) other = Some f

abbrev pub field_of : ℕ → List Conjunct → Option ℕ
field_of component [] = None
field_of component (c ∷ cs) = first_of_two (equal_field component c) (field_of component cs)

-- the name of a field by its number
abbrev pub name_of_field : Option Field → Option ℕ
name_of_field None = None
name_of_field (Some (field.Plain name sort start)) = Some name
name_of_field (Some (field.Keyed name key sort start)) = Some name

abbrev pub field_word : List Field → Option ℕ → Option ℕ
field_word fields None = None
field_word fields (Some place) = name_of_field (slice_get fields place)

-- an operation has an effect
abbrev pub acts : {E : Type 0} → List (Option E) → Bool
acts [] = false
acts (None ∷ effects) = acts effects
acts (Some effect ∷ effects) = true

-- the only operation from this number on that has an effect
abbrev pub only_acting : {E : Type 0} → ℕ → List (Option E) → Option ℕ
only_acting op [] = None
only_acting op (None ∷ effects) = only_acting (op + 1) effects
only_acting op (Some effect ∷ effects) = if acts effects then None else Some op

abbrev pub only_op : ComponentForm → Option ℕ
only_op (a_cell shape starts effects) = only_acting 0 effects
only_op (a_table key shape starts effects) = only_acting 0 effects
only_op (a_set key effects) = only_acting 0 effects
only_op (a_tally effects) = only_acting 0 effects
only_op (tallies key effects) = only_acting 0 effects

-- the name of an operation by its number
abbrev pub name_of_op : Option OperationForm → Option ℕ
name_of_op None = None
name_of_op (Some o) = Some o.name

abbrev pub op_word : List OperationForm → Option ℕ → Option ℕ
op_word ops None = None
op_word ops (Some place) = name_of_op (slice_get ops place)

-- what a component is
abbrev pub kind_word : ComponentForm → ℕ
kind_word (a_cell shape starts effects) = code_of (codes "cell")
kind_word (a_table key shape starts effects) = code_of (codes "table")
kind_word (a_set key effects) = code_of (codes "set")
kind_word (a_tally effects) = code_of (codes "sum")
kind_word (tallies key effects) = code_of (codes "sums")

-- the word of a component with this number
abbrev pub component_word : TypeForm → List Conjunct → ℕ → ComponentForm → ℕ
component_word ty relation place c =
    unwrap_or (field_word ty.fields (field_of place relation)) (unwrap_or (op_word ty.ops (only_op c)) (kind_word c))

abbrev pub component_words : TypeForm → List Conjunct → ℕ → List ComponentForm → List ℕ
component_words ty relation place [] = []
component_words ty relation place (c ∷ cs) = component_word ty relation place c ∷ component_words ty relation (place + 1) cs

-- the names of all components, which are all different
abbrev pub component_names : TypeForm → List Conjunct → List ComponentForm → List (List ℕ)
component_names ty relation components = distinct (component_words ty relation 0 components)
