-- What conjuncts speak of: fields, queries and leaves, and the keys at which a conjunct says its claim.
use Rattle.std.specs.Prelude.{ℕ, List, [], ◌∷◌, Option, None, Some, slice_get}
use Rattle.kat_num.specs.declared.values.Sort.{Sort}
use Rattle.kat_design.specs.Designs.{ComponentForm}
use Rattle.kat_design.specs.Kinds.{key_sort}
use Rattle.kat_type.specs.Types.{QueryForm, TypeForm}
use Rattle.kat_type.specs.declared.types.Field.{Field}
use Rattle.kat_type.specs.declared.types.Field.TheVariants as field
use Rattle.kat_type.specs.declared.types.Param.{Param}
use Rattle.kat_relation.specs.declared.relations.Conjunct.{Conjunct}
use Rattle.kat_relation.specs.declared.relations.Conjunct.TheVariants.{Query, Equal, Bounded, AtLeast, Matched, Total}
use Rattle.kat_relation.specs.declared.relations.LeafRef.{LeafRef}

-- the sort of a field's keys, if it is a table
abbrev pub field_key : Option Field → Option Sort
field_key None = None
field_key (Some (field.Plain name s start)) = None
field_key (Some (field.Keyed name key s start)) = Some key

-- the sort of a component's keys, if it has keys
abbrev pub component_key : Option ComponentForm → Option Sort
component_key None = None
component_key (Some component) = key_sort component

-- the sort of the first parameter, if there is one
abbrev pub first_sort : List Param → Option Sort
first_sort [] = None
first_sort (p ∷ ps) = Some p.sort

abbrev pub query_key : Option QueryForm → Option Sort
query_key None = None
query_key (Some query) = first_sort query.params

-- the keys of the component of the first leaf
abbrev pub leaves_key : List ComponentForm → List LeafRef → Option Sort
leaves_key components [] = None
leaves_key components (ref ∷ refs) = component_key (slice_get components ref.component)

-- The sort of the keys at which a conjunct says its claim, if it is one on what is kept by key: of its query's parameter,
-- its table, or the component of its leaves.
abbrev pub conjunct_key : TypeForm → List ComponentForm → Conjunct → Option Sort
conjunct_key ty components (Query query) = query_key (slice_get ty.queries query)
conjunct_key ty components (Equal f leaf) = field_key (slice_get ty.fields f)
conjunct_key ty components (Bounded leaves position) = leaves_key components leaves
conjunct_key ty components (AtLeast leaf position digit) = component_key (slice_get components leaf.component)
conjunct_key ty components (Matched first position second later digit) = component_key (slice_get components first.component)
conjunct_key ty components (Total component) = component_key (slice_get components component)
