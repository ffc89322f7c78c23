-- Which conjuncts a type and a design have.
use Rattle.std.specs.Prelude.{◌≡◌, ℕ, nat_eq, nat_lt, nat_le, Bool, true, false, not, ◌&&◌, List, [], ◌∷◌, drop, map, Option, None, Some, option_map, slice_get}
use Rattle.std.specs.List.{list_all, list_any}
use Rattle.std.specs.Option.{option_flatten}
use Rattle.kat_num.specs.declared.values.Sort.{Sort}
use Rattle.kat_num.specs.declared.values.Sort.TheVariants as sort
use Rattle.kat_design.specs.Designs.{ComponentForm}
use Rattle.kat_design.specs.Designs.ComponentForm.{a_cell, a_table, a_set, a_tally, tallies}
use Rattle.kat_design.specs.Faults.{is_sort}
use Rattle.kat_design.specs.Kinds.{is_kind, leaf_kind, sort_kind}
use Rattle.kat_design.specs.declared.kinds.Kind.{Kind}
use Rattle.kat_design.specs.declared.kinds.Kind.TheVariants as kind
use Rattle.kat_type.specs.Types.{OperationForm, QueryForm, TypeForm}
use Rattle.kat_type.specs.declared.types.Field.{Field}
use Rattle.kat_type.specs.declared.types.Field.TheVariants as field
use Rattle.kat_type.specs.declared.types.Param.{Param}
use Rattle.kat_type.specs.declared.types.Rank.{Rank}
use Rattle.kat_type.specs.declared.types.Rank.TheVariants as rank
use Rattle.kat_relation.specs.declared.relations.Conjunct.{Conjunct}
use Rattle.kat_relation.specs.declared.relations.Conjunct.TheVariants.{Query, Equal, Bounded, AtLeast, Matched, Total}
use Rattle.kat_relation.specs.declared.relations.LeafRef.{LeafRef}
use Rattle.kat_relation.specs.Keys.{component_key, field_key}

-- the kind of a rank's element: digits, times and replicas are numbers, an argument has the kind of its sort
abbrev pub parameter_kind : Option Param → Option Kind
parameter_kind None = None
parameter_kind (Some p) = Some (sort_kind p.sort)

abbrev pub element_kind : List Param → Rank → Option Kind
element_kind params (rank.Digit n) = Some kind.Number
element_kind params rank.Time = Some kind.Number
element_kind params rank.Replica = Some kind.Number
element_kind params (rank.Arg place) = parameter_kind (slice_get params place)

-- the kinds of the elements of ranks, which are the same for all operations of a type: those of the first one
abbrev pub rank_kinds : List OperationForm → List (Option Kind)
rank_kinds [] = []
rank_kinds (o ∷ os) = map (element_kind o.params) o.ranks

-- the kind of the element at a position
abbrev pub position_kind : TypeForm → ℕ → Option Kind
position_kind ty position = option_flatten (slice_get (rank_kinds ty.ops) position)

abbrev pub ref_kind : List ComponentForm → LeafRef → Option Kind
ref_kind components ref = leaf_kind (slice_get components ref.component) ref.leaf

-- both are there and are the same kind
abbrev pub same_kind : Option Kind → Option Kind → Bool
same_kind None b = false
same_kind (Some a) None = false
same_kind (Some a) (Some b) = is_kind a b

-- both have no keys, or keys of the same sort
abbrev pub same_keys : Option Sort → Option Sort → Bool
same_keys None None = true
same_keys None (Some b) = false
same_keys (Some a) None = false
same_keys (Some a) (Some b) = is_sort a b

-- a query without a parameter, or with one number or name
abbrev pub is_key : Sort → Bool
is_key sort.Bool = false
is_key sort.Int = true
is_key sort.Nat = true
is_key sort.Name = true

abbrev pub has_key_at_most : List Param → Bool
has_key_at_most [] = true
has_key_at_most (p ∷ []) = is_key p.sort
has_key_at_most (p ∷ q ∷ ps) = false

abbrev pub query_fits : Option QueryForm → Bool
query_fits None = false
query_fits (Some query) = has_key_at_most query.params

abbrev pub field_kind : Option Field → Option Kind
field_kind None = None
field_kind (Some (field.Plain name s start)) = Some (sort_kind s)
field_kind (Some (field.Keyed name key s start)) = Some (sort_kind s)

-- a cell, a table or a set, whose leaves only rise
abbrev pub has_rising_leaves : Option ComponentForm → Bool
has_rising_leaves None = false
has_rising_leaves (Some (a_cell shape starts effects)) = true
has_rising_leaves (Some (a_table key shape starts effects)) = true
has_rising_leaves (Some (a_set key effects)) = true
has_rising_leaves (Some (a_tally effects)) = false
has_rising_leaves (Some (tallies key effects)) = false

abbrev pub has_sums : Option ComponentForm → Bool
has_sums None = false
has_sums (Some (a_cell shape starts effects)) = false
has_sums (Some (a_table key shape starts effects)) = false
has_sums (Some (a_set key effects)) = false
has_sums (Some (a_tally effects)) = true
has_sums (Some (tallies key effects)) = true

-- a truth value reads as the number 0 or 1
abbrev pub as_ranked : Kind → Kind
as_ranked kind.Number = kind.Number
as_ranked kind.Name = kind.Name
as_ranked kind.Truth = kind.Number

-- each leaf has the kind of the element at its position; there are no more leaves than elements
abbrev pub match_elements : List ComponentForm → List LeafRef → List (Option Kind) → Bool
match_elements components [] kinds = true
match_elements components (ref ∷ refs) [] = false
match_elements components (ref ∷ refs) (k ∷ ks) = same_kind (option_map as_ranked (ref_kind components ref)) k && match_elements components refs ks

-- all are leaves of this component
abbrev pub are_of : ℕ → List LeafRef → Bool
are_of component refs = list_all (λ (ref : LeafRef). nat_eq ref.component component) refs

-- no leaf occurs twice
abbrev pub has_leaf : ℕ → List LeafRef → Bool
has_leaf leaf refs = list_any (λ (ref : LeafRef). nat_eq ref.leaf leaf) refs

abbrev pub are_apart : List LeafRef → Bool
are_apart [] = true
are_apart (ref ∷ refs) = not (has_leaf ref.leaf refs) && are_apart refs

-- There is at least one leaf; all are different leaves of one component that is a cell, a table or a set, with the kinds of
-- the rank's elements from the position on.
abbrev pub bounded_fits : TypeForm → List ComponentForm → List LeafRef → ℕ → Bool
bounded_fits ty components [] position = false
bounded_fits ty components (ref ∷ refs) position =
    has_rising_leaves (slice_get components ref.component) && are_of ref.component refs && are_apart (ref ∷ refs)
    && match_elements components (ref ∷ refs) (drop position (rank_kinds ty.ops))

-- a number or a name
abbrev pub is_ordered : Option Kind → Bool
is_ordered None = false
is_ordered (Some kind.Number) = true
is_ordered (Some kind.Name) = true
is_ordered (Some kind.Truth) = false

-- the element at the position is a number, which is compared with a digit
abbrev pub digit_fits : TypeForm → ℕ → ℕ → Bool
digit_fits ty position digit = same_kind (position_kind ty position) (Some kind.Number) && nat_le digit 9

-- The conjunct speaks of what the type and the components have, and compares like with like.
abbrev pub conjunct_fits : TypeForm → List ComponentForm → Conjunct → Bool
conjunct_fits ty components (Query query) = query_fits (slice_get ty.queries query)
conjunct_fits ty components (Equal f leaf) =
    same_kind (field_kind (slice_get ty.fields f)) (ref_kind components leaf)
    && same_keys (field_key (slice_get ty.fields f)) (component_key (slice_get components leaf.component))
conjunct_fits ty components (Bounded leaves position) = bounded_fits ty components leaves position
conjunct_fits ty components (AtLeast leaf position digit) = same_kind (ref_kind components leaf) (Some kind.Truth) && digit_fits ty position digit
conjunct_fits ty components (Matched first position second later digit) =
    is_ordered (ref_kind components first) && same_kind (ref_kind components first) (position_kind ty position)
    && same_kind (ref_kind components second) (Some kind.Truth) && nat_eq first.component second.component
    && nat_lt position later && digit_fits ty later digit
conjunct_fits ty components (Total component) = has_sums (slice_get components component)

abbrev pub FitsConjunct : TypeForm → List ComponentForm → Conjunct → Type 0
FitsConjunct ty components conjunct = conjunct_fits ty components conjunct ≡ true
