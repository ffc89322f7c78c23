-- Used inside only.
-- Used by kat_decoding and inside only: which tokens may come at a place, in their order.
use Rattle.std.specs.Prelude.{ℕ, suc, Bool, true, false, List, [], ◌∷◌, ◌++◌, map, length, filter, Option, None, Some, is_some, slice_get}
use Rattle.std.specs.List.{range_with_len}
use Rattle.kat_num.specs.declared.values.Sort.{Sort}
use Rattle.kat_design.specs.Designs.{ComponentForm}
use Rattle.kat_design.specs.Designs.ComponentForm.{a_cell, a_table, a_set, a_tally, tallies}
use Rattle.kat_design.specs.Faults.{gives_kind, has_sort, is_weight}
use Rattle.kat_design.specs.Kinds.{is_wanted, kinds_of, sort_kind}
use Rattle.kat_design.specs.declared.designs.Leaf.{Leaf}
use Rattle.kat_design.specs.declared.designs.Leaf.TheVariants as given
use Rattle.kat_design.specs.declared.kinds.Kind.{Kind}
use Rattle.kat_design.specs.declared.kinds.Kind.TheVariants as kind
use Rattle.kat_design.specs.declared.kinds.Wanted.{Wanted}
use Rattle.kat_design.specs.declared.kinds.Wanted.TheVariants.{Exactly, Ordered}
use Rattle.kat_type.specs.declared.signatures.OpSig.{OpSig}
use Rattle.kat_type.specs.declared.signatures.QuerySig.{QuerySig}
use Rattle.kat_rules.specs.declared.constants.Constants.{Constants}
use Rattle.kat_machine.specs.declared.modes.Row.{Row}
use Rattle.kat_machine.specs.declared.modes.Want.{Want}
use Rattle.kat_machine.specs.declared.modes.Want.TheVariants as want
use Rattle.kat_rules.specs.declared.tokens.Token.{Token}
use Rattle.kat_rules.specs.declared.tokens.Token.TheVariants as token

-- an operation and a query have at most four parameters
abbrev pub param_places : List ℕ
param_places = 0 ∷ 1 ∷ 2 ∷ 3 ∷ []

-- the parameters of exactly this sort
abbrev pub places_of : Sort → List Sort → List ℕ
places_of s sorts = filter (λ (place : ℕ). has_sort s (slice_get sorts place)) param_places

-- all that an operation may give
abbrev pub all_leaves : List Leaf
all_leaves =
    given.Arg 0 ∷ given.Arg 1 ∷ given.Arg 2 ∷ given.Arg 3 ∷ given.Time ∷ given.Replica ∷ given.Zero ∷ given.One
    ∷ given.Pos 0 ∷ given.Pos 1 ∷ given.Pos 2 ∷ given.Pos 3 ∷ given.Neg 0 ∷ given.Neg 1 ∷ given.Neg 2 ∷ given.Neg 3 ∷ given.False ∷ given.True ∷ []

-- a parameter that is put into a set
abbrev pub member : ℕ → Token
member place = token.Effect (given.Arg place)

-- the choices for one part of an effect
abbrev pub choices_for : List Sort → Want → List Token
choices_for sorts (want.Key s) = map token.At (places_of s sorts)
choices_for sorts (want.Member s) = map member (places_of s sorts)
choices_for sorts (want.Leaf k) = map token.Effect (filter (λ (l : Leaf). gives_kind sorts l k) all_leaves)
choices_for sorts want.Weight = map token.Effect (filter (is_weight sorts) all_leaves)

-- what a component keeps
abbrev pub keyed_wants : Option Sort → List Kind → List Want
keyed_wants None kinds = map want.Leaf kinds
keyed_wants (Some s) kinds = want.Key s ∷ map want.Leaf kinds

-- one part of an effect, after another if there is one
abbrev pub before_last : Option Want → Want → List Want
before_last None last = last ∷ []
before_last (Some first) last = first ∷ last ∷ []

abbrev pub shaped_row : Option Sort → List Kind → Row
shaped_row key kinds = record { key = key; kinds = kinds; wants = keyed_wants key kinds }

abbrev pub set_row : Sort → Row
set_row s = record { key = Some s; kinds = kind.Truth ∷ []; wants = want.Member s ∷ [] }

abbrev pub tally_row : Row
tally_row = record { key = None; kinds = kind.Number ∷ []; wants = want.Weight ∷ [] }

abbrev pub tallies_row : Sort → Row
tallies_row s = record { key = Some s; kinds = kind.Number ∷ []; wants = want.Key s ∷ want.Weight ∷ [] }

abbrev pub row_of : ComponentForm → Row
row_of (a_cell shape starts effects) = shaped_row None (kinds_of shape)
row_of (a_table key shape starts effects) = shaped_row (Some key) (kinds_of shape)
row_of (a_set key effects) = set_row key
row_of (a_tally effects) = tally_row
row_of (tallies key effects) = tallies_row key

-- the atoms of an ask, each with its kind: leaves of components, parameters, and constants
abbrev pub keyed : ℕ → Option ℕ
keyed place = Some place

abbrev pub key_choices : List Sort → Option Sort → List (Option ℕ)
key_choices sorts None = None ∷ []
key_choices sorts (Some s) = map keyed (places_of s sorts)

abbrev pub read_atom : ℕ → ℕ → Kind → Option ℕ → Token × Kind
read_atom component place k key = (token.Read component place key, k)

abbrev pub leaf_atoms : List (Option ℕ) → ℕ → ℕ → List Kind → List (Token × Kind)
leaf_atoms keys component place [] = []
leaf_atoms keys component place (k ∷ kinds) = map (read_atom component place k) keys ++ leaf_atoms keys component (suc place) kinds

abbrev pub row_atoms : List Sort → ℕ → List Row → List (Token × Kind)
row_atoms sorts component [] = []
row_atoms sorts component (row ∷ rows) = leaf_atoms (key_choices sorts row.key) component 0 row.kinds ++ row_atoms sorts (suc component) rows

abbrev pub argument_kind : Option Sort → Kind
argument_kind None = kind.Number
argument_kind (Some s) = sort_kind s

abbrev pub argument_atoms : List Sort → List (Token × Kind)
argument_atoms sorts = map (λ (place : ℕ). (token.Arg place, argument_kind (slice_get sorts place))) (filter (λ (place : ℕ). is_some (slice_get sorts place)) param_places)

abbrev pub number_atom : ℕ → Token × Kind
number_atom place = (token.NumberConstant place, kind.Number)

abbrev pub name_atom : ℕ → Token × Kind
name_atom place = (token.NameConstant place, kind.Name)

abbrev pub constant_atoms : Constants → List (Token × Kind)
constant_atoms cs =
    map number_atom (range_with_len 0 (length cs.numbers))
    ++ (map name_atom (range_with_len 0 (length cs.names)) ++ (token.Truth false, kind.Truth) ∷ (token.Truth true, kind.Truth) ∷ [])

abbrev pub atoms : Constants → List Sort → List Row → List (Token × Kind)
atoms cs sorts rows = row_atoms sorts 0 rows ++ (argument_atoms sorts ++ constant_atoms cs)

-- the operators whose value is wanted
abbrev pub operators : Wanted → List Token
operators (Exactly kind.Truth) = token.Not ∷ token.And ∷ token.Either ∷ token.Less ∷ []
operators (Exactly kind.Number) = token.Plus ∷ token.Minus ∷ []
operators (Exactly kind.Name) = []
operators Ordered = token.Plus ∷ token.Minus ∷ []

-- the atoms of what is wanted
abbrev pub atom_token : Token × Kind → Token
atom_token a = a.0

abbrev pub is_fit : Wanted → Token × Kind → Bool
is_fit wanted a = is_wanted wanted a.1

-- what an ask of a query may begin with
abbrev pub ask_choices : Constants → List Sort → List Row → Wanted → List Token
ask_choices cs sorts rows wanted = map atom_token (filter (is_fit wanted) (atoms cs sorts rows)) ++ operators wanted

-- the kind of what a token begins
abbrev pub known_kind : Option Kind → Kind
known_kind None = kind.Number
known_kind (Some k) = k

abbrev pub kind_at : Option Row → ℕ → Kind
kind_at None place = kind.Number
kind_at (Some row) place = known_kind (slice_get row.kinds place)

abbrev pub token_kind : List Sort → List Row → Token → Kind
token_kind sorts rows (token.Read component place key) = kind_at (slice_get rows component) place
token_kind sorts rows (token.Arg place) = argument_kind (slice_get sorts place)
token_kind sorts rows (token.NameConstant place) = kind.Name
token_kind sorts rows _ = kind.Number

-- the sorts of an operation's and a query's parameters
abbrev pub op_sorts : Option OpSig → List Sort
op_sorts None = []
op_sorts (Some op) = op.sorts

abbrev pub query_sorts : Option QuerySig → List Sort
query_sorts None = []
query_sorts (Some query) = query.sorts
