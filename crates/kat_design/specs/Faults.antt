-- The places of a design that break a rule, in the order of its file: a wrong length is a fault of its list, before those of the elements.
use Rattle.std.specs.Prelude.{ℕ, ◌+◌, ◌^◌, ◌==◌, nat_lt, nat_le, Bool, true, false, not, ◌&&◌, ◌||◌, List, [], ◌∷◌, ◌++◌, length, Option, None, Some, slice_get, pos, neg_ℤ, int_lt}
use Rattle.std.specs.List.{list_all}
use Rattle.kat_num.specs.Bytes.{is_name_byte}
use Rattle.kat_num.specs.Names.{code_of, name_of_code}
use Rattle.kat_num.specs.declared.values.Sort.{Sort}
use Rattle.kat_num.specs.declared.values.Sort.TheVariants as sort
use Rattle.kat_num.specs.declared.values.Value.{Value}
use Rattle.kat_num.specs.declared.values.Value.TheVariants as value
use Rattle.kat_shape.specs.Forms.{CellForm, numbers, names, truths, lex, pair}
use Rattle.kat_type.specs.declared.signatures.OpSig.{OpSig}
use Rattle.kat_type.specs.declared.signatures.QuerySig.{QuerySig}
use Rattle.kat_design.specs.Designs.{ComponentForm, AskForm, DesignForm}
use Rattle.kat_design.specs.Designs.ComponentForm.{a_cell, a_table, a_set, a_tally, tallies}
use Rattle.kat_design.specs.Designs.AskForm.{leaf as a_leaf, parameter, constant, negation, both, either, less, sum, difference}
use Rattle.kat_design.specs.Kinds.{ask_kind, component_kinds, is_chain, is_kind, is_wanted, key_sort, kinds_of, like, sort_kind, value_kind}
use Rattle.kat_design.specs.Sizes.{size_of}
use Rattle.kat_design.specs.declared.sizes.TheConstants.{COMPONENT_LIMIT, SIZE_LIMIT}
use Rattle.kat_design.specs.declared.designs.Leaf.{Leaf}
use Rattle.kat_design.specs.declared.designs.Leaf.TheVariants as leaf
use Rattle.kat_design.specs.declared.kinds.Kind.{Kind}
use Rattle.kat_design.specs.declared.kinds.Kind.TheVariants as kind
use Rattle.kat_design.specs.declared.kinds.Wanted.{Wanted}
use Rattle.kat_design.specs.declared.kinds.Wanted.TheVariants.{Exactly, Ordered}

-- a place: the indices that lead to it, from the outside
abbrev pub Path : Type 0
Path = List ℕ

-- the first of a list, if there is one
abbrev pub first_of : List Path → Option Path
first_of [] = None
first_of (path ∷ paths) = Some path

-- a fault at the very place, if this is so
abbrev pub here_if : Bool → List Path
here_if true = [] ∷ []
here_if false = []

-- faults inside an element of a list
abbrev pub within : ℕ → List Path → List Path
within index [] = []
within index (path ∷ paths) = (index ∷ path) ∷ within index paths

-- the faults of each element, from an index on
abbrev pub each_faults : {A : Type 0} → (A → List Path) → ℕ → List A → List Path
each_faults faults index [] = []
each_faults faults index (x ∷ xs) = within index (faults x) ++ each_faults faults (index + 1) xs

-- the faults of each element, if each belongs to one of another list
abbrev pub matched_faults : {A B : Type 0} → (A → B → List Path) → ℕ → List A → List B → List Path
matched_faults faults index [] ys = []
matched_faults faults index (x ∷ xs) [] = []
matched_faults faults index (x ∷ xs) (y ∷ ys) = within index (faults x y) ++ matched_faults faults (index + 1) xs ys

-- a list has as many elements as another, and each matches the one there
abbrev pub list_faults : {A B : Type 0} → (A → B → List Path) → List A → List B → List Path
list_faults faults xs ys = here_if (not (length xs == length ys)) ++ matched_faults faults 0 xs ys

-- the code of a name: what its bytes spell is a name with this code
abbrev pub is_name_code : ℕ → Bool
is_name_code code = list_all is_name_byte (name_of_code code) && (code_of (name_of_code code) == code)

-- a value that a file can have: a number of 64 bits with or without a sign, a name, or a truth value
abbrev pub is_written : Value → Bool
is_written (value.Bool b) = true
is_written (value.Num z) = not (int_lt z (neg_ℤ (pos (2 ^ 63)))) && int_lt z (pos (2 ^ 64))
is_written (value.Name code) = is_name_code code

-- the first part of a lexicographic pair is a chain
abbrev pub shape_faults : CellForm → List Path
shape_faults numbers = []
shape_faults names = []
shape_faults truths = []
shape_faults (lex a b) = within 1 (here_if (not (is_chain a)) ++ shape_faults a) ++ within 2 (shape_faults b)
shape_faults (pair a b) = within 1 (shape_faults a) ++ within 2 (shape_faults b)

-- a start has the kind of its leaf
abbrev pub start_faults : Value → Kind → List Path
start_faults v k = here_if (not (is_kind k (value_kind v) && is_written v))

-- the sort of an argument is exactly this
abbrev pub is_sort : Sort → Sort → Bool
is_sort sort.Bool sort.Bool = true
is_sort sort.Int sort.Int = true
is_sort sort.Nat sort.Nat = true
is_sort sort.Name sort.Name = true
is_sort _ _ = false

abbrev pub has_sort : Sort → Option Sort → Bool
has_sort asked None = false
has_sort asked (Some given) = is_sort asked given

abbrev pub has_kind : Kind → Option Sort → Bool
has_kind k None = false
has_kind k (Some given) = is_kind k (sort_kind given)

-- what an operation gives to a leaf is of this kind: arguments of it, `pos` and `neg` of an `int` argument for numbers
abbrev pub gives_kind : List Sort → Leaf → Kind → Bool
gives_kind sorts (leaf.Arg place) k = has_kind k (slice_get sorts place)
gives_kind sorts leaf.Time k = is_kind k kind.Number
gives_kind sorts leaf.Replica k = is_kind k kind.Number
gives_kind sorts leaf.Zero k = is_kind k kind.Number
gives_kind sorts leaf.One k = is_kind k kind.Number
gives_kind sorts (leaf.Pos place) k = is_kind k kind.Number && has_sort sort.Int (slice_get sorts place)
gives_kind sorts (leaf.Neg place) k = is_kind k kind.Number && has_sort sort.Int (slice_get sorts place)
gives_kind sorts leaf.False k = is_kind k kind.Truth
gives_kind sorts leaf.True k = is_kind k kind.Truth

-- what is added to a sum has sort `nat`
abbrev pub is_weight : List Sort → Leaf → Bool
is_weight sorts (leaf.Arg place) = has_sort sort.Nat (slice_get sorts place)
is_weight sorts leaf.Time = true
is_weight sorts leaf.Replica = true
is_weight sorts leaf.Zero = true
is_weight sorts leaf.One = true
is_weight sorts (leaf.Pos place) = has_sort sort.Int (slice_get sorts place)
is_weight sorts (leaf.Neg place) = has_sort sort.Int (slice_get sorts place)
is_weight sorts leaf.False = false
is_weight sorts leaf.True = false

abbrev pub leaf_faults : List Sort → Leaf → Kind → List Path
leaf_faults sorts given k = here_if (not (gives_kind sorts given k))

-- a key is an argument of exactly the key sort
abbrev pub key_faults : Sort → List Sort → ℕ → List Path
key_faults key sorts place = here_if (not (has_sort key (slice_get sorts place)))

abbrev pub weight_faults : List Sort → Leaf → List Path
weight_faults sorts given = here_if (not (is_weight sorts given))

-- the effect of an operation on each kind of component; no effect breaks nothing
abbrev pub cell_effect_faults : List Kind → Option (List Leaf) → OpSig → List Path
cell_effect_faults kinds None op = []
cell_effect_faults kinds (Some leaves) op = list_faults (leaf_faults op.sorts) leaves kinds

abbrev pub table_effect_faults : Sort → List Kind → Option (ℕ × List Leaf) → OpSig → List Path
table_effect_faults key kinds None op = []
table_effect_faults key kinds (Some effect) op = within 0 (key_faults key op.sorts effect.0) ++ within 1 (list_faults (leaf_faults op.sorts) effect.1 kinds)

abbrev pub set_effect_faults : Sort → Option ℕ → OpSig → List Path
set_effect_faults key None op = []
set_effect_faults key (Some place) op = key_faults key op.sorts place

abbrev pub tally_effect_faults : Option Leaf → OpSig → List Path
tally_effect_faults None op = []
tally_effect_faults (Some given) op = weight_faults op.sorts given

abbrev pub tallies_effect_faults : Sort → Option (ℕ × Leaf) → OpSig → List Path
tallies_effect_faults key None op = []
tallies_effect_faults key (Some effect) op = within 0 (key_faults key op.sorts effect.0) ++ within 1 (weight_faults op.sorts effect.1)

-- keys are numbers or names
abbrev pub key_sort_faults : Sort → List Path
key_sort_faults key = here_if (is_sort key sort.Bool)

abbrev pub component_faults : List OpSig → ComponentForm → List Path
component_faults ops (a_cell shape starts effects) =
    within 1 (shape_faults shape) ++ within 2 (list_faults start_faults starts (kinds_of shape)) ++ within 3 (list_faults (cell_effect_faults (kinds_of shape)) effects ops)
component_faults ops (a_table key shape starts effects) =
    within 1 (key_sort_faults key) ++ within 2 (shape_faults shape) ++ within 3 (list_faults start_faults starts (kinds_of shape))
    ++ within 4 (list_faults (table_effect_faults key (kinds_of shape)) effects ops)
component_faults ops (a_set key effects) = within 1 (key_sort_faults key) ++ within 2 (list_faults (set_effect_faults key) effects ops)
component_faults ops (a_tally effects) = within 1 (list_faults tally_effect_faults effects ops)
component_faults ops (tallies key effects) = within 1 (key_sort_faults key) ++ within 2 (list_faults (tallies_effect_faults key) effects ops)

-- an ask of another kind than is wanted is a fault at the ask
abbrev pub kind_faults : Wanted → Option Kind → List Path
kind_faults wanted None = []
kind_faults wanted (Some k) = here_if (not (is_wanted wanted k))

-- a key is given if and only if the component has keys
abbrev pub gives_key : Option Sort → Option ℕ → Bool
gives_key None None = true
gives_key (Some key) (Some place) = true
gives_key _ _ = false

-- a key that is given if the component has keys has their sort
abbrev pub read_key_faults : Option Sort → Option ℕ → List Sort → List Path
read_key_faults (Some key) (Some place) sorts = key_faults key sorts place
read_key_faults _ _ sorts = []

-- a leaf that is read: of a component that there is, with a key or without, and a leaf that there is
abbrev pub read_faults : Option ComponentForm → ℕ → Option ℕ → List Sort → List Path
read_faults None place key sorts = within 1 (here_if true)
read_faults (Some component) place key sorts =
    here_if (not (gives_key (key_sort component) key)) ++ within 2 (here_if (not (nat_lt place (length (component_kinds component)))))
    ++ within 3 (read_key_faults (key_sort component) key sorts)

-- an ask where some kinds are expected
abbrev pub ask_faults : List ComponentForm → List Sort → Wanted → AskForm → List Path
ask_faults components sorts wanted (a_leaf component place key) =
    kind_faults wanted (ask_kind components sorts (a_leaf component place key)) ++ read_faults (slice_get components component) place key sorts
ask_faults components sorts wanted (parameter place) =
    kind_faults wanted (ask_kind components sorts (parameter place)) ++ within 1 (here_if (not (nat_lt place (length sorts))))
ask_faults components sorts wanted (constant v) = here_if (not (is_wanted wanted (value_kind v) && is_written v))
ask_faults components sorts wanted (negation a) = here_if (not (is_wanted wanted kind.Truth)) ++ within 1 (ask_faults components sorts (Exactly kind.Truth) a)
ask_faults components sorts wanted (both a b) =
    here_if (not (is_wanted wanted kind.Truth)) ++ within 1 (ask_faults components sorts (Exactly kind.Truth) a) ++ within 2 (ask_faults components sorts (Exactly kind.Truth) b)
ask_faults components sorts wanted (either a b) =
    here_if (not (is_wanted wanted kind.Truth)) ++ within 1 (ask_faults components sorts (Exactly kind.Truth) a) ++ within 2 (ask_faults components sorts (Exactly kind.Truth) b)
ask_faults components sorts wanted (less a b) =
    here_if (not (is_wanted wanted kind.Truth)) ++ within 1 (ask_faults components sorts Ordered a) ++ within 2 (ask_faults components sorts (like (ask_kind components sorts a)) b)
ask_faults components sorts wanted (sum a b) =
    here_if (not (is_wanted wanted kind.Number)) ++ within 1 (ask_faults components sorts (Exactly kind.Number) a) ++ within 2 (ask_faults components sorts (Exactly kind.Number) b)
ask_faults components sorts wanted (difference a b) =
    here_if (not (is_wanted wanted kind.Number)) ++ within 1 (ask_faults components sorts (Exactly kind.Number) a) ++ within 2 (ask_faults components sorts (Exactly kind.Number) b)

-- the ask of a query has the kind of its sort
abbrev pub query_faults : List ComponentForm → AskForm → QuerySig → List Path
query_faults components a query = ask_faults components query.sorts (Exactly (sort_kind query.sort)) a

-- too many components, or too large
abbrev pub is_too_large : DesignForm → Bool
is_too_large d = not (nat_le (length d.components) COMPONENT_LIMIT) || not (nat_le (size_of d) SIZE_LIMIT)

-- all places of a design that break a rule; the design is the fourth element of its file
abbrev pub faults_of : DesignForm → List Path
faults_of d = within 3 (
    here_if (is_too_large d)
    ++ within 0 (each_faults (component_faults d.sig.ops) 0 d.components)
    ++ within 1 (list_faults (query_faults d.components) d.asks d.sig.queries))
