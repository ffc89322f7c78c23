-- What a type and a design keep, and at which keys a condition looks at it.
use Rattle.std.specs.Prelude.{ℕ, suc, Bool, true, false, if◌then◌else◌, List, [], ◌∷◌, ◌++◌, Option, None, Some}
use Rattle.kat_num.specs.declared.values.Sort.{Sort}
use Rattle.kat_num.specs.declared.values.Sort.TheVariants as sort
use Rattle.kat_design.specs.Designs.{ComponentForm, DesignForm}
use Rattle.kat_design.specs.Faults.{is_sort}
use Rattle.kat_design.specs.Kinds.{component_kinds, is_kind, key_sort}
use Rattle.kat_design.specs.declared.kinds.Kind.{Kind}
use Rattle.kat_design.specs.declared.kinds.Kind.TheVariants as kind
use Rattle.kat_type.specs.Types.{TypeForm}
use Rattle.kat_type.specs.declared.types.Field.{Field as TypeField}
use Rattle.kat_type.specs.declared.types.Field.TheVariants as field
use Rattle.kat_type.specs.declared.types.Param.{Param}
use Rattle.kat_symbols.specs.declared.names.Instance.{Instance}
use Rattle.kat_symbols.specs.declared.names.Instance.TheVariants.{Claim, Argument}
use Rattle.kat_symbols.specs.declared.names.Name.{Name}
use Rattle.kat_symbols.specs.declared.names.Name.TheVariants.{Key, Kept}
use Rattle.kat_symbols.specs.declared.names.Place.{Place}
use Rattle.kat_symbols.specs.declared.names.Place.TheVariants.{Field, Leaf}
use Rattle.kat_claims.specs.declared.spots.Spot.{Spot}

-- numbers of sort `nat` and names, whose codes are numbers, are at least 0
abbrev pub is_natural : Sort → Bool
is_natural sort.Bool = false
is_natural sort.Int = false
is_natural sort.Nat = true
is_natural sort.Name = true

abbrev pub field_spot : ℕ → TypeField → Spot
field_spot f (field.Plain name s start) = record { place = Field f; key = None; natural = is_natural s }
field_spot f (field.Keyed name key s start) = record { place = Field f; key = Some key; natural = is_natural s }

-- the fields of a type, from a number on
abbrev pub field_spots : ℕ → List TypeField → List Spot
field_spots f [] = []
field_spots f (x ∷ xs) = field_spot f x ∷ field_spots (suc f) xs

-- the leaves of a component, and of the components of a design
abbrev pub leaf_spots : ℕ → Option Sort → ℕ → List Kind → List Spot
leaf_spots c key l [] = []
leaf_spots c key l (k ∷ ks) = record { place = Leaf c l; key = key; natural = is_kind k kind.Name } ∷ leaf_spots c key (suc l) ks

abbrev pub component_spots : ℕ → List ComponentForm → List Spot
component_spots c [] = []
component_spots c (x ∷ xs) = leaf_spots c (key_sort x) 0 (component_kinds x) ++ component_spots (suc c) xs

-- all fields, and then all leaves
abbrev pub spots_of : TypeForm → DesignForm → List Spot
spots_of ty design = field_spots 0 ty.fields ++ component_spots 0 design.components

abbrev pub same_key : Option Sort → Option Sort → Bool
same_key None None = true
same_key None (Some b) = false
same_key (Some a) None = false
same_key (Some a) (Some b) = is_sort a b

-- the places that are kept by keys of a sort, or without a key
abbrev pub places_by : Option Sort → List Spot → List Place
places_by key [] = []
places_by key (s ∷ ss) = if same_key key s.key then s.place ∷ places_by key ss else places_by key ss

-- The keys of a condition and their sorts: first that of the claim, if the claim is kept by key, then the arguments.
abbrev pub argument_keys : ℕ → List Param → List (Sort × Instance)
argument_keys j [] = []
argument_keys j (p ∷ ps) = (p.sort, Argument j) ∷ argument_keys (suc j) ps

abbrev pub claim_keys : Option Sort → List (Sort × Instance)
claim_keys None = []
claim_keys (Some s) = (s, Claim) ∷ []

abbrev pub keys_of : Option Sort → List Param → List (Sort × Instance)
keys_of claim params = claim_keys claim ++ argument_keys 0 params

-- the keys of one sort
abbrev pub instances_of : Sort → List (Sort × Instance) → List Instance
instances_of s [] = []
instances_of s (k ∷ ks) = if is_sort s k.0 then k.1 ∷ instances_of s ks else instances_of s ks

abbrev pub each_some : List Instance → List (Option Instance)
each_some [] = []
each_some (i ∷ is) = Some i ∷ each_some is

-- where a place is looked at: at each key of its sort, or without a key
abbrev pub looked_at : Option Sort → List (Sort × Instance) → List (Option Instance)
looked_at None keys = None ∷ []
looked_at (Some s) keys = each_some (instances_of s keys)

-- places at a key, and at each of some keys
abbrev pub at_key : Option Instance → List Place → List (Place × Option Instance)
at_key at [] = []
at_key at (p ∷ ps) = (p, at) ∷ at_key at ps

abbrev pub at_each : List Instance → List Place → List (Place × Option Instance)
at_each [] places = []
at_each (i ∷ is) places = at_key (Some i) places ++ at_each is places

abbrev pub at_sort : Sort → List Spot → List (Sort × Instance) → List (Place × Option Instance)
at_sort s spots keys = at_each (instances_of s keys) (places_by (Some s) spots)

-- All that a condition looks at: what has no key, and then for each sort, at each key, what is kept by keys of the sort.
abbrev pub all_looked_at : List Spot → List (Sort × Instance) → List (Place × Option Instance)
all_looked_at spots keys =
    at_key None (places_by None spots) ++ at_sort sort.Int spots keys ++ at_sort sort.Nat spots keys ++ at_sort sort.Name spots keys

-- one place at keys
abbrev pub names_at : Place → List (Option Instance) → List Name
names_at place [] = []
names_at place (at ∷ ats) = Kept place at ∷ names_at place ats

-- what is at least 0: of spots, of arguments, and the key of the claim
abbrev pub natural_kept : List Spot → List (Sort × Instance) → List Name
natural_kept [] keys = []
natural_kept (s ∷ ss) keys = (if s.natural then names_at s.place (looked_at s.key keys) else []) ++ natural_kept ss keys

abbrev pub natural_keys : List (Sort × Instance) → List Name
natural_keys [] = []
natural_keys (k ∷ ks) = if is_natural k.0 then Key k.1 ∷ natural_keys ks else natural_keys ks

-- in this order: fields, arguments, the key of the claim, leaves
abbrev pub all_natural : TypeForm → DesignForm → Option Sort → List Param → List Name
all_natural ty design claim params =
    natural_kept (field_spots 0 ty.fields) (keys_of claim params) ++ natural_keys (argument_keys 0 params) ++ natural_keys (claim_keys claim)
    ++ natural_kept (component_spots 0 design.components) (keys_of claim params)
