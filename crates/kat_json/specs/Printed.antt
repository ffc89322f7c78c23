-- The value that is printed for a sort, a start, a leaf, an effect and a number.
use Rattle.std.specs.Prelude.{ℕ, codes, List, map, ◌++◌, decimal, true, false, [], ◌∷◌, Option, Some, None, ℤ}
use Rattle.serde_json.specs.Data.{Data, number, unsigned, string, boolean, null}
use Rattle.kat_num.specs.declared.values.Sort.{Sort}
use Rattle.kat_json.specs.Lists.{list}
use Rattle.kat_num.specs.Names.{name_of_code}
use Rattle.kat_num.specs.declared.values.Value.{Value}
use Rattle.serde_json.specs.Find.{of_integer}
use Rattle.kat_design.specs.declared.designs.Leaf.{Leaf}
use Rattle.kat_num.specs.declared.values.Sort.TheVariants as sort
use Rattle.kat_num.specs.declared.values.Value.TheVariants as value
use Rattle.kat_design.specs.declared.designs.Leaf.TheVariants as leaf

abbrev pub natural : ℕ → Data
natural n = number (unsigned n)

abbrev pub sort_data : Sort → Data
sort_data sort.Bool = string (codes "bool")
sort_data sort.Int = string (codes "int")
sort_data sort.Nat = string (codes "nat")
sort_data sort.Name = string (codes "name")

abbrev pub sorts_data : List Sort → Data
sorts_data sorts = list (map sort_data sorts)

-- starts and constants
abbrev pub value_data : Value → Data
value_data (value.Bool b) = boolean b
value_data (value.Num z) = number (of_integer z)
value_data (value.Name code) = string (name_of_code code)

-- effects
abbrev pub key_data : ℕ → Data
key_data place = string (codes "p" ++ decimal place)

abbrev pub leaf_data : Leaf → Data
leaf_data (leaf.Arg place) = string (codes "p" ++ decimal place)
leaf_data leaf.Time = string (codes "time")
leaf_data leaf.Replica = string (codes "replica")
leaf_data leaf.Zero = natural 0
leaf_data leaf.One = natural 1
leaf_data (leaf.Pos place) = string (codes "pos" ++ decimal place)
leaf_data (leaf.Neg place) = string (codes "neg" ++ decimal place)
leaf_data leaf.False = boolean false
leaf_data leaf.True = boolean true

abbrev pub leaves_data : List Leaf → Data
leaves_data leaves = list (map leaf_data leaves)

abbrev pub keyed_data : {A : Type 0} → (A → Data) → ℕ × A → Data
keyed_data data_of effect = list (key_data effect.0 ∷ data_of effect.1 ∷ [])

abbrev pub effect_data : {A : Type 0} → (A → Data) → Option A → Data
effect_data data_of None = null
effect_data data_of (Some effect) = data_of effect

abbrev pub effects_data : {A : Type 0} → (A → Data) → List (Option A) → Data
effects_data data_of effects = list (map (effect_data data_of) effects)

-- proofs
abbrev pub integer_data : ℤ → Data
integer_data z = number (of_integer z)

abbrev pub integers_data : List ℤ → Data
integers_data zs = list (map integer_data zs)
