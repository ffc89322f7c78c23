-- What a value says, read at the places of its parts. What doesn't have the form says anything.
use Rattle.std.specs.Prelude.{ℕ, List, map, unwrap_or, false, Option, Some, None, ℤ, pos}
use Rattle.serde_json.specs.Data.{Data, null}
use Rattle.kat_json.specs.Lists.{at_place, elements_of}
use Rattle.kat_num.specs.declared.values.Sort.{Sort}
use Rattle.kat_json.specs.Words.{sort_words, word_in, key_sort_words, key_words, value_of, leaf_of, number_of, index_of, literal_of, multiplier_of}
use Rattle.kat_num.specs.declared.values.Value.{Value}
use Rattle.kat_design.specs.declared.designs.Leaf.{Leaf}
use Rattle.kat_num.specs.declared.values.Sort.TheVariants as sort
use Rattle.kat_num.specs.declared.values.Value.TheVariants as value
use Rattle.kat_design.specs.declared.designs.Leaf.TheVariants as leaf

-- the part at a place, and the elements of a list, each by what it says
abbrev pub part_said : {A : Type 0} → (Data → A) → ℕ → List Data → A
part_said said place parts = said (at_place parts place)

abbrev pub list_said : {A : Type 0} → (Data → A) → Data → List A
list_said said d = map said (elements_of d)

-- signatures
abbrev pub sort_said : Data → Sort
sort_said d = unwrap_or (word_in sort_words d) sort.Bool

-- components
abbrev pub key_sort_said : Data → Sort
key_sort_said d = unwrap_or (word_in key_sort_words d) sort.Int

abbrev pub key_said : Data → ℕ
key_said d = unwrap_or (word_in key_words d) 0

abbrev pub value_said : Data → Value
value_said d = unwrap_or (value_of d) (value.Bool false)

abbrev pub leaf_said : Data → Leaf
leaf_said d = unwrap_or (leaf_of d) leaf.Time

abbrev pub pair_said : {A : Type 0} → (Data → A) → Data → ℕ × A
pair_said said d = (part_said key_said 0 (elements_of d), part_said said 1 (elements_of d))

abbrev pub effect_said : {A : Type 0} → (Data → A) → Data → Option A
effect_said said null = None
effect_said said d = Some (said d)

abbrev pub effects_said : {A : Type 0} → (Data → A) → Data → List (Option A)
effects_said said d = list_said (effect_said said) d

-- asks
abbrev pub number_said : Data → ℕ
number_said d = unwrap_or (number_of d) 0

-- relations
abbrev pub index_said : Data → ℕ
index_said d = unwrap_or (index_of d) 0

-- proofs
abbrev pub literal_said : Data → ℤ
literal_said d = unwrap_or (literal_of d) (pos 1)

abbrev pub multiplier_said : Data → ℤ
multiplier_said d = unwrap_or (multiplier_of d) (pos 0)
