-- The places of a value that don't have the form, in the order of the text: lists and their parts, words, names, numbers and effects.
use Rattle.std.specs.Prelude.{true, List, Option, Some, None, [], ℕ, slice_get, nat_lt, length, ◌++◌}
use Rattle.kat_design.specs.Faults.{Path, here_if, within, each_faults}
use Rattle.serde_json.specs.Data.{Data, null}
use Rattle.kat_json.specs.Lists.{list_of}
use Rattle.kat_json.specs.Words.{sort_words, word_in, key_sort_words, key_words, value_of, leaf_of, number_of, index_of, literal_of, multiplier_of}

-- what isn't there, or isn't what is expected, is a fault at its place
abbrev pub present : {A : Type 0} → (A → List Path) → Option A → List Path
present faults None = here_if true
present faults (Some x) = faults x

abbrev pub faults_unless : {A : Type 0} → Option A → List Path
faults_unless found = present (λ _. []) found

-- the part at a place of a list; one that is missing is a fault at its own place
abbrev pub part_faults : (Data → List Path) → ℕ → List Data → List Path
part_faults faults place parts = within place (present faults (slice_get parts place))

-- a part that may be missing
abbrev pub optional_faults : (Data → List Path) → ℕ → List Data → List Path
optional_faults faults place parts = optional (slice_get parts place) where
  optional : Option Data → List Path
  optional None = []
  optional (Some d) = within place (faults d)

-- a value past the last part is a fault at its own place
abbrev pub past_faults : ℕ → List Data → List Path
past_faults count parts = within count (here_if (nat_lt count (length parts)))

-- a list with such faults
abbrev pub in_list : (List Data → List Path) → Data → List Path
in_list faults d = present faults (list_of d)

abbrev pub list_of_faults : (Data → List Path) → Data → List Path
list_of_faults faults d = in_list (each_faults faults 0) d

-- signatures: an operation has a name and sorts, a query a name, sorts and a sort; a name is a word that isn't reserved and
-- that no operation or query before has
abbrev pub sort_faults : Data → List Path
sort_faults d = faults_unless (word_in sort_words d)

-- components: a shape with a start for each leaf, and for each operation an effect or `null`
abbrev pub key_sort_faults : Data → List Path
key_sort_faults d = faults_unless (word_in key_sort_words d)

abbrev pub key_faults : Data → List Path
key_faults d = faults_unless (word_in key_words d)

abbrev pub value_faults : Data → List Path
value_faults d = faults_unless (value_of d)

abbrev pub leaf_faults : Data → List Path
leaf_faults d = faults_unless (leaf_of d)

-- a key, and what is given at it
abbrev pub keyed_faults : (Data → List Path) → List Data → List Path
keyed_faults faults parts = part_faults key_faults 0 parts ++ part_faults faults 1 parts ++ past_faults 2 parts

abbrev pub pair_faults : (Data → List Path) → Data → List Path
pair_faults faults d = in_list (keyed_faults faults) d

abbrev pub effect_faults : (Data → List Path) → Data → List Path
effect_faults faults null = []
effect_faults faults d = faults d

abbrev pub effects_faults : (Data → List Path) → Data → List Path
effects_faults faults d = list_of_faults (effect_faults faults) d

-- asks: a constant, or a list: a leaf of a component with or without a key, a parameter, or an operation on asks
abbrev pub number_faults : Data → List Path
number_faults d = faults_unless (number_of d)

-- relations: conjuncts, each a word with indices and references to leaves
abbrev pub index_faults : Data → List Path
index_faults d = faults_unless (index_of d)

-- proofs: lists of lines, each a word with literals, and with multipliers if it is by linear arithmetic; a line by
-- propagation with another number of parts is a fault as a whole
abbrev pub literal_faults : Data → List Path
literal_faults d = faults_unless (literal_of d)

abbrev pub multiplier_faults : Data → List Path
multiplier_faults d = faults_unless (multiplier_of d)

-- any value
abbrev pub any_value_faults : Data → List Path
any_value_faults d = []
