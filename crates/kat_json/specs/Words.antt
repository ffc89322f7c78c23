-- The words, names and numbers of JSON texts.
use Rattle.std.specs.Prelude.{ℕ, ◌-◌, List, [], ◌∷◌, bytes_eq, Option, Some, None, if◌then◌else◌, Bool, codes, option_and_then, ℤ, pos, int_lt, ◌&&◌, nat_le, length, false, not, option_map, ◌^◌, nat_lt, negsuc, neg_ℤ, int_le}
use Rattle.std.specs.List.{list_all}
use Rattle.std.specs.Ordering.{int_eq}
use Rattle.kat_num.specs.declared.values.Sort.{Sort}
use Rattle.kat_design.specs.declared.designs.Leaf.{Leaf}
use Rattle.serde_json.specs.Data.{Data, Num, unsigned, negative, float, null, boolean, number, string, array, object}
use Rattle.kat_json.specs.Lists.{text_of}
use Rattle.kat_num.specs.Bytes.{is_name_byte, is_word_byte, is_word_start}
use Rattle.kat_num.specs.declared.names.TheConstants.{NAME_LIMIT}
use Rattle.kat_num.specs.Names.{code_of}
use Rattle.kat_lex.specs.Words.{is_reserved}
use Rattle.kat_num.specs.declared.values.Value.{Value}
use Rattle.kat_num.specs.declared.values.Sort.TheVariants as sort
use Rattle.kat_design.specs.declared.designs.Leaf.TheVariants as leaf
use Rattle.kat_num.specs.declared.values.Value.TheVariants as value

-- what a word stands for in a table
abbrev pub spelled : {A : Type 0} → List (List ℕ × A) → List ℕ → Option A
spelled [] text = None
spelled (entry ∷ entries) text = if bytes_eq text entry.0 then Some entry.1 else spelled entries text

abbrev pub sort_words : List (List ℕ × Sort)
sort_words = (codes "bool", sort.Bool) ∷ (codes "int", sort.Int) ∷ (codes "nat", sort.Nat) ∷ (codes "name", sort.Name) ∷ []

-- the sorts of keys
abbrev pub key_sort_words : List (List ℕ × Sort)
key_sort_words = (codes "int", sort.Int) ∷ (codes "nat", sort.Nat) ∷ (codes "name", sort.Name) ∷ []

-- keys: one of four parameters
abbrev pub key_words : List (List ℕ × ℕ)
key_words = (codes "p0", 0) ∷ (codes "p1", 1) ∷ (codes "p2", 2) ∷ (codes "p3", 3) ∷ []

-- leaves of effects that are words
abbrev pub leaf_words : List (List ℕ × Leaf)
leaf_words =
    (codes "p0", leaf.Arg 0) ∷ (codes "p1", leaf.Arg 1) ∷ (codes "p2", leaf.Arg 2) ∷ (codes "p3", leaf.Arg 3)
    ∷ (codes "time", leaf.Time) ∷ (codes "replica", leaf.Replica)
    ∷ (codes "pos0", leaf.Pos 0) ∷ (codes "pos1", leaf.Pos 1) ∷ (codes "pos2", leaf.Pos 2) ∷ (codes "pos3", leaf.Pos 3)
    ∷ (codes "neg0", leaf.Neg 0) ∷ (codes "neg1", leaf.Neg 1) ∷ (codes "neg2", leaf.Neg 2) ∷ (codes "neg3", leaf.Neg 3) ∷ []

-- a value that is a word of a table
abbrev pub word_in : {A : Type 0} → List (List ℕ × A) → Data → Option A
word_in words d = option_and_then (spelled words) (text_of d)

-- a number that is kept as a whole number of 64 bits
abbrev pub whole_of_number : Num → Option ℤ
whole_of_number (unsigned n) = Some (pos n)
whole_of_number (negative z) = if int_lt z (pos 0) then Some z else None
whole_of_number (float x) = None

abbrev pub whole_of : Data → Option ℤ
whole_of null = None
whole_of (boolean b) = None
whole_of (number n) = whole_of_number n
whole_of (string s) = None
whole_of (array ds) = None
whole_of (object ms) = None

-- a name: at most 15 bytes, each of names
abbrev pub is_name : List ℕ → Bool
is_name text = nat_le (length text) NAME_LIMIT && list_all is_name_byte text

-- a word: a letter or `_`, then letters, `_` and digits, at most 15 bytes, and none that is reserved
abbrev pub is_word : List ℕ → Bool
is_word [] = false
is_word (byte ∷ bytes) = nat_le (length (byte ∷ bytes)) NAME_LIMIT && (is_word_start byte && list_all is_word_byte bytes)

abbrev pub word_of : Data → Option ℕ
word_of d = option_and_then (λ text. if is_word text && not (is_reserved (code_of text)) then Some (code_of text) else None) (text_of d)

abbrev pub named : List ℕ → Option Value
named text = if is_name text then Some (value.Name (code_of text)) else None

-- a start or a constant: a truth value, a whole number or a name
abbrev pub value_of : Data → Option Value
value_of null = None
value_of (boolean b) = Some (value.Bool b)
value_of (number n) = option_map value.Num (whole_of_number n)
value_of (string s) = named s
value_of (array ds) = None
value_of (object ms) = None

-- a leaf of an effect: a word, 0, 1 or a truth value
abbrev pub digit_leaf : ℤ → Option Leaf
digit_leaf z = if int_eq z (pos 0) then Some leaf.Zero else if int_eq z (pos 1) then Some leaf.One else None

abbrev pub leaf_of : Data → Option Leaf
leaf_of null = None
leaf_of (boolean b) = Some (if b then leaf.True else leaf.False)
leaf_of (number n) = option_and_then digit_leaf (whole_of_number n)
leaf_of (string s) = spelled leaf_words s
leaf_of (array ds) = None
leaf_of (object ms) = None

-- a number of a component, a leaf or a parameter: one that is negative or past 32 bits is kept as the greatest of 32 bits,
-- which is out of every range
abbrev pub kept_number : ℤ → ℕ
kept_number (pos n) = if nat_lt n (2 ^ 32) then n else 2 ^ 32 - 1
kept_number (negsuc n) = 2 ^ 32 - 1

abbrev pub number_of : Data → Option ℕ
number_of d = option_map kept_number (whole_of d)

-- an index of a relation, a digit too: a whole number of 32 bits without sign
abbrev pub index_in : ℤ → Option ℕ
index_in (pos n) = if nat_lt n (2 ^ 32) then Some n else None
index_in (negsuc n) = None

abbrev pub index_of : Data → Option ℕ
index_of d = option_and_then index_in (whole_of d)

-- a literal of a proof: a whole number of 32 bits with sign, other than 0
abbrev pub is_literal : ℤ → Bool
is_literal z = not (int_eq z (pos 0)) && (int_le (neg_ℤ (pos (2 ^ 31))) z && int_lt z (pos (2 ^ 31)))

abbrev pub literal_in : ℤ → Option ℤ
literal_in z = if is_literal z then Some z else None

abbrev pub literal_of : Data → Option ℤ
literal_of d = option_and_then literal_in (whole_of d)

-- a multiplier of a proof: a whole number of 64 bits with sign
abbrev pub is_multiplier : ℤ → Bool
is_multiplier z = int_le (neg_ℤ (pos (2 ^ 63))) z && int_lt z (pos (2 ^ 63))

abbrev pub multiplier_in : ℤ → Option ℤ
multiplier_in z = if is_multiplier z then Some z else None

abbrev pub multiplier_of : Data → Option ℤ
multiplier_of d = option_and_then multiplier_in (whole_of d)
