-- Values, the text that each is printed as, and the texts that are read as one.
use Rattle.std.specs.Prelude.{◌≡◌, ℕ, ◌<◌, ◌≤◌, ◌⊎◌, true, false, List, [], ◌∷◌, ◌++◌, length, codes, ℤ, pos, ◌≤ℤ◌, unsigned_abs, neg_ℤ}
use Rattle.std.specs.Prelude as prelude
use Rattle.std.specs.List.{list_all}
use Rattle.std.specs.Fmt.{signed_decimal}
use Rattle.std.specs.Str.Parse.{digits_value}
use Rattle.kat_num.specs.Bytes.{is_digit}
use Rattle.kat_num.specs.Names.{IsName, IsNameCode, code_of, name_of_code}
use Rattle.kat_num.specs.declared.values.Sort.{Sort}
use Rattle.kat_num.specs.declared.values.Value.{Value}
use Rattle.kat_num.specs.declared.values.Sort.TheVariants.{Bool as OfBool, Int as OfInt, Nat as OfNat, Name as OfName}
use Rattle.kat_num.specs.declared.values.Value.TheVariants.{Bool as Truth, Num, Name}
use Rattle.kat_num.specs.declared.values.TheConstants.{NUMBER_LIMIT}

-- the value fits the sort: truth values for `bool`, all numbers for `int`,
-- those from 0 on for `nat`, and names for `name`
abbrev pub HasSort : Sort → Value → Type 0
HasSort OfBool (Truth _) = Unit {0}
HasSort OfInt (Num _) = Unit {0}
HasSort OfNat (Num z) = pos 0 ≤ℤ z
HasSort OfName (Name _) = Unit {0}
HasSort _ _ = ⊥

-- if the value is a name, its code is that of a name
abbrev pub HasNameCode : Value → Type 0
HasNameCode (Truth _) = Unit {0}
HasNameCode (Num _) = Unit {0}
HasNameCode (Name code) = IsNameCode code

-- if the value is a number, it is within the limit of literals and arguments
abbrev pub IsWithinLimit : Value → Type 0
IsWithinLimit (Truth _) = Unit {0}
IsWithinLimit (Num z) = unsigned_abs z ≤ NUMBER_LIMIT
IsWithinLimit (Name _) = Unit {0}

-- the value may be given as an argument of the sort
pub record IsArgument (sort : Sort) (value : Value) : Type 0 where
  pub fits : HasSort sort value
  pub named : HasNameCode value
  pub within : IsWithinLimit value

-- the text of a truth value
abbrev pub truth_text : prelude.Bool → List ℕ
truth_text true = codes "true"
truth_text false = codes "false"

-- a name between double quotes
abbrev pub quoted : List ℕ → List ℕ
quoted name = 34 ∷ name ++ 34 ∷ []

-- what a value is printed as: `true` and `false`, decimals, and names between double quotes
abbrev pub value_text : Value → List ℕ
value_text (Truth truth) = truth_text truth
value_text (Num z) = signed_decimal z
value_text (Name code) = quoted (name_of_code code)

-- the bytes are a number of this value: digits, among them leading zeros, of a value within the limit
pub record IsNumber (digits : List ℕ) (n : ℕ) : Type 0 where
  pub some : 0 < length digits
  pub each : list_all is_digit digits ≡ true
  pub value : digits_value 10 digits ≡ n
  pub small : n ≤ NUMBER_LIMIT

-- the bytes are a whole number of this value: a number, or `-` and a number
pub data IsWhole (bytes : List ℕ) (z : ℤ) : Type 0 where
  plain : (n : ℕ) → IsNumber bytes n → z ≡ pos n → IsWhole bytes z
  minus : (n : ℕ) (digits : List ℕ) → bytes ≡ 45 ∷ digits → IsNumber digits n → z ≡ neg_ℤ (pos n) → IsWhole bytes z

-- the bytes are one argument of the sort, written without blanks, and this is its value; a number
-- with a `-`, even `-0`, is none of sort `nat`
abbrev pub IsArgumentText : Sort → List ℕ → Value → Type 0
IsArgumentText OfBool bytes (Truth truth) = bytes ≡ truth_text truth
IsArgumentText OfInt bytes (Num z) = IsWhole bytes z
IsArgumentText OfNat bytes (Num z) = (n : ℕ) × IsNumber bytes n × (z ≡ pos n)
IsArgumentText OfName bytes (Name code) = (name : List ℕ) × IsName name × (bytes ≡ quoted name) × (code_of name ≡ code)
IsArgumentText _ _ _ = ⊥
