-- Small texts of which an explanation is put together.
use Rattle.std.specs.Prelude.{ℕ, ◌+◌, List, [], ◌∷◌, ◌++◌, map, codes, Option, None, Some, slice_get}
use Rattle.std.specs.List.{flat_map}
use Rattle.kat_num.specs.Names.{name_of_code}
use Rattle.kat_num.specs.declared.values.Sort.{Sort}
use Rattle.kat_num.specs.declared.values.Sort.TheVariants as sort
use Rattle.kat_type.specs.declared.types.Param.{Param}

-- the text at a place, or the empty one
abbrev pub text_or_empty : Option (List ℕ) → List ℕ
text_or_empty None = []
text_or_empty (Some text) = text

abbrev pub text_at : List (List ℕ) → ℕ → List ℕ
text_at texts place = text_or_empty (slice_get texts place)

-- texts with commas between them
abbrev pub behind_comma : List ℕ → List ℕ
behind_comma text = codes ", " ++ text

abbrev pub further : List (List ℕ) → List ℕ
further texts = flat_map behind_comma texts

abbrev pub commas : List (List ℕ) → List ℕ
commas [] = []
commas (text ∷ texts) = text ++ further texts

-- one text as it is, and others in parentheses
abbrev pub tuple : List (List ℕ) → List ℕ
tuple [] = codes "()"
tuple (text ∷ []) = text
tuple (text ∷ next ∷ texts) = codes "(" ++ commas (text ∷ next ∷ texts) ++ codes ")"

-- the names of parameters
abbrev pub param_name : Param → List ℕ
param_name p = name_of_code p.name

abbrev pub param_names : List Param → List (List ℕ)
param_names params = map param_name params

-- the name of a parameter by its number
abbrev pub given_name : Option Param → List ℕ
given_name None = []
given_name (Some p) = name_of_code p.name

abbrev pub param_text : List Param → ℕ → List ℕ
param_text params place = given_name (slice_get params place)

-- `NAME(PARAMETERS)`
abbrev pub call_text : ℕ → List Param → List ℕ
call_text name params = name_of_code name ++ codes "(" ++ commas (param_names params) ++ codes ")"

-- what stands for the values of a sort
unfoldable pub sort_word : Sort → List ℕ
sort_word sort.Bool = codes "truth value"
sort_word sort.Int = codes "number"
sort_word sort.Nat = codes "number"
sort_word sort.Name = codes "name"

-- the texts of elements, each with its place from this one on
abbrev pub each_from : {A : Type 0} → (ℕ → A → List ℕ) → ℕ → List A → List ℕ
each_from text place [] = []
each_from text place (x ∷ xs) = text place x ++ each_from text (place + 1) xs

-- a place in what a replica keeps
abbrev pub own : List ℕ → List ℕ
own name = codes "self." ++ name

abbrev pub others : List ℕ → List ℕ
others name = codes "other." ++ name

abbrev pub at_key : List ℕ → List ℕ → List ℕ
at_key text key = text ++ codes "[" ++ key ++ codes "]"
