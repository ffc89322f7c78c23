-- The line of an ask.
use Rattle.std.specs.Prelude.{ℕ, List, [], ◌∷◌, ◌++◌, map, codes, slice_index}
use Rattle.std.specs.List.{flat_map}
use Rattle.std.specs.Fmt.{decimal}
use Rattle.kat_num.specs.Names.{name_of_code}
use Rattle.kat_num.specs.Values.{value_text}
use Rattle.kat_num.specs.declared.values.Value.{Value}
use Rattle.kat_type.specs.declared.signatures.QuerySig.{QuerySig}
use Rattle.kat_type.specs.declared.signatures.Signature.{Signature}

-- the name of a query by its number
abbrev pub query_name : Signature → ℕ → List ℕ
query_name sig query = name_of_code (slice_index (map (λ (q : QuerySig). q.name) sig.queries) query)

-- arguments, each after a blank
abbrev pub args_text : List Value → List ℕ
args_text args = flat_map (λ arg. 32 ∷ value_text arg) args

-- `R QUERY ARGS = VALUE`
abbrev pub ask_text : Signature → ℕ → ℕ → List Value → Value → List ℕ
ask_text sig r query args value = decimal r ++ 32 ∷ query_name sig query ++ args_text args ++ codes " = " ++ value_text value ++ 10 ∷ []
