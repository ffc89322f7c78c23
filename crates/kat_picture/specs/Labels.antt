-- The texts beside the marks of a picture.
use Rattle.std.specs.Prelude.{ℕ, List, [], ◌∷◌, ◌++◌, map, codes, slice_index}
use Rattle.std.specs.List.{flat_map}
use Rattle.std.specs.Fmt.{decimal}
use Rattle.kat_num.specs.Names.{name_of_code}
use Rattle.kat_num.specs.Values.{value_text}
use Rattle.kat_num.specs.declared.values.Value.{Value}
use Rattle.kat_type.specs.declared.done.Done.{Done}
use Rattle.kat_type.specs.declared.signatures.OpSig.{OpSig}
use Rattle.kat_type.specs.declared.signatures.QuerySig.{QuerySig}
use Rattle.kat_type.specs.declared.signatures.Signature.{Signature}

-- the name of an operation by its number
abbrev pub op_name : Signature → ℕ → List ℕ
op_name sig op = name_of_code (slice_index (map (λ (o : OpSig). o.name) sig.ops) op)

-- the name of a query by its number
abbrev pub query_name : Signature → ℕ → List ℕ
query_name sig query = name_of_code (slice_index (map (λ (q : QuerySig). q.name) sig.queries) query)

-- the word of a packet by its number
abbrev pub word_text : List ℕ → ℕ → List ℕ
word_text words packet = name_of_code (slice_index words packet)

-- arguments, each after a blank
abbrev pub args_text : List Value → List ℕ
args_text args = flat_map (λ arg. 32 ∷ value_text arg) args

-- the first of the answers, if there is one
abbrev pub answer_text : List Value → List ℕ
answer_text [] = []
answer_text (value ∷ values) = codes " = " ++ value_text value

-- `OP ARGS at T`
abbrev pub did_text : Signature → Done → List ℕ
did_text sig done = op_name sig done.op ++ args_text done.args ++ codes " at " ++ decimal done.time

-- `QUERY ARGS`, and after it `= VALUE` if there is an answer, the first of these
abbrev pub asked_text : Signature → ℕ → List Value → List Value → List ℕ
asked_text sig query args answers = query_name sig query ++ args_text args ++ answer_text answers
