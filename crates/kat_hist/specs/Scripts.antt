-- The script that shows a history: it is done at two replicas, the first is told of what the second did, and is asked.
use Rattle.std.specs.Prelude.{ℕ, List, ◌∷◌, ◌++◌, map, codes, slice_index_or}
use Rattle.std.specs.Fmt.{decimal}
use Rattle.std.specs.List.{flat_map}
use Rattle.kat_num.specs.Names.{name_of_code}
use Rattle.kat_num.specs.Values.{value_text}
use Rattle.kat_num.specs.declared.values.Value.{Value}
use Rattle.kat_type.specs.declared.done.Done.{Done}
use Rattle.kat_type.specs.declared.signatures.OpSig.{OpSig}
use Rattle.kat_type.specs.declared.signatures.QuerySig.{QuerySig}
use Rattle.kat_type.specs.declared.signatures.Signature.{Signature}
use Rattle.kat_histories.specs.Pools.{asks_of}
use Rattle.kat_histories.specs.declared.calls.Call.{Call}
use Rattle.kat_histories.specs.declared.histories.History.{History}

-- the name of the operation, and of the query, with a number
abbrev pub op_name : Signature → ℕ → List ℕ
op_name sig op = name_of_code (slice_index_or (map (λ (o : OpSig). o.name) sig.ops) op 0)

abbrev pub query_name : Signature → ℕ → List ℕ
query_name sig query = name_of_code (slice_index_or (map (λ (q : QuerySig). q.name) sig.queries) query 0)

-- an argument after a blank
abbrev pub arg_text : Value → List ℕ
arg_text arg = 32 ∷ value_text arg

abbrev pub args_text : List Value → List ℕ
args_text args = flat_map arg_text args

-- a number between two texts
abbrev pub number_text : List ℕ → ℕ → List ℕ → List ℕ
number_text before number behind = before ++ decimal number ++ behind

-- `do R OP ARGS at T`
abbrev pub do_text : Signature → Done → List ℕ
do_text sig done = number_text (codes "do ") done.replica (codes " ") ++ op_name sig done.op ++ args_text done.args ++ number_text (codes " at ") done.time (codes "\n")

-- `ask 1 QUERY ARGS`
abbrev pub ask_text : Signature → Call → List ℕ
ask_text sig ask = codes "ask 1 " ++ query_name sig ask.number ++ args_text ask.args ++ codes "\n"

abbrev pub script_text : Signature → History → List ℕ
script_text sig history =
    codes "replicas 2\n" ++ flat_map (do_text sig) history.ops ++ codes "ship 2 p\ndeliver p 1\n" ++ flat_map (ask_text sig) (asks_of sig)
