-- The values with which operations and queries are tried, and all calls with them.
use Rattle.std.specs.Prelude.{ℕ, ◌+◌, true, false, pos, neg_ℤ, List, [], ◌∷◌, ◌++◌, map, codes}
use Rattle.kat_num.specs.Names.{code_of}
use Rattle.kat_num.specs.declared.values.Sort.{Sort}
use Rattle.kat_num.specs.declared.values.Sort.TheVariants as sort
use Rattle.kat_num.specs.declared.values.Value.{Value}
use Rattle.kat_num.specs.declared.values.Value.TheVariants as value
use Rattle.kat_type.specs.declared.signatures.OpSig.{OpSig}
use Rattle.kat_type.specs.declared.signatures.QuerySig.{QuerySig}
use Rattle.kat_type.specs.declared.signatures.Signature.{Signature}
use Rattle.kat_histories.specs.Choices.{one_of_each}
use Rattle.kat_histories.specs.declared.calls.Call.{Call}

-- the pool of a sort, ascending
abbrev pub pool : Sort → List Value
pool sort.Bool = value.Bool false ∷ value.Bool true ∷ []
pool sort.Int = value.Num (neg_ℤ (pos 1)) ∷ value.Num (pos 0) ∷ value.Num (pos 1) ∷ value.Num (pos 2) ∷ []
pool sort.Nat = value.Num (pos 0) ∷ value.Num (pos 1) ∷ value.Num (pos 2) ∷ []
pool sort.Name = value.Name (code_of (codes "a")) ∷ value.Name (code_of (codes "b")) ∷ []

-- the lists of arguments of these sorts, lexicographically
abbrev pub arguments_of : List Sort → List (List Value)
arguments_of sorts = one_of_each (map pool sorts)

abbrev pub call_with : ℕ → List Value → Call
call_with number args = record { number = number; args = args }

-- all calls of what takes these sorts, numbered from here on: by number, and then by arguments
abbrev pub calls_from : ℕ → List (List Sort) → List Call
calls_from number [] = []
calls_from number (sorts ∷ more) = map (call_with number) (arguments_of sorts) ++ calls_from (number + 1) more

-- what each operation, and each query, takes
abbrev pub op_sorts : List OpSig → List (List Sort)
op_sorts ops = map (λ (op : OpSig). op.sorts) ops

abbrev pub query_sorts : List QuerySig → List (List Sort)
query_sorts queries = map (λ (query : QuerySig). query.sorts) queries

-- the calls of operations, and those of queries, with arguments of the pools
abbrev pub calls_of : Signature → List Call
calls_of sig = calls_from 0 (op_sorts sig.ops)

abbrev pub asks_of : Signature → List Call
asks_of sig = calls_from 0 (query_sorts sig.queries)
