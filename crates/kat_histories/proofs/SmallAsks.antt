-- What is asked of a design and a type has small arguments.
use Rattle.std.proofs.Common.{◌^◌, List, [], ◌∷◌, arith}
use Rattle.std.specs.Prelude.{All}
use Rattle.std.proofs.lemmas.List.Elements.{All-cons, All-nil}
use Rattle.kat_num.specs.Values.{IsWithinLimit}
use Rattle.kat_num.specs.declared.values.Sort.{Sort}
use Rattle.kat_num.specs.declared.values.TheConstants.{NUMBER_LIMIT}
use Rattle.kat_num.specs.declared.values.Value.{Value}
use Rattle.kat_num.specs.declared.values.Value.TheVariants.{Bool as Truth, Num, Name}
use Rattle.kat_expr.specs.Limits.{IsAtMost}
use Rattle.kat_expr.proofs.Limits.{more_value}
use Rattle.kat_type.specs.declared.signatures.Signature.{Signature}
use Rattle.kat_type.proofs.Ordered.{all_had}
use Rattle.kat_histories.specs.Pools.{asks_of, query_sorts}
use Rattle.kat_histories.specs.declared.calls.Call.{Call}
use Rattle.kat_histories.proofs.PoolArguments.{pool_argument}
use Rattle.kat_histories.proofs.Trying.{AreOfPools, call_from}

within_limit : (v : Value) → IsWithinLimit v → IsAtMost NUMBER_LIMIT v
within_limit (Truth b) h = tt
within_limit (Num z) h = h
within_limit (Name n) h = tt

args_small : (args : List Value) (sorts : List Sort) → AreOfPools args sorts → All (IsAtMost (2 ^ 100)) args
args_small [] sorts m = All-nil (IsAtMost (2 ^ 100))
args_small (v ∷ args) [] m = absurd m
args_small (v ∷ args) (s ∷ sorts) m =
    All-cons (IsAtMost (2 ^ 100)) v args (more_value NUMBER_LIMIT (2 ^ 100) v (omega arith) (within_limit v (pool_argument s v m.0).within)) (args_small args sorts m.1)

pub asks_small : (sig : Signature) → All (λ (ask : Call). All (IsAtMost (2 ^ 100)) ask.args) (asks_of sig)
asks_small sig =
    all_had (λ (ask : Call). All (IsAtMost (2 ^ 100)) ask.args) (asks_of sig)
    (λ ask has. let c = call_from 0 (query_sorts sig.queries) ask has in args_small ask.args c.sorts c.args)
