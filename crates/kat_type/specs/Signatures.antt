-- The signature of a type.
use Rattle.std.specs.Prelude.{◌≤◌, List, length, map, All}
use Rattle.kat_num.specs.declared.values.Sort.{Sort}
use Rattle.kat_type.specs.Limits.{item_limit, param_limit}
use Rattle.kat_type.specs.Types.{OperationForm, QueryForm, TypeForm}
use Rattle.kat_type.specs.declared.signatures.OpSig.{OpSig}
use Rattle.kat_type.specs.declared.signatures.QuerySig.{QuerySig}
use Rattle.kat_type.specs.declared.signatures.Signature.{Signature}
use Rattle.kat_type.specs.declared.types.Param.{Param}

-- the sorts of parameters, in their order
abbrev pub param_sorts : List Param → List Sort
param_sorts params = map (λ (p : Param). p.sort) params

abbrev pub op_sig : OperationForm → OpSig
op_sig o = record { name = o.name; sorts = param_sorts o.params }

abbrev pub query_sig : QueryForm → QuerySig
query_sig q = record { name = q.name; sorts = param_sorts q.params; sort = q.sort }

-- what may be called of a type: its operations and queries by name and sorts, in their order
abbrev pub signature_of : TypeForm → Signature
signature_of ty = record { ops = map op_sig ty.ops; queries = map query_sig ty.queries }

-- as many operations and queries, and arguments of each, as a type may have at most
pub record IsSmall (sig : Signature) : Type 0 where
  pub few_ops : length sig.ops ≤ item_limit
  pub few_queries : length sig.queries ≤ item_limit
  pub ops : All (λ (op : OpSig). length op.sorts ≤ param_limit) sig.ops
  pub queries : All (λ (query : QuerySig). length query.sorts ≤ param_limit) sig.queries
