-- The signature of a type within the limits.
use Rattle.std.proofs.Common.{ℕ, ◌≤◌, List, length, map}
use Rattle.std.proofs.lemmas.List.{length-map}
use Rattle.std.proofs.lemmas.List.Elements.{All-map, All-weaker}
use Rattle.kat_type.specs.Fits.{IsWellSorted, OperationFits, QueryFits}
use Rattle.kat_type.specs.Limits.{param_limit}
use Rattle.kat_type.specs.Signatures.{IsSmall, op_sig, query_sig, signature_of}
use Rattle.kat_type.specs.Types.{OperationForm, QueryForm, TypeForm}
use Rattle.kat_type.specs.declared.signatures.OpSig.{OpSig}
use Rattle.kat_type.specs.declared.signatures.QuerySig.{QuerySig}
use Rattle.kat_type.specs.declared.types.Param.{Param}

pub still_few : {A B : Type 0} (f : A → B) (xs : List A) (n : ℕ) → length xs ≤ n → length (map f xs) ≤ n
still_few f xs n h = rw length-map h

pub small_signature : (ty : TypeForm) → IsWellSorted ty → IsSmall (signature_of ty)
small_signature ty fits = record {
  few_ops = still_few op_sig ty.ops _ fits.few_operations;
  few_queries = still_few query_sig ty.queries _ fits.few_queries;
  ops = All-map (λ (op : OpSig). length op.sorts ≤ param_limit) op_sig ty.ops
      (All-weaker (OperationFits ty.fields) (λ (o : OperationForm). length (op_sig o).sorts ≤ param_limit) (λ o h. still_few (λ (p : Param). p.sort) o.params _ h.few) ty.ops fits.operations);
  queries = All-map (λ (query : QuerySig). length query.sorts ≤ param_limit) query_sig ty.queries
      (All-weaker (QueryFits ty.fields) (λ (q : QueryForm). length (query_sig q).sorts ≤ param_limit) (λ q h. still_few (λ (p : Param). p.sort) q.params _ h.few) ty.queries fits.queries);
}
