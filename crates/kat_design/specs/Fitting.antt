-- Operations that a design can take.
use Rattle.std.specs.Prelude.{◌≡◌, ◌≤◌, Some, slice_get}
use Rattle.kat_num.specs.Values.{IsArgument}
use Rattle.kat_num.specs.declared.values.Sort.{Sort}
use Rattle.kat_num.specs.declared.values.Value.{Value}
use Rattle.kat_num.specs.declared.values.TheConstants.{NUMBER_LIMIT}
use Rattle.kat_type.specs.declared.done.Done.{Done}
use Rattle.kat_type.specs.declared.signatures.OpSig.{OpSig}
use Rattle.kat_type.specs.declared.signatures.Signature.{Signature}
use Rattle.kat_design.specs.Sorted.{AreMatched}

-- the operation is one of the signature's, with arguments of its sorts; replicas are numbered from 1 to 32
pub record FitsSignature (sig : Signature) (done : Done) : Type 0 where
  pub op : OpSig
  pub found : slice_get sig.ops done.op ≡ Some op
  pub args : AreMatched (λ (value : Value) (sort : Sort). IsArgument sort value) done.args op.sorts
  pub numbered : 1 ≤ done.replica
  pub few : done.replica ≤ 32
  pub time : done.time ≤ NUMBER_LIMIT
