use Rattle.std.proofs.Common.{◌≡◌, map, take}
use Rattle.kat_type.specs.Signatures.{op_sig}
use Rattle.kat_type.specs.Types.{operation_form}
use Rattle.kat_type.proofs.calls.op_sigs.Given as goal

abbrev pub invariant-loop-op : goal.invariant-loop-op
invariant-loop-op l = l.sigs.items ≡ map op_sig (map operation_form (take l.op-index l.ops))
