use Rattle.std.proofs.Common.{◌≡◌, take, map}
use Rattle.kat_type.specs.Types.{operation_form}
use Rattle.kat_embed.proofs.copies.copied_operations.Given as goal

abbrev pub invariant-loop-op : goal.invariant-loop-op
invariant-loop-op l = map operation_form l.copies.items ≡ map operation_form (take l.op-index l.ops)
