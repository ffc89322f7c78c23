use Rattle.std.proofs.Common.{◌≡◌, map, take}
use Rattle.kat_type.specs.declared.signatures.OpSig.{OpSig}
use Rattle.kat_design_json.proofs.signatures.names.Given as goal

abbrev pub invariant-loop-op : goal.invariant-loop-op
invariant-loop-op l = l.names.items ≡ map (λ (op : OpSig). op.name) (take l.op-index l.ops)
