use Rattle.std.proofs.Common.{◌≡◌, ◌<◌, get_or, length, rules}
use Rattle.kat_type.specs.declared.signatures.OpSig.{OpSig}
use Rattle.kat_design_json.specs.Signatures.{IsWordCode}
use Rattle.kat_json.proofs.PrintedParts.{each_image}
use Rattle.kat_design_json.proofs.signature_printing.operations_value.Goals as goal

pub operation_value-requires : goal.operation_value-requires
operation_value-requires c =
    let xs = c.args.ops.now in
    let x = c.index-ops-i.result in
    let inside : c.loop-i.i < length xs = search rules in
    let is : x ≡ get_or xs c.loop-i.i x = search rules in
    each_image IsWordCode (λ (op : OpSig). op.name) xs c.loop-i.i x c.requires inside is
