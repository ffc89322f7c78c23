use Rattle.std.proofs.Common.{◌≡◌, ◌<◌, get_or, length, rules}
use Rattle.kat_type.specs.declared.signatures.QuerySig.{QuerySig}
use Rattle.kat_design_json.specs.Signatures.{IsWordCode}
use Rattle.kat_json.proofs.PrintedParts.{each_image}
use Rattle.kat_design_json.proofs.signature_printing.queries_value.Goals as goal

pub query_value-requires : goal.query_value-requires
query_value-requires c =
    let xs = c.args.queries.now in
    let x = c.index-queries-i.result in
    let inside : c.loop-i.i < length xs = search rules in
    let is : x ≡ get_or xs c.loop-i.i x = search rules in
    each_image IsWordCode (λ (query : QuerySig). query.name) xs c.loop-i.i x c.requires inside is
