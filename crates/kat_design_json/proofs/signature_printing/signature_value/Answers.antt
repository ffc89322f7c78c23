use Rattle.std.proofs.Common.{List, map, subst, sym}
use Rattle.kat_design.specs.Sorted.{EachHas}
use Rattle.kat_type.specs.declared.signatures.OpSig.{OpSig}
use Rattle.kat_type.specs.declared.signatures.QuerySig.{QuerySig}
use Rattle.kat_design_json.specs.Signatures.{IsWordCode}
use Rattle.kat_design_json.proofs.DesignsForth.{each_behind, each_front}
use Rattle.kat_design_json.proofs.signature_printing.signature_value.Goals as goal

pub operations_value-requires : goal.operations_value-requires
operations_value-requires c =
    let sig = c.args.sig.now in
    subst (λ (xs : List OpSig). EachHas IsWordCode (map (λ (op : OpSig). op.name) xs)) (sym c.as_slice.ensures)
    (each_front IsWordCode (map (λ (op : OpSig). op.name) sig.ops) (map (λ (query : QuerySig). query.name) sig.queries) c.requires.words)

pub queries_value-requires : goal.queries_value-requires
queries_value-requires c =
    let sig = c.args.sig.now in
    subst (λ (xs : List QuerySig). EachHas IsWordCode (map (λ (query : QuerySig). query.name) xs)) (sym c.as_slice-2.ensures)
    (each_behind IsWordCode (map (λ (op : OpSig). op.name) sig.ops) (map (λ (query : QuerySig). query.name) sig.queries) c.requires.words)
