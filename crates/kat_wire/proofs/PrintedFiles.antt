-- What is printed of a file has no float.
use Rattle.std.proofs.Common.{refl, ℕ, List}
use Rattle.kat_relation.specs.declared.relations.Conjunct.{Conjunct}
use Rattle.kat_relation.specs.declared.relations.Conjunct.TheVariants.{Query, Equal, Bounded, AtLeast, Matched, Total}
use Rattle.kat_wire.specs.Printed.{conjunct_data, ref_data, line_data, cause_data, earlier_data, file_data, lines_data, passed_over_data}
use Rattle.kat_json.proofs.PrintedParts.{IsWhole, map_whole, integer_whole}
use Rattle.kat_refute.specs.Lines.{hinted, Line, rup, linear}
use Rattle.kat_json.specs.Printed.{integer_data, natural}
use Rattle.kat_wire.specs.declared.causes.Cause.{Cause}
use Rattle.kat_wire.specs.FileForms.{FileForm}
use Rattle.kat_design_json.specs.PrintedDesigns.{ask_data, component_data, operation_data, query_data}
use Rattle.kat_design_json.proofs.PrintedDesigns.{component_whole, ask_whole, operation_whole, query_whole}
use Rattle.kat_wire.specs.declared.causes.Cause.TheVariants as cause

-- relations and proofs
conjunct_whole : (c : Conjunct) → IsWhole (conjunct_data c)
conjunct_whole (Query n) = refl
conjunct_whole (Equal field leaf) = refl
conjunct_whole (Bounded leaves position) = let first = map_whole ref_data (λ leaf. refl) leaves in rw first refl
conjunct_whole (AtLeast leaf position digit) = refl
conjunct_whole (Matched first position second later digit) = refl
conjunct_whole (Total n) = refl

line_whole : (line : Line) → IsWhole (line_data line)
line_whole (rup literals) = let first = map_whole integer_data integer_whole literals in rw first refl
line_whole (linear literals multipliers) =
    let first = map_whole integer_data integer_whole literals in let second = map_whole integer_data integer_whole multipliers in rw (first, second) refl
line_whole (hinted literals hints) =
    let first = map_whole integer_data integer_whole literals in let second = map_whole natural (λ n. refl) hints in rw (first, second) refl

cause_whole : (c : Cause) → IsWhole (cause_data c)
cause_whole cause.OpenCert = refl
cause_whole cause.Spent = refl
cause_whole cause.Rows = refl
cause_whole cause.Wide = refl
cause_whole cause.Long = refl

pub file_whole : (f : FileForm) (earlier : List (ℕ × Cause)) → IsWhole (file_data f (earlier_data earlier))
file_whole f earlier =
    let ops = map_whole operation_data operation_whole f.design.sig.ops in
    let queries = map_whole query_data query_whole f.design.sig.queries in
    let components = map_whole component_data component_whole f.design.components in
    let asks = map_whole ask_data ask_whole f.design.asks in
    let relation = map_whole conjunct_data conjunct_whole f.relation in
    let proof = map_whole lines_data (λ lines. map_whole line_data line_whole lines) f.proof in
    let last = map_whole passed_over_data (λ item. let first = cause_whole item.1 in rw first refl) earlier in
    rw (ops, queries, components, asks, relation, proof, last) refl
