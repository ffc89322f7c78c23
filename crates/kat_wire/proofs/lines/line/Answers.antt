use Rattle.std.proofs.Common.{◌≡◌, rules, [], ◌∷◌, map, Some, None}
use Rattle.serde_json.specs.View.{view}
use Rattle.kat_wire.specs.FileFaults.{line_faults}
use Rattle.kat_json.specs.Lists.{list_of, tag_of}
use Rattle.kat_wire.specs.Words.{line_words}
use Rattle.kat_json.specs.Words.{spelled}
use Rattle.kat_design.specs.Faults.{within}
use Rattle.kat_wire.proofs.UnknownWords.{line_parts, unknown_line}
use Rattle.kat_json.proofs.Refusing.{err_first, err_same, refused_here}
use Rattle.kat_wire.proofs.lines.line.Goals as goal

pub returns-in-None-clause-refused : goal.returns-in-None-clause-refused
returns-in-None-clause-refused c =
    let d = view c.args.value.now in
    let words = line_words c.args.version in
    let ds = map view c.in-Some.parts.now in
    let is : Some ds ≡ list_of d = search rules in
    let unknown : spelled words (tag_of ds) ≡ None = search rules in
    err_same c.within.result (line_faults words d) _ (line_parts words d ds is)
    (err_first c.within.result (within 0 ([] ∷ [])) _ (unknown_line words ds unknown) (c.within.ensures.err ([] ∷ []) (refused_here c.here-in-None.result c.here-in-None.ensures)))
