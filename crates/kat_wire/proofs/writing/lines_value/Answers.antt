use Rattle.std.proofs.Common.{◌≡◌, ◌≤◌, ap, length, map, rules, take, ◌∙◌}
use Rattle.std.proofs.lemmas.List.{take_all}
use Rattle.kat_refute.specs.Lines.{line_of}
use Rattle.serde_json.specs.View.{view}
use Rattle.kat_json.specs.Lists.{list}
use Rattle.kat_wire.specs.Printed.{line_data}
use Rattle.kat_wire.specs.WrittenParts.{HasSizedNumbers}
use Rattle.kat_json.proofs.WritingLists.{printed_all}
use Rattle.kat_wire.proofs.writing.lines_value.Goals as goal

pub returns-clause-value : goal.returns-clause-value
returns-clause-value c =
    let xs = c.args.lines.now in
    let values = map view c.loop-line.values.items in
    let past : length xs ≤ c.loop-line.line-index = search rules in
    let all : take c.loop-line.line-index xs ≡ xs = take_all c.loop-line.line-index xs past in
    let is : view c.from.result ≡ list values = search rules in
    is ∙ ap list (printed_all line_of line_data HasSizedNumbers values (take c.loop-line.line-index xs) xs c.loop-line.invariant all).same

pub returns-clause-lines : goal.returns-clause-lines
returns-clause-lines c =
    let xs = c.args.lines.now in
    let past : length xs ≤ c.loop-line.line-index = search rules in
    let all : take c.loop-line.line-index xs ≡ xs = take_all c.loop-line.line-index xs past in
    (printed_all line_of line_data HasSizedNumbers (map view c.loop-line.values.items) (take c.loop-line.line-index xs) xs c.loop-line.invariant all).has
