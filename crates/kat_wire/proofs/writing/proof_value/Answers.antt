use Rattle.std.proofs.Common.{◌≡◌, ◌≤◌, ap, length, map, rules, take, ◌∙◌}
use Rattle.std.proofs.lemmas.List.{take_all}
use Rattle.kat_design.specs.Sorted.{EachHas}
use Rattle.kat_refute.specs.Lines.{lines_of}
use Rattle.serde_json.specs.View.{view}
use Rattle.kat_json.specs.Lists.{list}
use Rattle.kat_wire.specs.Printed.{lines_data}
use Rattle.kat_wire.specs.WrittenParts.{HasSizedNumbers}
use Rattle.kat_json.proofs.WritingLists.{printed_all}
use Rattle.kat_wire.proofs.writing.proof_value.Goals as goal

pub returns-clause-value : goal.returns-clause-value
returns-clause-value c =
    let xs = c.args.lists.now in
    let values = map view c.loop-lines.values.items in
    let past : length xs ≤ c.loop-lines.lines-index = search rules in
    let all : take c.loop-lines.lines-index xs ≡ xs = take_all c.loop-lines.lines-index xs past in
    let is : view c.from.result ≡ list values = search rules in
    is ∙ ap list (printed_all lines_of lines_data (EachHas HasSizedNumbers) values (take c.loop-lines.lines-index xs) xs c.loop-lines.invariant all).same

pub returns-clause-lines : goal.returns-clause-lines
returns-clause-lines c =
    let xs = c.args.lists.now in
    let past : length xs ≤ c.loop-lines.lines-index = search rules in
    let all : take c.loop-lines.lines-index xs ≡ xs = take_all c.loop-lines.lines-index xs past in
    (printed_all lines_of lines_data (EachHas HasSizedNumbers) (map view c.loop-lines.values.items) (take c.loop-lines.lines-index xs) xs c.loop-lines.invariant all).has
