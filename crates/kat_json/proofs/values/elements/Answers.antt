use Rattle.std.proofs.Common.{map, rules}
use Rattle.serde_json.specs.View.{view}
use Rattle.kat_json.proofs.ListLemmas.{as_list}
use Rattle.kat_json.proofs.values.elements.Goals as goal

pub returns-in-Some : goal.returns-in-Some
returns-in-Some c = as_list (view c.args.value.now) (map view c.as_slice.result.now) (search rules)
