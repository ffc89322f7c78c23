use Rattle.std.proofs.Common.{◌≡◌, ◌++◌, length, map}
use Rattle.std.specs.List.{flat_map}
use Rattle.serde_json.specs.View.{view}
use Rattle.kat_explain.specs.Earlier.{passed_in}
use Rattle.kat_explain.proofs.earlier.passed_texts.Given as goal

abbrev pub invariant-values : goal.invariant-values
invariant-values l = l.texts.items ++ flat_map passed_in (map view l.rest) ≡ flat_map passed_in (map view l.fn.values)

abbrev pub decreases-values : goal.decreases-values
decreases-values l = length l.rest
