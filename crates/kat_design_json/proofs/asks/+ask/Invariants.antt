use Rattle.std.proofs.Common.{◌+◌, ◌*◌, map}
use Rattle.serde_json.specs.Data.{depth}
use Rattle.serde_json.specs.View.{view}
use Rattle.kat_design_json.proofs.Nesting.{list_depth}
use Rattle.kat_design_json.proofs.asks.+ask.Given as goal

abbrev pub decreases-ask : goal.decreases-ask
decreases-ask l = 4 * depth (view l.value.now)

abbrev pub decreases-list_ask : goal.decreases-list_ask
decreases-list_ask l = 4 * list_depth (map view l.parts.now) + 3

abbrev pub decreases-ask_part : goal.decreases-ask_part
decreases-ask_part l = 4 * list_depth (map view l.parts.now) + 1

abbrev pub decreases-not_ask : goal.decreases-not_ask
decreases-not_ask l = 4 * list_depth (map view l.parts.now) + 2

abbrev pub decreases-two_asks : goal.decreases-two_asks
decreases-two_asks l = 4 * list_depth (map view l.parts.now) + 2
