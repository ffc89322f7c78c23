use Rattle.kat_num.specs.contracts.values.ValueOrd.TheImpl.Laws.{total-law}
use Rattle.kat_share.proofs.Merging.{differences_merge}
use Rattle.kat_share.proofs.laws.differences_merge_as_wholes.Goals as goal

pub returns : goal.returns
returns c = differences_merge total-law c.nodes_go_with_designs.ensures.goes c.states_go_together.ensures.turned c.states_go_together.ensures.chained
