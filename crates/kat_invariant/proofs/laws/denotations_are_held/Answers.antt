use Rattle.kat_num.specs.contracts.values.ValueOrd.TheImpl.Laws.{total-law}
use Rattle.kat_invariant.proofs.HeldRuns.{denotations_are_held}
use Rattle.kat_invariant.proofs.laws.denotations_are_held.Goals as goal

pub returns : goal.returns
returns c = denotations_are_held total-law c.tells_values_apart.ensures
