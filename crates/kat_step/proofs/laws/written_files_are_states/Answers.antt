use Rattle.kat_num.specs.contracts.values.ValueOrd.TheImpl.Laws.{total-law}
use Rattle.kat_step.proofs.Files.{files_are_near, files_are_states}
use Rattle.kat_step.proofs.laws.written_files_are_states.Goals as goal

pub returns-clause-states : goal.returns-clause-states
returns-clause-states c = λ d files sorted written. files_are_states total-law c.tells_values_apart.ensures d (c.designs_mean.ensures d sorted) sorted files written

pub returns-clause-near : goal.returns-clause-near
returns-clause-near c = λ d files sorted written. files_are_near total-law c.tells_values_apart.ensures d (c.designs_mean.ensures d sorted) sorted files written
