use Rattle.kat_num.specs.contracts.values.ValueOrd.TheImpl.Laws.{total-law}
use Rattle.kat_delta.proofs.Again.{comes_again, still_there}
use Rattle.kat_delta.proofs.laws.deltas_come_again.Goals as goal

pub returns-clause-taken : goal.returns-clause-taken
returns-clause-taken c = λ old mid packet low high first enough. still_there old mid packet low high first enough

pub returns-clause-unchanged : goal.returns-clause-unchanged
returns-clause-unchanged c = λ d old mid new packet own all ones sorted low high s p m first second. comes_again total-law c.tells_values_apart.ensures d old mid new packet own all ones sorted low high s p m first second
