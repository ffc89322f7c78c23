use Rattle.std.proofs.Common.{arith}
use Rattle.std.proofs.lemmas.Grind.{common_steps}
use Rattle.kat_num.specs.contracts.values.ValueOrd.TheImpl.Laws.{total-law}
use Rattle.kat_replica.proofs.Going.{joins_go}
use Rattle.kat_replica.proofs.replicas.Replica.take_in.Goals as goal

pub returns-clause-goes : goal.returns-clause-goes
returns-clause-goes c = joins_go total-law c.args.self.now.state.parts c.args.state.now.parts c.from_vec.result c.requires.kin (grind (arith, common_steps))
