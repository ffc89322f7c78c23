use Rattle.kat_replica.proofs.Filled.{goes_like}
use Rattle.kat_replica.proofs.applying.step_table.Goals as goal

pub join_at-requires-clause-kin : goal.join_at-requires-clause-kin
join_at-requires-clause-kin c = goes_like c.args.table.now.start c.start_value.result.now _ c.in_ok-effect.effect c.start_value.ensures c.requires.good c.in_ok-effect.ensures
