use Rattle.kat_invariant.proofs.Refuted.{refuted_conditions_hold}
use Rattle.kat_invariant.proofs.laws.refuted_conditions_hold.Goals as goal

pub returns : goal.returns
returns c = refuted_conditions_hold
