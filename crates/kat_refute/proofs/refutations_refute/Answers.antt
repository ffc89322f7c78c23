use Rattle.kat_refute.proofs.Refutations.{refutation_refutes, refutation_refutes_at}
use Rattle.kat_refute.proofs.refutations_refute.Goals as goal

pub returns : goal.returns
returns c = record { whole = refutation_refutes; fractions = refutation_refutes_at }
