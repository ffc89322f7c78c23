use Rattle.kat_wire.proofs.Judging.{never_both, one_file, one_refusal}
use Rattle.kat_wire.proofs.laws.at_most_one_judgement.Goals as goal

pub returns-clause-one_file : goal.returns-clause-one_file
returns-clause-one_file c = one_file

pub returns-clause-one_refusal : goal.returns-clause-one_refusal
returns-clause-one_refusal c = one_refusal

pub returns-clause-never_both : goal.returns-clause-never_both
returns-clause-never_both c = never_both
