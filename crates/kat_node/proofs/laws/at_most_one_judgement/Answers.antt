use Rattle.kat_node.proofs.OneJudgement.{never_both, one_node, one_refusal}
use Rattle.kat_node.proofs.laws.at_most_one_judgement.Goals as goal

pub returns-clause-one_node : goal.returns-clause-one_node
returns-clause-one_node c = one_node

pub returns-clause-one_refusal : goal.returns-clause-one_refusal
returns-clause-one_refusal c = one_refusal

pub returns-clause-never_both : goal.returns-clause-never_both
returns-clause-never_both c = never_both
