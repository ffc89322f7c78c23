use Rattle.kat_share.proofs.SayOne.{packets_one, shares_one}
use Rattle.kat_share.proofs.laws.texts_say_one.Goals as goal

pub returns-clause-shares : goal.returns-clause-shares
returns-clause-shares c = shares_one c.at_most_one_judgement.ensures.one_node

pub returns-clause-packets : goal.returns-clause-packets
returns-clause-packets c = packets_one c.at_most_one_judgement.ensures.one_node
