use Rattle.kat_world.proofs.Small.{answers_few, answers_small}
use Rattle.kat_world.proofs.summary_laws.cart_answers_are_small.Goals as goal

pub returns-clause-small : goal.returns-clause-small
returns-clause-small c = answers_small

pub returns-clause-few : goal.returns-clause-few
returns-clause-few c = answers_few
