use Rattle.std.proofs.Common.{rules}
use Rattle.kat_walk.proofs.turns.advance.Goals as goal

pub returns-in_err-one_turn-clause-places : goal.returns-in_err-one_turn-clause-places
returns-in_err-one_turn-clause-places g c = λ s a. c.one_turn.ensures.places s (c.loop-token.invariant.1 s a)

pub loop-token-preserved : goal.loop-token-preserved
loop-token-preserved g c = (search rules, λ s a. c.one_turn.ensures.places s (c.loop-token.invariant.1 s a))

pub returns-in-Word-clause-places : goal.returns-in-Word-clause-places
returns-in-Word-clause-places g c = λ s a. c.one_turn.ensures.places s (c.loop-token.invariant.1 s a)
