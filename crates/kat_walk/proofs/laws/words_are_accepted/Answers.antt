use Rattle.kat_walk.proofs.WordLemmas.{accepted_word, word_accepted}
use Rattle.kat_walk.proofs.laws.words_are_accepted.Goals as goal

pub returns-clause-all : goal.returns-clause-all
returns-clause-all g c = λ most s w h. word_accepted (g.G.Grammar.machine c.args.grammar.now) most s w h

pub returns-clause-each : goal.returns-clause-each
returns-clause-each g c = λ most s w a k. accepted_word (g.G.Grammar.machine c.args.grammar.now) most s w a k
