use Rattle.kat_walk.specs.Walks.{stack_of}
use Rattle.kat_walk.proofs.MarkLemmas.{first_open}
use Rattle.kat_walk.proofs.Starts.{all_to_come}
use Rattle.kat_walk.proofs.walks.walk_from.Goals as goal

pub returns-clause-all : goal.returns-clause-all
returns-clause-all g c =
    all_to_come (g.G.Grammar.machine c.args.grammar.now) c.args.most c.args.state (stack_of c.in_ok-frames.frames.items)
    c.in_ok-frames.ensures c.requires.open c.requires.some

pub returns-clause-places : goal.returns-clause-places
returns-clause-places g c = first_open (g.G.Grammar.machine c.args.grammar.now) c.args.state (stack_of c.in_ok-frames.frames.items) c.in_ok-frames.ensures
