use Rattle.std.proofs.Common.{List, subst, sym}
use Rattle.kat_walk.specs.Marks.{LeadsTo}
use Rattle.kat_walk.specs.Walks.{stack_of}
use Rattle.kat_walk.specs.declared.turns.Frame.{Frame}
use Rattle.kat_walk.proofs.MarkLemmas.{mark_leads}
use Rattle.kat_walk.proofs.walks.walk_at.Goals as goal

pub returns-clause-stack : goal.returns-clause-stack
returns-clause-stack g c = λ stack k.
    c.in_ok-open_places.ensures stack
    (subst (λ (l : List (Frame _ _)). LeadsTo (g.G.Grammar.machine c.args.grammar.now) c.args.state c.args.places.now (stack_of l) stack) (sym c.in_ok-frames.ensures.items)
    (mark_leads (g.G.Grammar.machine c.args.grammar.now) c.args.state c.args.places.now stack k))
