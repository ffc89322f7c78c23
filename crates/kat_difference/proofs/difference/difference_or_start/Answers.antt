use Rattle.kat_difference.proofs.Serving.{serves_told}
use Rattle.kat_difference.proofs.PieceLemmas.{filled_pieces}
use Rattle.kat_difference.proofs.difference.difference_or_start.Goals as goal

pub returns-clause-serves : goal.returns-clause-serves
returns-clause-serves g c = serves_told g.met.L.Lattice.laws (g.L.Difference.exact c.args.start.now) c.in_ok-told.told c.filled.result c.requires.known c.requires.value c.in_ok-told.ensures.lacks c.filled.ensures

pub returns-clause-piece : goal.returns-clause-piece
returns-clause-piece g c = filled_pieces (g.L.Difference.is_piece c.args.start.now) c.args.start.now c.args.value.now c.in_ok-told.told c.filled.result c.in_ok-told.ensures.piece c.filled.ensures
