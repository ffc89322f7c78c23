use Rattle.kat_difference.proofs.BothParts.{first_from, pair_told, second_from}
use Rattle.kat_difference.proofs.PieceLemmas.{pair_pieces}
use Rattle.kat_difference.proofs.pairs.PairDifference.difference.Goals as goal

pub difference-requires-clause-known : goal.difference-requires-clause-known
difference-requires-clause-known g c = first_from g.met.A.Lattice.laws g.met.B.Lattice.laws c.args.start.now c.args.known.now c.requires.known

pub difference-requires-clause-value : goal.difference-requires-clause-value
difference-requires-clause-value g c = first_from g.met.A.Lattice.laws g.met.B.Lattice.laws c.args.start.now c.args.self.now c.requires.value

pub difference-requires-2-clause-known : goal.difference-requires-2-clause-known
difference-requires-2-clause-known g c = second_from g.met.A.Lattice.laws g.met.B.Lattice.laws c.args.start.now c.args.known.now c.requires.known

pub difference-requires-2-clause-value : goal.difference-requires-2-clause-value
difference-requires-2-clause-value g c = second_from g.met.A.Lattice.laws g.met.B.Lattice.laws c.args.start.now c.args.self.now c.requires.value

pub returns-clause-lacks : goal.returns-clause-lacks
returns-clause-lacks g c =
    pair_told g.met.A.Lattice.laws g.met.B.Lattice.laws (g.A.Difference.exact c.args.start.now.first) (g.B.Difference.exact c.args.start.now.second) c.args.start.now c.args.known.now c.args.self.now c.in_ok-first.first c.in_ok-second.second c.pair_of.result c.requires.known c.requires.value c.in_ok-first.ensures.lacks c.in_ok-second.ensures.lacks c.pair_of.ensures

pub returns-clause-piece : goal.returns-clause-piece
returns-clause-piece g c =
    pair_pieces g.A.Difference.is_piece g.B.Difference.is_piece c.args.start.now c.args.self.now c.in_ok-first.first c.in_ok-second.second c.pair_of.result c.in_ok-first.ensures.piece c.in_ok-second.ensures.piece c.pair_of.ensures
