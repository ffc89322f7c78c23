use Rattle.kat_lattice.specs.Leaves.{truth_chain, truth_laws}
use Rattle.kat_difference.proofs.PieceLemmas.{whole_pieces}
use Rattle.kat_difference.proofs.Chains.{chain_told}
use Rattle.kat_difference.proofs.leaves.OrDifference.difference.Goals as goal

pub returns-clause-lacks : goal.returns-clause-lacks
returns-clause-lacks c = chain_told truth_laws truth_chain (Unit {0}) c.whole_or_none.result c.requires.known c.requires.value c.whole_or_none.ensures

pub returns-clause-piece : goal.returns-clause-piece
returns-clause-piece c = whole_pieces truth_laws c.whole_or_none.result c.requires.known c.requires.value c.whole_or_none.ensures
