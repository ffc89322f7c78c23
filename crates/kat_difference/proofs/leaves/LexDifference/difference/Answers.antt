use Rattle.kat_join.specs.Lexes.{lex_chain, lex_laws}
use Rattle.kat_difference.proofs.PieceLemmas.{whole_pieces}
use Rattle.kat_difference.proofs.Chains.{chain_told, kin_of}
use Rattle.kat_difference.proofs.leaves.LexDifference.difference.Goals as goal

pub whole_or_none-requires : goal.whole_or_none-requires
whole_or_none-requires g c = kin_of (lex_laws g.met.A.Lattice.laws g.met.A.Chain.chain_laws g.met.B.Lattice.laws) _ _ _ c.requires.value c.requires.known

pub returns-clause-lacks : goal.returns-clause-lacks
returns-clause-lacks g c =
    chain_told (lex_laws g.met.A.Lattice.laws g.met.A.Chain.chain_laws g.met.B.Lattice.laws) (lex_chain g.met.A.Lattice.laws g.met.A.Chain.chain_laws g.met.B.Lattice.laws g.met.B.Chain.chain_laws) (Unit {0}) c.whole_or_none.result c.requires.known c.requires.value c.whole_or_none.ensures

pub returns-clause-piece : goal.returns-clause-piece
returns-clause-piece g c = whole_pieces (lex_laws g.met.A.Lattice.laws g.met.A.Chain.chain_laws g.met.B.Lattice.laws) c.whole_or_none.result c.requires.known c.requires.value c.whole_or_none.ensures
