use Rattle.kat_grammar.proofs.Stacked.{IsDepth}
use Rattle.kat_grammar.proofs.operands.depth.Given as goal

abbrev pub invariant-parts : goal.invariant-parts
invariant-parts l = IsDepth l.count l.part-items l.part-index
