use Rattle.std.proofs.Common.{◌≡◌, take, map}
use Rattle.kat_relation.specs.Fits.{element_kind}
use Rattle.kat_relation.proofs.fitting.element_kinds.Given as goal

abbrev pub invariant-loop-rank : goal.invariant-loop-rank
invariant-loop-rank l = l.kinds.items ≡ map (element_kind l.params) (take l.rank-index l.ranks)
