use Rattle.std.proofs.Common.{◌≡◌, map, take}
use Rattle.kat_explain.specs.Relating.{rank_text}
use Rattle.kat_explain.proofs.relating.rank_texts.Given as goal

abbrev pub invariant-loop-rank : goal.invariant-loop-rank
invariant-loop-rank l = l.texts.items ≡ map (rank_text l.params) (take l.rank-index l.ranks)
