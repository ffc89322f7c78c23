use Rattle.std.proofs.Common.{◌≡◌, ◌++◌, map, take}
use Rattle.kat_replica.specs.Texts.{separated}
use Rattle.kat_embed.proofs.keys.push_list.Given as goal

abbrev pub invariant-loop-place : goal.invariant-loop-place
invariant-loop-place g l = l.into.items ≡ l.initial.into.items ++ separated (map g.T.Listed.text (take l.place l.items))
