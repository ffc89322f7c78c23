use Rattle.std.proofs.Common.{map, drop}
use Rattle.kat_judging.proofs.Noting.{AllNoted}
use Rattle.kat_judging.proofs.seen.first_again.Given as goal

abbrev pub invariant-loop-named : goal.invariant-loop-named
invariant-loop-named g l =
    AllNoted l.fields l.initial.own l.own (map g.T.Named.word l.list) (map g.T.Named.word (drop l.named-index l.list)) l.first
