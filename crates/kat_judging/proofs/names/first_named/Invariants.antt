use Rattle.std.proofs.Common.{◌≡◌, drop}
use Rattle.kat_judging.specs.Names.{first_named}
use Rattle.kat_judging.proofs.Lookups.{further}
use Rattle.kat_judging.proofs.names.first_named.Given as goal

abbrev pub invariant-loop-place : goal.invariant-loop-place
invariant-loop-place g l =
    first_named (λ it. (g.T.Named.word it).code) l.code l.list ≡ further l.place (first_named (λ it. (g.T.Named.word it).code) l.code (drop l.place l.list))
