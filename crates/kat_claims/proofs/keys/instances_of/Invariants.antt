use Rattle.std.proofs.Common.{◌≡◌, ◌++◌, drop}
use Rattle.kat_claims.specs.Places.{instances_of}
use Rattle.kat_claims.proofs.keys.instances_of.Given as goal

abbrev pub invariant-loop-key : goal.invariant-loop-key
invariant-loop-key l = l.instances.items ++ instances_of l.sort (drop l.key-index l.keys) ≡ instances_of l.sort l.keys
