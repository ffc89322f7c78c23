use Rattle.std.proofs.Common.{◌≡◌, ◌++◌, drop, map}
use Rattle.kat_passed.specs.Passing.{files_said, named}
use Rattle.kat_passed.proofs.files.paired.Given as goal

abbrev pub invariant-loop-name : goal.invariant-loop-name
invariant-loop-name l =
    map named l.files.items ++ files_said (map (λ name. name.now) (drop l.name-index l.names)) l.counts l.rest
    ≡ files_said (map (λ name. name.now) l.names) l.fn.lengths l.fn.bytes
