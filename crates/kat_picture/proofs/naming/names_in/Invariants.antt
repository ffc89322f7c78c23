use Rattle.std.proofs.Common.{◌-◌, ◌≤◌, length}
use Rattle.kat_picture.proofs.Noting.{Noting}
use Rattle.kat_script.specs.declared.rules.TheConstants.{CALL_LIMIT}
use Rattle.kat_picture.proofs.naming.names_in.Given as goal

abbrev pub invariant-lines : goal.invariant-lines
invariant-lines l =
    (length l.found.ops.items ≤ CALL_LIMIT) × (length l.found.queries.items ≤ CALL_LIMIT) × Noting l.bytes l.at l.found.words.items

abbrev pub decreases-lines : goal.decreases-lines
decreases-lines l = length l.bytes - l.at
