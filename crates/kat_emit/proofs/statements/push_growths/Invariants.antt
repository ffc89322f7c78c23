use Rattle.std.proofs.Common.{◌≡◌, ◌++◌, drop, map}
use Rattle.kat_emit.specs.Statements.{all_grown, part_form, stated}
use Rattle.kat_emit.proofs.statements.push_growths.Given as goal

abbrev pub invariant-loop-place : goal.invariant-loop-place
invariant-loop-place l = map stated l.into.items ++ all_grown l.place (map part_form (drop l.place l.parts)) l.op ≡ map stated l.fn.into.items ++ all_grown 0 (map part_form l.parts) l.op
