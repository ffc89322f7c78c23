use Rattle.std.proofs.Common.{◌≡◌, ◌-◌, [], length}
use Rattle.kat_actions.proofs.Streaming.{Reached}
use Rattle.kat_actions.proofs.reader.read_calls.Given as goal

abbrev pub invariant-lines : goal.invariant-lines
invariant-lines l = Reached l.verb l.sig l.bytes l.at l.reader.calls.items l.number × (l.line.items ≡ [])

abbrev pub decreases-lines : goal.decreases-lines
decreases-lines l = length l.bytes - l.at
