use Rattle.std.proofs.Common.{◌≡◌, ◌-◌, [], length}
use Rattle.kat_delta_script.proofs.Streaming.{Reached}
use Rattle.kat_delta_script.proofs.reader.read_deltas.Given as goal

abbrev pub invariant-lines : goal.invariant-lines
invariant-lines l = Reached l.sig l.bytes l.at l.reader l.number × (l.line.items ≡ [])

abbrev pub decreases-lines : goal.decreases-lines
decreases-lines l = length l.bytes - l.at
