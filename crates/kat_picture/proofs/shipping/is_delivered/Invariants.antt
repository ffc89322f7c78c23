use Rattle.std.proofs.Common.{◌≡◌, length}
use Rattle.kat_picture.specs.Packets.{is_delivered}
use Rattle.kat_picture.proofs.shipping.is_delivered.Given as goal

abbrev pub invariant-lines : goal.invariant-lines
invariant-lines l = is_delivered l.packet l.rest ≡ is_delivered l.packet l.fn.lines

abbrev pub decreases-lines : goal.decreases-lines
decreases-lines l = length l.rest
