use Rattle.std.proofs.Common.{◌≡◌, length}
use Rattle.kat_picture.specs.Packets.{shipping_of}
use Rattle.kat_picture.proofs.shipping.shipping_of.Given as goal

abbrev pub invariant-ships : goal.invariant-ships
invariant-ships l = shipping_of l.packet l.rest ≡ shipping_of l.packet l.fn.ships

abbrev pub decreases-ships : goal.decreases-ships
decreases-ships l = length l.rest
