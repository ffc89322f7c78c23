use Rattle.kat_picture.proofs.Citing.{scripted}
use Rattle.kat_picture.proofs.histories.script_of.Goals as goal

pub returns : goal.returns
returns c =
    scripted c.args.operations.now c.loop-byte.script.items c.extend_from_slice.new.self.items c.loop-byte.byte-index c.loop-byte-test.false
    c.loop-byte.invariant c.in_ok-extend_from_slice.ensures.items
