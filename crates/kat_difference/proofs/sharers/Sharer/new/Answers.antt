use Rattle.kat_difference.proofs.sharers.Sharer.new.Goals as goal

pub returns : goal.returns
returns c = record { clock = c.in_ok-replica.ensures.clock; state = c.in_ok-replica.ensures.state; marks = c.new-marks.ensures }
