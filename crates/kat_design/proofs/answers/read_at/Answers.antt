use Rattle.kat_design.specs.Small.{IsSmallTally}
use Rattle.kat_design.proofs.Bounds.{at_key_small}
use Rattle.kat_design.proofs.answers.read_at.Goals as goal

pub total_of-requires : goal.total_of-requires
total_of-requires c =
    let small = rw c.in-Tallies.is at c.requires in
    rw c.get-in-Tallies.ensures (at_key_small IsSmallTally c.in-Tallies.table c.args.key small)
