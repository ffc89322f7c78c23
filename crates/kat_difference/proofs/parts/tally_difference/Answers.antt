use Rattle.kat_difference.proofs.Tolds.{tally_from, tally_told}
use Rattle.kat_difference.proofs.parts.tally_difference.Goals as goal

pub difference_or_start-requires-clause-known : goal.difference_or_start-requires-clause-known
difference_or_start-requires-clause-known c = tally_from c.args.start.now c.args.known.now c.requires.begun c.requires.known

pub difference_or_start-requires-clause-value : goal.difference_or_start-requires-clause-value
difference_or_start-requires-clause-value c = tally_from c.args.start.now c.args.whole.now c.requires.begun c.requires.whole

pub returns : goal.returns
returns c = tally_told c.args.start.now c.args.known.now c.args.whole.now c.in_ok-told.told c.requires.begun c.requires.known c.in_ok-told.ensures.serves c.in_ok-told.ensures.piece
