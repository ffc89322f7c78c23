use Rattle.kat_num.specs.contracts.values.ValueOrd.TheImpl.Laws.{total-law}
use Rattle.kat_difference.proofs.Tolds.{map_from, tallies_told}
use Rattle.kat_difference.proofs.parts.tallies_difference.Goals as goal

pub difference_or_start-requires-clause-start : goal.difference_or_start-requires-clause-start
difference_or_start-requires-clause-start c = (c.requires.begun, c.requires.itself)

pub difference_or_start-requires-clause-known : goal.difference_or_start-requires-clause-known
difference_or_start-requires-clause-known c = map_from c.args.start.now c.args.known.now c.requires.begun c.requires.known

pub difference_or_start-requires-clause-value : goal.difference_or_start-requires-clause-value
difference_or_start-requires-clause-value c = map_from c.args.start.now c.args.whole.now c.requires.begun c.requires.whole

pub returns : goal.returns
returns c = tallies_told total-law c.args.start.now c.args.known.now c.args.whole.now c.in_ok-told.told c.requires.begun c.requires.known c.requires.whole c.in_ok-told.ensures.serves c.in_ok-told.ensures.piece
