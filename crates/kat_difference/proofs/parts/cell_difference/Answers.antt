use Rattle.std.proofs.Common.{sym, subst}
use Rattle.kat_design.specs.declared.states.Part.TheVariants as part
use Rattle.kat_difference.specs.States.{IsPartTold}
use Rattle.kat_difference.proofs.Tolds.{cell_from, cell_told, cell_whole, never_both}
use Rattle.kat_difference.proofs.parts.cell_difference.Goals as goal

pub difference_or_start-requires-clause-known : goal.difference_or_start-requires-clause-known
difference_or_start-requires-clause-known c = cell_from c.args.start.now c.args.known.now c.requires.known (c.are_above.ensures.0 c.if-are_above.true).0

pub difference_or_start-requires-clause-value : goal.difference_or_start-requires-clause-value
difference_or_start-requires-clause-value c = cell_from c.args.start.now c.args.whole.now c.requires.whole (c.are_above.ensures.0 c.if-are_above.true).1

pub returns-then-are_above : goal.returns-then-are_above
returns-then-are_above c = cell_told c.args.start.now c.args.known.now c.args.whole.now c.in_ok-told.told c.requires.known c.in_ok-told.ensures.serves c.in_ok-told.ensures.piece

pub returns : goal.returns
returns c =
    subst (λ t. IsPartTold (part.Cell c.args.start.now) (part.Cell c.args.known.now) (part.Cell c.args.whole.now) (part.Cell t)) (sym c.in_ok-copy.ensures)
    (cell_whole c.args.start.now c.args.known.now c.args.whole.now c.requires.known c.requires.whole (never_both c.are_above.result c.are_above.ensures c.if-are_above.false))
