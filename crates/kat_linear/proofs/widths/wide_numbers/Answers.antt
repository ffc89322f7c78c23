use Rattle.kat_linear.proofs.FirstWide.{row_ends, row_goes, narrow_up_to, ascending_up_to}
use Rattle.kat_linear.proofs.widths.wide_numbers.Goals as goal

pub wide_in_row-requires-clause-ascending : goal.wide_in_row-requires-clause-ascending
wide_in_row-requires-clause-ascending c = ascending_up_to c.args.rows.now c.loop-i.i c.requires.ascending

pub returns-in-Some : goal.returns-in-Some
returns-in-Some c = row_ends c.args.rows.now c.args.multipliers.now c.loop-i.i c.index-rows-i.result _ _ c.loop-i-test.true c.requires.lengths c.index-rows-i.is c.in-Some.ensures c.loop-i.invariant.left

pub loop-i-preserved : goal.loop-i-preserved
loop-i-preserved c = record {
  left = row_goes c.args.rows.now c.args.multipliers.now c.loop-i.i c.index-rows-i.result _ c.loop-i-test.true c.requires.lengths c.index-rows-i.is c.in_default.ensures c.loop-i.invariant.left;
  narrow = narrow_up_to c.args.rows.now c.args.multipliers.now c.loop-i.i c.index-rows-i.result c.loop-i-test.true c.requires.lengths c.index-rows-i.is c.requires.ascending c.loop-i.invariant.narrow c.in_default.ensures;
}
