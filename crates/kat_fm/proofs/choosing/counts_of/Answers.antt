use Rattle.std.proofs.Common.{◌∙◌, subst, arith}
use Rattle.kat_fm.specs.Combinations.{Combination}
use Rattle.kat_fm.specs.EntryViews.{combination_in}
use Rattle.kat_fm.specs.Views.{combinations, AddsRow}
use Rattle.kat_fm.proofs.Couplings.{combination_at, as_many}
use Rattle.kat_fm.proofs.Counting.{counts_more, counts_room}
use Rattle.kat_fm.proofs.choosing.counts_of.Goals as goal

pub add_row-requires : goal.add_row-requires
add_row-requires c = counts_room (combinations c.args.rows.now) c.loop-row.row-index c.loop-row.all.items (omega arith) c.loop-row.invariant.counts

pub loop-row-preserved : goal.loop-row-preserved
loop-row-preserved c =
    let rows = c.args.rows.now in let i = c.loop-row.row-index in let row = combination_in c.row-item.result in
    let P : Combination → Type 0 = λ r. AddsRow r c.loop-row.all.items c.add_row.new.all.items in
    record {
      count = c.add_row.ensures.count ∙ c.loop-row.invariant.count;
      counts = counts_more (combinations rows) i row c.loop-row.all.items c.add_row.new.all.items (omega (arith, as_many rows)) c.add_row.ensures.count c.loop-row.invariant.counts
          (subst P (combination_at rows i c.row-item.result c.loop-row-test.true c.row-item.is) c.add_row.ensures.added);
    }
