use Rattle.std.proofs.Common.{◌<◌, length, arith, ap}
use Rattle.kat_fm.specs.Views.{combinations, chosen}
use Rattle.kat_fm.proofs.Choices.{choice_more}
use Rattle.kat_fm.proofs.Counting.{count_at}
use Rattle.kat_fm.proofs.choosing.choose.Goals as goal

pub loop-variable-preserved : goal.loop-variable-preserved
loop-variable-preserved c =
    let rows = combinations c.args.rows.now in let v = c.loop-variable.variable in
    let same = c.deref-counts-items.ensures.value in
    let is = count_at rows c.in_ok-all.all.items c.deref-counts-items.result.now v _ same c.in_ok-all.ensures.counts c.loop-variable-test.true in
    let below : v < c.args.vars = omega (arith, ap length same, c.in_ok-all.ensures.count) in
    record {
      best = choice_more rows (chosen c.loop-variable.best) (chosen c.better-best.result) v c.args.vars _ below (c.better-best.ensures.better rows c.loop-variable.invariant.counts is) c.loop-variable.invariant.best;
      counts = c.better-best.ensures.counted rows c.loop-variable.invariant.counts is;
    }
