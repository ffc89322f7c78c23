use Rattle.std.proofs.Common.{arith}
use Rattle.kat_fm.specs.Combinations.{combination_of}
use Rattle.kat_fm.specs.EntryViews.{combination_in, behind}
use Rattle.kat_fm.specs.Views.{combinations}
use Rattle.kat_fm.proofs.Couplings.{combination_at, as_many}
use Rattle.kat_fm.proofs.Leaving.{made_ok, made_err, made_more, made_stops}
use Rattle.kat_fm.proofs.splitting.combine_each.Goals as goal

pub returns-in-Err : goal.returns-in-Err
returns-in-Err c =
    let ns = c.args.minus.now in let i = c.loop-row.row-index in let n = c.row-item.result in
    let f = combination_of c.args.variable (combination_in c.args.plus.now) in
    made_stops f (combinations ns) i (combination_in n) c.in-Err.passed.left c.in-Err.passed.right (combinations c.loop-row.rows.items) (behind f (combinations ns) (combinations c.args.rows.now.items))
    (omega (arith, as_many ns)) (combination_at ns i n (omega arith) c.row-item.is)
    (made_err c.deref.result.now (f (combination_in n)) c.in_ok-made.field-0 c.in-Err.passed c.in_ok-made.ensures c.in-Err.is) c.loop-row.invariant

pub loop-row-preserved : goal.loop-row-preserved
loop-row-preserved c =
    let ns = c.args.minus.now in let i = c.loop-row.row-index in let n = c.row-item.result in
    let f = combination_of c.args.variable (combination_in c.args.plus.now) in
    made_more f (combinations ns) i (combination_in n) (combinations c.loop-row.rows.items) (combinations c.add.new.rows.items) c.in-Ok.made (behind f (combinations ns) (combinations c.args.rows.now.items))
    (omega (arith, as_many ns)) (combination_at ns i n (omega arith) c.row-item.is)
    (made_ok c.deref.result.now c.loop-row.rows.items (f (combination_in n)) c.in_ok-made.field-0 c.in-Ok.made c.deref.ensures.value c.in_ok-made.ensures c.in-Ok.is)
    c.in_ok-add-in-Ok.ensures c.loop-row.invariant
