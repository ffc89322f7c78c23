use Rattle.std.proofs.Common.{◌-◌, arith, length, take, drop}
use Rattle.kat_fm.specs.EntryViews.{bound_in, combination_in, values_in}
use Rattle.kat_fm.specs.Views.{combinations}
use Rattle.kat_fm.proofs.Passing.{handed_on}
use Rattle.kat_fm.proofs.Couplings.{combination_at, as_many}
use Rattle.kat_fm.proofs.BoundLemmas.{best_more, best_stops}
use Rattle.kat_fm.proofs.returning.best_of.Goals as goal

pub returns-in_err-kept-2 : goal.returns-in_err-kept-2
returns-in_err-kept-2 c =
    let others = take (length c.args.rows.now - 1) (drop 1 c.args.rows.now) in let i = c.loop-row.row-index in let row = c.row-item.result in
    handed_on _ _ _ _ c.from_residual-in_err-kept-2.ensures.1 (best_stops c.args.lower c.args.variable (values_in c.args.values.now) (bound_in c.loop-row.kept) _ _ (combinations others) i (combination_in row) _ (omega (arith, as_many others)) (combination_at others i row (omega arith) c.row-item.is) c.in_err-kept-2.ensures c.loop-row.invariant)

pub loop-row-preserved : goal.loop-row-preserved
loop-row-preserved c =
    let others = take (length c.args.rows.now - 1) (drop 1 c.args.rows.now) in let i = c.loop-row.row-index in let row = c.row-item.result in
    best_more c.args.lower c.args.variable (values_in c.args.values.now) (bound_in c.loop-row.kept) (bound_in c.in_ok-kept-2.kept) (combinations others) i (combination_in row) _ (omega (arith, as_many others)) (combination_at others i row (omega arith) c.row-item.is) c.in_ok-kept-2.ensures c.loop-row.invariant
