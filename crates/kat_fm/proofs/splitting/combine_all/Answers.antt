use Rattle.std.proofs.Common.{arith, sym, pos, ◌<ℤ◌, Ok, Err, subst}
use Rattle.kat_fm.specs.Combinations.{Combination, at, combination_of}
use Rattle.kat_fm.specs.Eliminations.{couples}
use Rattle.kat_fm.specs.EntryViews.{combination_in, behind}
use Rattle.kat_fm.specs.Limits.Checked.{fits, passes}
use Rattle.kat_fm.specs.Views.{combinations}
use Rattle.kat_fm.proofs.Couplings.{combination_at, as_many, combined_in}
use Rattle.kat_fm.proofs.Leaving.{appended_alike, couples_go}
use Rattle.kat_fm.proofs.splitting.combine_all.Goals as goal

pub combine_each-requires : goal.combine_each-requires
combine_each-requires c =
    let ps = c.args.plus.now in let i = c.loop-row.row-index in let p = c.row-item.result in
    let above = c.requires i (combination_in p) (omega (arith, as_many ps)) in
    let P : Combination → Type 0 = λ x. pos 0 <ℤ at c.args.variable x in
    subst P (sym (combination_at ps i p (omega arith) c.row-item.is)) above

pub returns-in-Err : goal.returns-in-Err
returns-in-Err c =
    let v = c.args.variable in let ps = c.args.plus.now in let i = c.loop-row.row-index in let p = c.row-item.result in
    let ns = combinations c.args.minus.now in let done = combinations c.loop-row.rows.items in
    couples_go v (combinations ps) ns done i (combination_in p) (passes c.in-Err.passed.left c.in-Err.passed.right)
    (behind (combined_in v) (couples (combinations ps) ns) (combinations c.args.rows.now.items)) (omega (arith, as_many ps)) (combination_at ps i p (omega arith) c.row-item.is)
    (appended_alike (combinations c.combine_each.new.rows.items) c.in_ok-combine_each.field-0 (Err c.in-Err.passed) (behind (combination_of v (combination_in p)) ns done) c.in-Err.is c.in_ok-combine_each.ensures)
    c.loop-row.invariant

pub loop-row-preserved : goal.loop-row-preserved
loop-row-preserved c =
    let v = c.args.variable in let ps = c.args.plus.now in let i = c.loop-row.row-index in let p = c.row-item.result in
    let ns = combinations c.args.minus.now in let done = combinations c.loop-row.rows.items in let new = combinations c.combine_each.new.rows.items in
    couples_go v (combinations ps) ns done i (combination_in p) (fits new)
    (behind (combined_in v) (couples (combinations ps) ns) (combinations c.args.rows.now.items)) (omega (arith, as_many ps)) (combination_at ps i p (omega arith) c.row-item.is)
    (appended_alike new c.in_ok-combine_each.field-0 (Ok c.in-Ok.field-0) (behind (combination_of v (combination_in p)) ns done) c.in-Ok.is c.in_ok-combine_each.ensures)
    c.loop-row.invariant
