use Rattle.std.proofs.Common.{rules, FitsSigned}
use Rattle.std.specs.Int.{w128}
use Rattle.std.proofs.lemmas.Int.{to_z-of_z}
use Rattle.kat_fm.specs.EntryViews.{bound_in}
use Rattle.kat_fm.proofs.Passing.{handed_on}
use Rattle.kat_fm.proofs.Comparing.{better_stops}
use Rattle.kat_fm.proofs.bounds.better_of.Goals as goal

pub returns-in_err-right : goal.returns-in_err-right
returns-in_err-right c =
    let a : FitsSigned w128 c.args.new.numerator = search rules in
    let b : FitsSigned w128 c.args.new.factor = search rules in
    let d : FitsSigned w128 c.args.kept.numerator = search rules in
    let e : FitsSigned w128 c.args.kept.factor = search rules in
    let first = simp to_z-of_z at c.in_ok-left.ensures.value in
    let second = simp to_z-of_z at c.in_err-right.ensures.value in
    handed_on _ _ _ _ c.from_residual-in_err-right.ensures.1 (better_stops c.args.lower (bound_in c.args.new) (bound_in c.args.kept) c.in_ok-left.left _ _ first second)
