use Rattle.std.proofs.Common.{◌<◌, arith, length}
use Rattle.kat_design.specs.Designs.{design_form}
use Rattle.kat_histories.specs.Differing.{Differs}
use Rattle.kat_type.specs.Types.{type_form}
use Rattle.kat_hist.proofs.Made.{first_here, none_here}
use Rattle.kat_hist.proofs.Seeking.{none_found}
use Rattle.kat_hist.proofs.trials.first_among.Goals as goal

pub returns-then-branch-clause-first : goal.returns-then-branch-clause-first
returns-then-branch-clause-first c =
    let t = c.trying-test.true in
    let n = c.len-number-end.ensures in
    let lt : c.trying.number < length c.args.whole.now = omega (arith, t, n) in
    first_here (type_form c.args.ty.now) (design_form c.args.design.now) c.args.whole.now c.trying.number c.in_ok-differs_at.field-0 lt c.in_ok-differs_at.ensures.decides c.if-branch.true c.trying.invariant.0

pub trying-preserved : goal.trying-preserved
trying-preserved c =
    let t = c.trying-test.true in
    let n = c.len-number-end.ensures in
    let lt : c.trying.number < length c.args.whole.now = omega (arith, t, n) in (
      none_here (type_form c.args.ty.now) (design_form c.args.design.now) c.args.whole.now c.trying.number c.in_ok-differs_at.field-0 lt c.in_ok-differs_at.ensures.decides c.if-branch.false c.trying.invariant.0,
      c.differs_at.ensures.kept,
    )

pub returns-clause-first : goal.returns-clause-first
returns-clause-first c =
    let t = c.trying-test.false in
    let n = c.len-number-end.ensures in
    none_found (Differs (type_form c.args.ty.now) (design_form c.args.design.now)) c.args.whole.now c.trying.number (omega (arith, t, n)) c.trying.invariant.0
