use Rattle.std.proofs.Common.{◌+◌, ◌-◌, ◌/◌, ◌<◌, true, false, length, sym, ◌∙◌, arith}
use Rattle.kat_expr.proofs.KeyOrder.{any_default, before_all, behind_all, middle_inside}
use Rattle.kat_expr.proofs.entries.place_of.Goals as goal

pub loop-low-preserved-then-is_before : goal.loop-low-preserved-then-is_before
loop-low-preserved-then-is_before c =
    let middle = c.loop-low.low + (c.loop-low.high - c.loop-low.low) / 2 in
    let inside : middle < c.loop-low.high = middle_inside c.loop-low.low c.loop-low.high c.loop-low-test.true in
    let there : middle < length c.args.entries.now = omega (arith, inside, c.loop-low.invariant.within) in
    record {
      ordered = omega (arith, inside);
      within = c.loop-low.invariant.within;
      before = before_all c.args.entries.now c.args.key middle c.requires there
          (λ d. any_default c.args.entries.now middle _ d c.args.key true there (sym c.is_before.ensures ∙ c.if-is_before.true));
      behind = c.loop-low.invariant.behind;
    }

pub loop-low-preserved : goal.loop-low-preserved
loop-low-preserved c =
    let middle = c.loop-low.low + (c.loop-low.high - c.loop-low.low) / 2 in
    let inside : middle < c.loop-low.high = middle_inside c.loop-low.low c.loop-low.high c.loop-low-test.true in
    let there : middle < length c.args.entries.now = omega (arith, inside, c.loop-low.invariant.within) in
    record {
      ordered = omega arith;
      within = omega (arith, there);
      before = c.loop-low.invariant.before;
      behind = behind_all c.args.entries.now c.args.key middle c.requires
          (λ d. any_default c.args.entries.now middle _ d c.args.key false there (sym c.is_before.ensures ∙ c.if-is_before.false));
    }
