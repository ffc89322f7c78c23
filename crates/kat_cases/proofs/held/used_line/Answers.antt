use Rattle.std.proofs.Common.{◌∙◌, ap, arith, rules, FitsSigned, get_or, pos, neg_ℤ, to_z, of_z}
use Rattle.std.specs.Int.{w32, w64}
use Rattle.std.proofs.lemmas.Int.{to_z-of_z}
use Rattle.kat_cases.specs.Nodes.{used_literals, used_multipliers}
use Rattle.kat_cases.proofs.Loops.{used_skip, multipliers_skip, used_push, multipliers_push}
use Rattle.kat_cases.proofs.held.used_line.Goals as goal

pub loop-i-preserved-then-multiplier-le0 : goal.loop-i-preserved-then-multiplier-le0
loop-i-preserved-then-multiplier-le0 c =
    let ks = c.args.held.now in
    let ms = c.args.multipliers.now in
    let fits : FitsSigned w64 (get_or c.args.multipliers.now c.loop-i.i (pos 0)) = search rules in
    let none = rw (to_z-of_z w64 (get_or c.args.multipliers.now c.loop-i.i (pos 0)) fits) at c.if-multiplier-le0.true in (
      used_skip ks ms c.loop-i.lits.items (used_literals ks ms) c.loop-i.i (omega (arith, c.requires.sizes)) (omega arith) none c.loop-i.invariant.0,
      multipliers_skip ms c.loop-i.used.items (used_multipliers ms) c.loop-i.i (omega arith) none c.loop-i.invariant.1,
    )

pub loop-i-preserved : goal.loop-i-preserved
loop-i-preserved c =
    let ks = c.args.held.now in
    let ms = c.args.multipliers.now in
    let m = get_or c.args.multipliers.now c.loop-i.i (pos 0) in
    let k = get_or c.args.held.now c.loop-i.i (pos 0) in
    let fits : FitsSigned w64 (get_or c.args.multipliers.now c.loop-i.i (pos 0)) = search rules in
    let fits_k : FitsSigned w32 (get_or c.args.held.now c.loop-i.i (pos 0)) = search rules in
    let fits_o : FitsSigned w32 c.opposite.result = search rules in
    let some = rw (to_z-of_z w64 (get_or c.args.multipliers.now c.loop-i.i (pos 0)) fits) at c.if-multiplier-le0.false in (
      used_push ks ms c.loop-i.lits.items c.push.new.self.items (used_literals ks ms) c.loop-i.i (to_z w32 (of_z w32 c.opposite.result)) (omega (arith, c.requires.sizes)) (omega arith) some
          (to_z-of_z w32 c.opposite.result fits_o ∙ c.opposite.ensures ∙ ap neg_ℤ (to_z-of_z w32 k fits_k)) c.in_ok-push.ensures.items c.loop-i.invariant.0,
      multipliers_push ms c.loop-i.used.items c.push-in-loop-i.new.self.items (used_multipliers ms) c.loop-i.i (to_z w64 (of_z w64 m)) (omega arith) some (to_z-of_z w64 m fits) c.in_ok-push-2.ensures.items c.loop-i.invariant.1,
    )
