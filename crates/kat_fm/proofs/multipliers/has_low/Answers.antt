use Rattle.std.proofs.Common.{◌≤◌, ◌^◌, pos, get_or, unsigned_abs, rules, FitsSigned}
use Rattle.std.specs.Int.{w64}
use Rattle.std.proofs.lemmas.Int.{to_z-of_z}
use Rattle.kat_fm.proofs.Lows.{low_rest, low_end}
use Rattle.kat_fm.proofs.multipliers.has_low.Goals as goal

pub loop-multiplier-init : goal.loop-multiplier-init
loop-multiplier-init c = λ all. all

pub loop-multiplier-preserved : goal.loop-multiplier-preserved
loop-multiplier-preserved c =
    let es = c.args.entries.now in let i = c.loop-multiplier.multiplier-index in
    let fits : FitsSigned w64 (get_or es i (0, pos 0)).1 = search rules in
    let low : unsigned_abs (get_or es i (0, pos 0)).1 ≤ 2 ^ 30 = simp to_z-of_z at c.is_low.ensures c.if-not-is_low.false in
    λ rest. c.loop-multiplier.invariant (low_rest es i (2 ^ 30) (0, pos 0) c.loop-multiplier-test.true low rest)

pub returns : goal.returns
returns c = λ e. c.loop-multiplier.invariant (low_end c.args.entries.now c.loop-multiplier.multiplier-index (2 ^ 30) c.loop-multiplier-test.false)
