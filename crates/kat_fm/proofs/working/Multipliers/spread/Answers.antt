use Rattle.std.proofs.Common.{◌≡◌, get_or, pos, replicate, set, sym, ◌∙◌, subst, rules, refl, FitsSigned}
use Rattle.std.specs.Int.{w64}
use Rattle.std.proofs.lemmas.Int.{to_z-of_z}
use Rattle.kat_linear.specs.Rows.{Term, AreAscending}
use Rattle.kat_fm.proofs.Spreads.{nothing_spread, spread_more}
use Rattle.kat_fm.proofs.working.Multipliers.spread.Goals as goal

pub loop-place-init : goal.loop-place-init
loop-place-init c = let items : c.in_ok-all.all.items ≡ replicate c.args.self.now.count (pos 0) = search rules in items ∙ sym (nothing_spread c.args.self.now.count)

pub loop-place-preserved : goal.loop-place-preserved
loop-place-preserved c =
    let s = c.args.self.now in let xs = c.deref-place-items.result.now in let i = c.loop-place.place-index in
    let e : Term = get_or xs i (0, pos 0) in
    let same = c.deref-place-items.ensures.value in
    let fits : FitsSigned w64 e.1 = search rules in
    let ascending : AreAscending xs = subst AreAscending (sym same) s.ascending in
    simp to_z-of_z (spread_more s.count xs i (0, pos 0) c.loop-place.all.items (set c.loop-place.all.items e.0 e.1) ascending c.loop-place-test.true c.loop-place.invariant refl)
