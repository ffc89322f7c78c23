use Rattle.std.proofs.Common.{◌^◌, List, subst}
use Rattle.kat_linear.specs.Rows.{Term}
use Rattle.kat_fm.specs.Combinations.{counted}
use Rattle.kat_fm.specs.Entries.{AreWithin}
use Rattle.kat_fm.specs.EntryViews.{multipliers_of}
use Rattle.kat_fm.proofs.Lows.{all_low, lows_fit}
use Rattle.kat_fm.proofs.multipliers.are_low.Goals as goal

pub returns : goal.returns
returns c = λ e.
    let ps = c.args.ps.now in let ns = c.args.ns.now in
    let P : List Term → Type 0 = λ es. AreWithin (2 ^ 30) es in
    let small = c.are_small.ensures c.if-not-are_small.false in
    let plus = subst P c.deref.ensures.value (c.has_low.ensures c.if-not-has_low.false) in
    let minus = subst P c.deref-2.ensures.value (c.has_low-2.ensures e) in
    lows_fit c.args.weights.now.plus c.args.weights.now.minus small.0 small.1 (multipliers_of ps) (multipliers_of ns)
    (all_low ps.entries.items (2 ^ 30) ps.ascending plus (counted 0 ps.count)) (all_low ns.entries.items (2 ^ 30) ns.ascending minus (counted 0 ns.count))
