use Rattle.std.proofs.Common.{◌≡◌, ℕ, ◌<◌, neg_ℤ, length, set as put_at, pos, sym, ap, ◌∙◌, arith, rules, subst, Contains, FitsSigned, to_z, of_z}
use Rattle.std.specs.Int.{w32}
use Rattle.std.proofs.Math.IntN.{neg_ℤ-neg_ℤ}
use Rattle.std.proofs.lemmas.Int.{to_z-of_z}
use Rattle.std.proofs.lemmas.List.{get_or_default}
use Rattle.kat_clause.specs.Clauses.{lists}
use Rattle.kat_watch.specs.States.{at}
use Rattle.kat_watch.proofs.Sets.{at_in}
use Rattle.kat_watch.proofs.Passes.{all_start, all_some, all_more, none_of}
use Rattle.kat_watch.proofs.walking.walk_all.Goals as goal

pub trail-init : goal.trail-init
trail-init c = all_start (lists c.args.clauses.now) c.args.links.now c.args.set.now c.requires

pub walk-conflict-requires-clause-falsified : goal.walk-conflict-requires-clause-falsified
walk-conflict-requires-clause-falsified c =
    let set = c.trail.set in
    let trail = set.trail.items in
    let within : set.looked < length trail = omega (arith, c.len.ensures, c.trail-test.true, set.trail.ok.0) in
    let k = c.index.result.now in
    let fits : FitsSigned w32 k = search rules in
    let r = c.opposite-falsified.result in
    let fits_r : FitsSigned w32 r = search rules in
    let back : r ≡ neg_ℤ k = c.opposite-falsified.ensures ∙ ap neg_ℤ (to_z-of_z w32 k fits) in
    let same : neg_ℤ (to_z w32 (of_z w32 r)) ≡ at trail set.looked =
    ap neg_ℤ (to_z-of_z w32 r fits_r ∙ back) ∙ neg_ℤ-neg_ℤ k ∙ c.index.ensures ∙ get_or_default trail set.looked k (pos 0) within in
    subst (Contains trail) (sym same) (at_in trail set.looked within)

pub returns-then-is_some : goal.returns-then-is_some
returns-then-is_some c =
    all_some (lists c.args.clauses.now) c.args.set.now c.trail.links c.walk-conflict.new.links c.trail.set c.walk-conflict.new.set (to_z w32 (of_z w32 c.opposite-falsified.result)) c.walk-conflict.result c.trail.invariant c.walk-conflict.ensures (sym c.is_some.ensures ∙ c.if-is_some.true)

pub trail-preserved : goal.trail-preserved
trail-preserved c =
    let set = c.trail.set in
    let trail = set.trail.items in
    let within : set.looked < length trail = omega (arith, c.len.ensures, c.trail-test.true, set.trail.ok.0) in
    let k = c.index.result.now in
    let fits : FitsSigned w32 k = search rules in
    let r = c.opposite-falsified.result in
    let fits_r : FitsSigned w32 r = search rules in
    let back : r ≡ neg_ℤ k = c.opposite-falsified.ensures ∙ ap neg_ℤ (to_z-of_z w32 k fits) in
    let same : to_z w32 (of_z w32 r) ≡ neg_ℤ (at trail set.looked) = to_z-of_z w32 r fits_r ∙ back ∙ ap neg_ℤ (c.index.ensures ∙ get_or_default trail set.looked k (pos 0) within) in
    all_more (lists c.args.clauses.now) c.args.set.now c.trail.links c.walk-conflict.new.links set c.walk-conflict.new.set (to_z w32 (of_z w32 r)) c.walk-conflict.result _ (ap (λ (n : ℕ). put_at c.walk-conflict.new.set.reach.items c.walk-conflict.new.set.looked n) (omega (arith, c.len-in-trail.ensures, c.walk-conflict.new.set.trail.ok.0))) c.trail.invariant within same c.walk-conflict.ensures
    (none_of c.walk-conflict.result (sym c.is_some.ensures ∙ c.if-is_some.false))
