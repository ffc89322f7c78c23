use Rattle.std.proofs.Common.{ap, ◌∙◌, Some}
use Rattle.kat_fm.proofs.Tidiness.{contradiction_here}
use Rattle.kat_fm.proofs.tidying.find_contradiction.Goals as goal

pub returns-then-is_contradiction : goal.returns-then-is_contradiction
returns-then-is_contradiction c =
    ap (λ ms. Some ms) c.in_ok-spread.ensures ∙ contradiction_here c.args.rows.now c.loop-row.row-index c.row-item.result _ c.loop-row-test.true c.row-item.is c.if-is_contradiction.ensures c.loop-row.invariant
