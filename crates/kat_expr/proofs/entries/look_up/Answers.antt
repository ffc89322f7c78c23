use Rattle.std.proofs.Common.{sym, ◌∙◌, arith}
use Rattle.kat_expr.proofs.KeyOrder.{found_at, not_found}
use Rattle.kat_expr.proofs.entries.look_up.Goals as goal
use Rattle.kat_expr.proofs.entries.look_up.Goals.{else-place-entries-via-then-place-entries+else-is_same, else-place-entries-via-else-place-entries}

pub returns-then-is_same : goal.returns-then-is_same
returns-then-is_same c =
    sym (found_at c.args.key c.args.start c.args.entries.now c.place_of-place.result _ c.if-place-entries.true c.place_of-place.ensures.before
    (sym c.is_same.ensures ∙ c.if-is_same.true))

pub returns-else-place-entries : goal.returns-else-place-entries
returns-else-place-entries c =
    elim c.else-place-entries.branch [
      | else-place-entries-via-then-place-entries+else-is_same w ↦
          sym (not_found c.args.key c.args.start c.args.entries.now c.place_of-place.result _ c.requires c.place_of-place.ensures.before c.place_of-place.ensures.behind
          (λ h. sym w.is_same.ensures ∙ w.if-is_same.false))
      | else-place-entries-via-else-place-entries w ↦
          sym (not_found c.args.key c.args.start c.args.entries.now c.place_of-place.result (c.args.key, c.args.start) c.requires c.place_of-place.ensures.before c.place_of-place.ensures.behind
          (λ h. absurd (omega (arith, w.if-place-entries.false, h))))
    ]
