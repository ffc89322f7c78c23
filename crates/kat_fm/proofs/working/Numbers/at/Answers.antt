use Rattle.std.proofs.Common.{List, ◌∙◌, sym, ap, pos, length, get_or, FitsSigned, arith, rules}
use Rattle.std.specs.Int.{w128}
use Rattle.std.proofs.lemmas.Int.{to_z-of_z}
use Rattle.kat_linear.specs.Rows.{Term}
use Rattle.kat_linear.proofs.Columns.{coefficient_at}
use Rattle.kat_fm.proofs.working.Numbers.at.Goals as goal

pub returns-then-at-place : goal.returns-then-at-place
returns-then-at-place c =
    let es = c.args.self.now.entries.items in let xs = c.deref-at-items.result.now in let i = c.loop-at.at-index in
    let same = c.deref-at-items.ensures.value in
    let fits : FitsSigned w128 (get_or xs i (0, pos 0)).1 = search rules in
    to_z-of_z _ _ fits
    ∙ ap (λ (ys : List Term). (get_or ys i (0, pos 0)).1) same
    ∙ sym (c.loop-at.invariant ∙ coefficient_at es i (0, pos 0) c.args.place c.args.self.now.ascending (omega (arith, ap length same)) (ap (λ (ys : List Term). (get_or ys i (0, pos 0)).0) (sym same) ∙ c.if-at-place.true))
