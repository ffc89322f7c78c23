use Rattle.std.proofs.Common.{◌≡◌, ◌+◌, ◌≤◌, suc, List, length, drop, map, arith, ap, sym, ◌∙◌, false}
use Rattle.kat_form.specs.Readings.{Reading, kept}
use Rattle.kat_form.specs.Folds.{reading_of}
use Rattle.std.proofs.Common.{is_some}
use Rattle.kat_form.proofs.Parts.{kept_more, kept_length}
use Rattle.kat_form.proofs.encode.count_open.Goals as goal

pub overflow_add-count : goal.overflow_add-count
overflow_add-count c =
    let i = c.loop-part.part-index in
    let open' : is_some (reading_of c.part-item.result).constant ≡ false = ap is_some (sym c.constant.ensures) ∙ sym c.is_some.ensures ∙ c.if-is_some.false in
    let here : length (kept (map reading_of (drop i c.args.parts.now))) ≡ suc (length (kept (map reading_of (drop (i + 1) c.args.parts.now)))) = ap (λ (rs : List Reading). length rs) (kept_more c.args.parts.now i c.part-item.result c.loop-part-test.true c.part-item.is open') in
    let most : length (kept (map reading_of c.args.parts.now)) ≤ length c.args.parts.now = kept_length c.args.parts.now in
    let kept' = c.loop-part.invariant in
    omega (arith, here, most, kept')
