use Rattle.std.proofs.Common.{◌≡◌, pos, sym, ap, ◌∙◌, rules, FitsSigned, to_z}
use Rattle.std.specs.Int.{w64}
use Rattle.std.proofs.lemmas.Int.{to_z-of_z}
use Rattle.kat_linear.specs.Rows.{form_of, forms}
use Rattle.kat_linear.proofs.FirstWide.{zero_row}
use Rattle.kat_linear.proofs.widths.wide_in_row.Goals as goal

pub returns-then-multiplier-eq0 : goal.returns-then-multiplier-eq0
returns-then-multiplier-eq0 c =
    let m = c.args.multiplier.now in
    let fits : FitsSigned w64 c.args.multiplier.now = search rules in
    let none : c.args.multiplier.now ≡ pos 0 = sym (to_z-of_z w64 m fits) ∙ ap (to_z w64) c.if-multiplier-eq0.true in
    zero_row (forms c.args.before.now) c.args.done.now m (form_of c.args.row.now) c.requires.narrow none
