use Rattle.std.proofs.Common.{◌++◌, List, ℕ, ◌∙◌, ap, subst, sym}
use Rattle.kat_said.specs.Guesses.{IsPointFor, line_with}
use Rattle.kat_said.specs.Sayings.{said_form}
use Rattle.kat_said.proofs.Lines.{written_told}
use Rattle.kat_said.proofs.reading.is_written.Goals as goal

pub returns : goal.returns
returns c =
    let P : List ℕ → Type 0 = IsPointFor (said_form c.args.said.now) in
    let text = c.deref.ensures.value ∙ c.in_ok-push_line.ensures ∙ ap (λ (l : List ℕ). l ++ line_with (said_form c.args.said.now) c.point_part-point.result.now) c.new-text.ensures.items in
    written_told (said_form c.args.said.now) c.args.line.now c.point_part-point.result.now c.deref.result.now c.is_same.result c.point_part-point.ensures (subst P (sym c.point_part-point.ensures) c.requires.point) text c.requires.narrow c.is_same.ensures
