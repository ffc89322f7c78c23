use Rattle.std.proofs.Common.{List, ℕ, sym, subst, ◌∙◌}
use Rattle.std.proofs.lemmas.Bool.{false≢true}
use Rattle.kat_said.specs.Guesses.{AreBoth, IsWhole}
use Rattle.kat_said.proofs.PointTexts.{point_parts, point_told}
use Rattle.kat_said.proofs.numerals.is_point.Goals as goal

pub returns-then-not-has : goal.returns-then-not-has
returns-then-not-has c = (λ e. absurd (false≢true e), λ is. absurd (false≢true (sym c.if-not-has.true ∙ c.has.ensures.1 (point_parts c.args.bytes.now is).0)))

pub returns-then-is_whole : goal.returns-then-is_whole
returns-then-is_whole c =
    let P : List ℕ → Type 0 = IsWhole in
    let Q : List ℕ → Type 0 = AreBoth in (
      λ e. point_told c.args.bytes.now (c.has.ensures.0 c.if-not-has.false) (subst P c.front.ensures (c.is_whole.ensures.0 c.if-is_whole.true)) (subst Q c.after.ensures (c.are_both.ensures.0 e)),
      λ is. c.are_both.ensures.1 (subst Q (sym c.after.ensures) (point_parts c.args.bytes.now is).2),
    )

pub returns-else-is_whole : goal.returns-else-is_whole
returns-else-is_whole c =
    let P : List ℕ → Type 0 = IsWhole in (
      λ e. absurd (false≢true (sym c.if-is_whole.false ∙ e)),
      λ is. c.is_whole.ensures.1 (subst P (sym c.front.ensures) (point_parts c.args.bytes.now is).1),
    )
