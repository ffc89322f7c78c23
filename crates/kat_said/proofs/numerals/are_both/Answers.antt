use Rattle.std.proofs.Common.{List, ℕ, sym, subst, ◌∙◌}
use Rattle.std.proofs.lemmas.Bool.{false≢true}
use Rattle.kat_said.specs.Guesses.{AreBits, AreWholes}
use Rattle.kat_said.proofs.PointTexts.{both_parts, both_told}
use Rattle.kat_said.proofs.numerals.are_both.Goals as goal

pub returns-then-not-has : goal.returns-then-not-has
returns-then-not-has c = (λ e. absurd (false≢true e), λ is. absurd (false≢true (sym c.if-not-has.true ∙ c.has.ensures.1 (both_parts c.args.bytes.now is).0)))

pub returns-then-are_wholes : goal.returns-then-are_wholes
returns-then-are_wholes c =
    let P : List ℕ → Type 0 = AreWholes in
    let Q : List ℕ → Type 0 = AreBits in (
      λ e. both_told c.args.bytes.now (c.has.ensures.0 c.if-not-has.false) (subst P c.front.ensures (c.are_wholes.ensures.0 c.if-are_wholes.true)) (subst Q c.after.ensures (c.are_bits.ensures.0 e)),
      λ is. c.are_bits.ensures.1 (subst Q (sym c.after.ensures) (both_parts c.args.bytes.now is).2),
    )

pub returns-else-are_wholes : goal.returns-else-are_wholes
returns-else-are_wholes c =
    let P : List ℕ → Type 0 = AreWholes in (
      λ e. absurd (false≢true (sym c.if-are_wholes.false ∙ e)),
      λ is. c.are_wholes.ensures.1 (subst P (sym c.front.ensures) (both_parts c.args.bytes.now is).1),
    )
