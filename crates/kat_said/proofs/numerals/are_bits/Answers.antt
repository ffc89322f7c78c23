use Rattle.std.proofs.Common.{List, ℕ, refl, sym, subst, ◌∙◌}
use Rattle.std.proofs.lemmas.Bool.{false≢true}
use Rattle.kat_said.specs.Guesses.{IsBit, front, words}
use Rattle.kat_said.proofs.PointTexts.{no_words, bits_are, bits_told, word_first, word_more}
use Rattle.kat_said.proofs.numerals.are_bits.Goals as goal

pub returns-then-not-is_begun : goal.returns-then-not-is_begun
returns-then-not-is_begun c = (λ e. absurd (false≢true e), λ is. absurd (false≢true (sym c.if-not-is_begun.true ∙ c.is_begun.ensures.1 (bits_are c.args.bytes.now is).0)))

pub returns-then-not-is_bit : goal.returns-then-not-is_bit
returns-then-not-is_bit c = (
  λ e. absurd (false≢true e),
  λ is.
      let P : List ℕ → Type 0 = IsBit in
      let first = word_first IsBit (words c.words.left.now) (words c.in-Some.rest.now) (front 32 c.in-Some.rest.now) c.in-Some.ensures.0 (c.words.invariant.back (bits_are c.args.bytes.now is).1) in
      absurd (false≢true (sym c.if-not-is_bit.true ∙ c.is_bit.ensures.1 (subst P (sym c.front.ensures) first))),
)

pub words-preserved : goal.words-preserved
words-preserved c =
    let P : List ℕ → Type 0 = IsBit in
    let more = word_more IsBit (words c.words.left.now) (words c.in-Some.rest.now) (front 32 c.in-Some.rest.now) c.in-Some.ensures.0 (subst P c.front.ensures (c.is_bit.ensures.0 c.if-not-is_bit.false)) in
    record { forth = λ all. c.words.invariant.forth (more.0 all); back = λ all. more.1 (c.words.invariant.back all) }

pub returns : goal.returns
returns c = (λ e. bits_told c.args.bytes.now (c.is_begun.ensures.0 c.if-not-is_begun.false) (c.words.invariant.forth (no_words IsBit (words c.words.left.now) c.in_default.ensures)), λ is. refl)
