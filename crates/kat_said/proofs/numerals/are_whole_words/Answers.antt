use Rattle.std.proofs.Common.{List, ℕ, refl, sym, subst, ◌∙◌}
use Rattle.std.proofs.lemmas.Bool.{false≢true}
use Rattle.kat_said.specs.Guesses.{IsWhole, front, words}
use Rattle.kat_said.proofs.PointTexts.{no_words, word_first, word_more}
use Rattle.kat_said.proofs.numerals.are_whole_words.Goals as goal

pub returns-then-not-is_whole : goal.returns-then-not-is_whole
returns-then-not-is_whole c = (
  λ e. absurd (false≢true e),
  λ is.
      let P : List ℕ → Type 0 = IsWhole in
      let first = word_first IsWhole (words c.words.left.now) (words c.in-Some.rest.now) (front 32 c.in-Some.rest.now) c.in-Some.ensures.0 (c.words.invariant.back is) in
      absurd (false≢true (sym c.if-not-is_whole.true ∙ c.is_whole.ensures.1 (subst P (sym c.front.ensures) first))),
)

pub words-preserved : goal.words-preserved
words-preserved c =
    let P : List ℕ → Type 0 = IsWhole in
    let more = word_more IsWhole (words c.words.left.now) (words c.in-Some.rest.now) (front 32 c.in-Some.rest.now) c.in-Some.ensures.0 (subst P c.front.ensures (c.is_whole.ensures.0 c.if-not-is_whole.false)) in
    record { forth = λ all. c.words.invariant.forth (more.0 all); back = λ all. more.1 (c.words.invariant.back all) }

pub returns : goal.returns
returns c = (λ e. c.words.invariant.forth (no_words IsWhole (words c.words.left.now) c.in_default.ensures), λ is. refl)
