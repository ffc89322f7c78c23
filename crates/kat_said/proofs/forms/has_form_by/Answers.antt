use Rattle.std.proofs.Common.{◌↔◌, All, IsTrue, List, ℕ, ap, subst, ◌∙◌}
use Rattle.kat_said.specs.Guesses.{IsWhole, after, behind, words}
use Rattle.kat_said.specs.declared.said.Place.{Place}
use Rattle.kat_said.proofs.forms.has_form_by.Goals as goal

pub returns-then-tag-eq114-clause-rows : goal.returns-then-tag-eq114-clause-rows
returns-then-tag-eq114-clause-rows c =
    let P : List ℕ → Type 0 = λ x. IsTrue c.are_whole_words.result ↔ All IsWhole (words x) in
    let numbers = c.behind-numbers.ensures ∙ ap (λ (at : Place). behind at c.args.bytes.now) c.place_in-then-tag-eq114.ensures in
    let second = c.after-then-tag-eq114.ensures ∙ ap (after 32) numbers in
    λ _. subst P (c.after-then-tag-eq114-2.ensures ∙ ap (after 32) second) c.are_whole_words.ensures

pub returns-then-tag-eq119-clause-wide : goal.returns-then-tag-eq119-clause-wide
returns-then-tag-eq119-clause-wide c =
    let P : List ℕ → Type 0 = λ x. IsTrue c.are_whole_words-then-tag-eq119.result ↔ All IsWhole (words x) in
    let numbers = c.behind-then-tag-eq119.ensures ∙ ap (λ (at : Place). behind at c.args.bytes.now) c.place_in-then-tag-eq119.ensures in
    λ _. subst P (c.after-then-tag-eq119.ensures ∙ ap (after 32) numbers) c.are_whole_words-then-tag-eq119.ensures
