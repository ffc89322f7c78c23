use Rattle.std.proofs.Common.{ℕ, List, IfOk, ap, drop, subst, ◌∙◌}
use Rattle.kat_passed.specs.Passing.{AreTexts, pieces}
use Rattle.kat_passed.proofs.PieceLemmas.{all_but_first}
use Rattle.kat_passed.proofs.words.words_in.Goals as goal

pub returns : goal.returns
returns c =
    subst (λ (said : List (List ℕ)). IfOk c.texts_of.result (λ found. AreTexts said found))
    (all_but_first (λ piece. piece.now) c.in_ok-said.said.items c.behind_first.result.now (pieces c.args.bytes.now) c.in_ok-said.ensures
    (c.behind_first.ensures ∙ ap (drop 1) c.deref.ensures.value))
    c.texts_of.ensures
