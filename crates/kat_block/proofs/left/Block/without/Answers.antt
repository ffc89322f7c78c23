use Rattle.std.proofs.Common.{List, refl, ap, ◌∙◌}
use Rattle.kat_relation.specs.declared.relations.Conjunct.{Conjunct}
use Rattle.kat_block.specs.Left.{conjuncts_of, without}
use Rattle.kat_block.proofs.Placing.{next_block}
use Rattle.kat_block.proofs.left.Block.without.Goals as goal

pub returns-clause-block : goal.returns-clause-block
returns-clause-block c =
    next_block c.args.self _ c.args.number c.requires refl c.in_ok-dropped.ensures (c.in_ok-numbers.ensures ∙ ap (without c.args.number) c.deref.ensures.value)
    (c.in_ok-left.ensures ∙ ap (λ (xs : List Conjunct). conjuncts_of xs c.deref-2.result.now) c.as_slice.ensures ∙ ap (conjuncts_of c.args.self.candidates.conjuncts) c.deref-2.ensures.value)
