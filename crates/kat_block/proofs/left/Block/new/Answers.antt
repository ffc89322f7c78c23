use Rattle.std.proofs.Common.{List, ap, ◌∙◌, length, arith}
use Rattle.kat_relation.specs.declared.relations.Conjunct.{Conjunct}
use Rattle.kat_block.specs.Left.{conjuncts_of, numbers_from}
use Rattle.kat_block.proofs.Placing.{first_block}
use Rattle.kat_block.proofs.left.Block.new.Goals as goal

pub returns-clause-block : goal.returns-clause-block
returns-clause-block c =
    first_block _ (omega (arith, c.if-count-gt-MOST_CANDIDATES.false, ap length c.as_slice-count.ensures)) c.new.ensures.items
    (c.in_ok-numbers.ensures ∙ ap (λ (xs : List Conjunct). numbers_from 0 (length xs)) c.as_slice-count.ensures)
    (c.in_ok-left.ensures ∙ ap (λ (xs : List Conjunct). conjuncts_of xs c.deref.result.now) c.as_slice.ensures ∙ ap (conjuncts_of c.in_ok-candidates.candidates.conjuncts) c.deref.ensures.value)
