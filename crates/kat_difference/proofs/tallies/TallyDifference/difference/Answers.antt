use Rattle.std.proofs.Common.{sym, ◌∙◌, subst}
use Rattle.kat_lattice.specs.Tallies.{IsTally}
use Rattle.kat_difference.proofs.PieceLemmas.{entries_of}
use Rattle.kat_difference.proofs.Points.{tally_picked, tally_told_none, tally_told_some}
use Rattle.kat_difference.proofs.tallies.TallyDifference.difference.Goals as goal

pub returns-in-None-clause-lacks : goal.returns-in-None-clause-lacks
returns-in-None-clause-lacks c =
    tally_told_none c.args._start.now c.args.known.now c.args.self.now c.sums-before.result.now c.sums-whole.result.now c.in_ok-told.told.items c.requires.known c.requires.value c.sums-before.ensures.all c.sums-whole.ensures.all c.in_ok-told.ensures c.in-None.ensures

pub from_sums-requires : goal.from_sums-requires
from_sums-requires c =
    subst IsTally (sym c.in-Some.ensures.0) (tally_picked c.sums-before.result.now c.sums-whole.result.now c.in_ok-told.told.items (subst IsTally (sym c.sums-whole.ensures.all) c.requires.value.goes.right) c.in_ok-told.ensures)

pub returns-in-Some-clause-lacks : goal.returns-in-Some-clause-lacks
returns-in-Some-clause-lacks c =
    tally_told_some c.args._start.now c.args.known.now c.args.self.now c.sums-before.result.now c.sums-whole.result.now c.in_ok-told.told.items c.from_sums.result c.requires.start c.requires.known c.requires.value c.sums-before.ensures.all c.sums-whole.ensures.all c.in_ok-told.ensures c.in-Some.ensures.1 (c.from_sums.ensures ∙ c.in-Some.ensures.0)

pub returns-in-Some-clause-piece : goal.returns-in-Some-clause-piece
returns-in-Some-clause-piece c =
    entries_of (λ y d t. t.0) c.args.self.now c.sums-whole.result.now c.in_ok-told.told.items c.from_sums.result c.sums-whole.ensures.all c.in_ok-told.ensures (c.from_sums.ensures ∙ c.in-Some.ensures.0)
