use Rattle.std.proofs.Common.{sym, ◌∙◌, subst}
use Rattle.kat_join.specs.Keyed.{IsAscending}
use Rattle.kat_difference.proofs.PieceLemmas.{entries_of}
use Rattle.kat_difference.proofs.Points.{set_told_ascends, set_told_none, set_told_some}
use Rattle.kat_difference.proofs.sets.GrowSetDifference.difference.Goals as goal

pub returns-in-None-clause-lacks : goal.returns-in-None-clause-lacks
returns-in-None-clause-lacks g c =
    set_told_none g.met.K.Ord.total c.args._start.now c.args.known.now c.args.self.now c.keys.result.now c.in_ok-told.told.items c.requires.known c.requires.value c.keys.ensures.all c.in_ok-told.ensures c.in-None.ensures

pub from_keys-requires : goal.from_keys-requires
from_keys-requires g c =
    subst (IsAscending g.K.Ord.cmp) (sym c.in-Some.ensures.0) (set_told_ascends g.K.Ord.cmp c.args.known.now c.keys.result.now c.in_ok-told.told.items (subst (IsAscending g.K.Ord.cmp) (sym c.keys.ensures.all) c.requires.value.goes.right) c.in_ok-told.ensures)

pub returns-in-Some-clause-lacks : goal.returns-in-Some-clause-lacks
returns-in-Some-clause-lacks g c =
    set_told_some g.met.K.Ord.total c.args._start.now c.args.known.now c.args.self.now c.keys.result.now c.in_ok-told.told.items c.from_keys.result c.requires.start c.requires.known c.requires.value c.keys.ensures.all c.in_ok-told.ensures c.in-Some.ensures.1 (c.from_keys.ensures ∙ c.in-Some.ensures.0)

pub returns-in-Some-clause-piece : goal.returns-in-Some-clause-piece
returns-in-Some-clause-piece g c =
    entries_of (λ y d t. t.0) c.args.self.now c.keys.result.now c.in_ok-told.told.items c.from_keys.result c.keys.ensures.all c.in_ok-told.ensures (c.from_keys.ensures ∙ c.in-Some.ensures.0)
