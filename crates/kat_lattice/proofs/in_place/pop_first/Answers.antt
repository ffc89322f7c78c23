use Rattle.std.proofs.Common.{◌≡◌, length, rules, sym}
use Rattle.std.specs.Vec.{vec_len}
use Rattle.kat_join.specs.KeyedLaws.{by_key_total}
use Rattle.kat_lattice.proofs.Moves.{none_left, pops_less, pops_equal, pops_greater, turned}
use Rattle.kat_lattice.proofs.in_place.pop_first.Goals as goal

pub returns-in-Less : goal.returns-in-Less
returns-in-Less g c =
    let mine : length c.args.mine.now.items ≡ vec_len c.args.mine.now = search rules in
    pops_less (by_key_total g.met.K.Ord.total) _ _ _ c.pop.result (rw (← c.deref.ensures.value, ← c.deref-2.ensures.value) (sym c.in-Less.ensures)) c.requires.mine c.requires.fresh (none_left c.args.mine.now.items _ _ _ c.pop.result mine c.pop.ensures.cases) (turned _ _ c.pop.result c.pop.ensures.items)

pub returns-in-Equal : goal.returns-in-Equal
returns-in-Equal g c =
    let mine : length c.args.mine.now.items ≡ vec_len c.args.mine.now = search rules in
    let fresh : length c.args.fresh.now.items ≡ vec_len c.args.fresh.now = search rules in
    pops_equal (by_key_total g.met.K.Ord.total) _ _ _ _ c.pop-in-Equal.result c.pop-same.result (rw (← c.deref.ensures.value, ← c.deref-2.ensures.value) (sym c.in-Equal.ensures)) c.requires.mine c.requires.fresh (none_left c.args.mine.now.items _ _ _ c.pop-in-Equal.result mine c.pop-in-Equal.ensures.cases) (none_left c.args.fresh.now.items _ _ _ c.pop-same.result fresh c.pop-same.ensures.cases) (turned _ _ c.pop-in-Equal.result c.pop-in-Equal.ensures.items) (turned _ _ c.pop-same.result c.pop-same.ensures.items)

pub returns-in-Greater : goal.returns-in-Greater
returns-in-Greater g c =
    let fresh : length c.args.fresh.now.items ≡ vec_len c.args.fresh.now = search rules in
    pops_greater (by_key_total g.met.K.Ord.total) _ _ _ c.pop-in-Greater.result (rw (← c.deref.ensures.value, ← c.deref-2.ensures.value) (sym c.in-Greater.ensures)) c.requires.mine c.requires.fresh (none_left c.args.fresh.now.items _ _ _ c.pop-in-Greater.result fresh c.pop-in-Greater.ensures.cases) (turned _ _ c.pop-in-Greater.result c.pop-in-Greater.ensures.items)
