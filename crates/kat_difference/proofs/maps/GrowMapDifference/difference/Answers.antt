use Rattle.std.proofs.Common.{sym, ◌∙◌, subst}
use Rattle.kat_lattice.specs.Maps.{IsMap}
use Rattle.kat_difference.proofs.PieceLemmas.{map_pieces, picked_values}
use Rattle.kat_difference.proofs.Tables.{all_from, told_value, told_value_map, told_value_none}
use Rattle.kat_difference.proofs.maps.GrowMapDifference.difference.Goals as goal

pub new_values-requires-clause-start : goal.new_values-requires-clause-start
new_values-requires-clause-start g c = subst g.L.Difference.can_start c.requires.known.goes.starts c.requires.start.1

pub new_values-requires-clause-kept : goal.new_values-requires-clause-kept
new_values-requires-clause-kept g c =
    all_from c.args._start.now c.args.known.now c.args.self.now c.entries.result.now c.requires.known.goes c.requires.value.goes c.entries.ensures.all

pub returns-in-None-clause-lacks : goal.returns-in-None-clause-lacks
returns-in-None-clause-lacks g c =
    told_value_none g.met.K.Ord.total g.met.L.Lattice.laws (g.L.Difference.exact c.args.known.now.start) c.args._start.now c.args.known.now c.args.self.now c.entries.result.now c.in_ok-told.told.items c.requires.start.0 c.requires.known.goes c.requires.value.goes c.entries.ensures.all (picked_values g.K.Ord.cmp g.L.Lattice.kin g.L.Lattice.joined (g.L.Difference.exact c.args.known.now.start) (g.L.Difference.is_piece c.args.known.now.start) c.args.known.now c.entries.result.now c.in_ok-told.told.items c.in_ok-told.ensures) c.in-None.ensures

pub from_entries-requires : goal.from_entries-requires
from_entries-requires g c =
    subst (λ t. IsMap g.K.Ord.cmp g.L.Lattice.kin g.L.Lattice.joined (record { start = c.in_ok-start-in-Some.start; entries = t })) (sym c.in-Some.ensures.0)
    (told_value_map g.met.L.Lattice.laws (g.L.Difference.exact c.args.known.now.start) c.args._start.now c.args.known.now c.args.self.now c.entries.result.now c.in_ok-told.told.items c.in_ok-start-in-Some.start c.requires.start.0 c.requires.known.goes c.requires.value.goes c.entries.ensures.all (picked_values g.K.Ord.cmp g.L.Lattice.kin g.L.Lattice.joined (g.L.Difference.exact c.args.known.now.start) (g.L.Difference.is_piece c.args.known.now.start) c.args.known.now c.entries.result.now c.in_ok-told.told.items c.in_ok-told.ensures) (c.in_ok-start-in-Some.ensures ∙ c.start_value.ensures))

pub returns-in_ok-start-in-Some-clause-lacks : goal.returns-in_ok-start-in-Some-clause-lacks
returns-in_ok-start-in-Some-clause-lacks g c =
    told_value g.met.K.Ord.total g.met.L.Lattice.laws g.L.Difference.exact c.args._start.now c.args.known.now c.args.self.now c.from_entries.result c.entries.result.now c.in_ok-told.told.items c.requires.start.0 c.requires.known.goes c.requires.value.goes c.entries.ensures.all (picked_values g.K.Ord.cmp g.L.Lattice.kin g.L.Lattice.joined (g.L.Difference.exact c.args.known.now.start) (g.L.Difference.is_piece c.args.known.now.start) c.args.known.now c.entries.result.now c.in_ok-told.told.items c.in_ok-told.ensures) c.in-Some.ensures.1
    (c.from_entries.ensures.start ∙ (c.in_ok-start-in-Some.ensures ∙ c.start_value.ensures)) (c.from_entries.ensures.entries ∙ c.in-Some.ensures.0)

pub returns-in_ok-start-in-Some-clause-piece : goal.returns-in_ok-start-in-Some-clause-piece
returns-in_ok-start-in-Some-clause-piece g c =
    map_pieces (g.L.Difference.exact c.args.known.now.start) g.L.Difference.is_piece c.args._start.now c.args.known.now c.args.self.now c.from_entries.result c.entries.result.now c.in_ok-told.told.items c.requires.known.goes c.requires.value.goes c.entries.ensures.all c.in_ok-told.ensures
    (c.from_entries.ensures.start ∙ (c.in_ok-start-in-Some.ensures ∙ c.start_value.ensures)) (c.from_entries.ensures.entries ∙ c.in-Some.ensures.0)
