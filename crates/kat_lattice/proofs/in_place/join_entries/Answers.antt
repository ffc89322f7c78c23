use Rattle.std.proofs.Common.{◌∙◌}
use Rattle.kat_join.specs.Merging.{values_kin}
use Rattle.kat_lattice.proofs.Joinings.{taken_fits, taken_kin, taken_present, taken_union}
use Rattle.kat_lattice.proofs.in_place.join_entries.Goals as goal

pub take_in-requires-clause-fits : goal.take_in-requires-clause-fits
take_in-requires-clause-fits g c = taken_fits g.K.Ord.cmp c.args.staged c.args.entries.now.items c.args.theirs.now c.requires.ready c.requires.kin.right

pub join_present-requires-clause-kin : goal.join_present-requires-clause-kin
join_present-requires-clause-kin g c =
    taken_kin g.met.K.Ord.total (values_kin g.K.Ord.cmp g.L.Lattice.kin) c.args.staged c.args.entries.now.items c.args.theirs.now c.take_in.new.entries.items c.requires.ready c.requires.kin c.requires.own c.take_in.ensures

pub join_present-requires-clause-present : goal.join_present-requires-clause-present
join_present-requires-clause-present g c =
    taken_present g.met.K.Ord.total g.L.Lattice.joined c.args.staged c.args.entries.now.items c.args.theirs.now c.take_in.new.entries.items c.requires.ready c.requires.kin.left c.requires.kin.right c.take_in.ensures

pub returns : goal.returns
returns g c =
    c.join_present.ensures ∙ taken_union g.met.K.Ord.total g.met.L.Lattice.laws c.args.staged c.args.entries.now.items c.args.theirs.now c.take_in.new.entries.items c.requires.ready c.requires.kin.left c.requires.own c.take_in.ensures
