use Rattle.std.proofs.Common.{rules, ◌≡◌, ◌<◌, length, sym, refl, arith}
use Rattle.kat_join.specs.KeyedLaws.{by_key_total, keeps_by_key}
use Rattle.kat_join.specs.Merging.{values_kin}
use Rattle.kat_lattice.proofs.Entries.{joined_value}
use Rattle.kat_lattice.proofs.Walking.{walk_inside, walk_over, walk_equal, walk_new, kin_there}
use Rattle.kat_lattice.proofs.in_place.join_present.Goals as goal

pub index_mut-x-requires : goal.index_mut-x-requires
index_mut-x-requires g c =
    let hj : c.loop-j.j < length c.args.theirs.now = search rules in
    let hi : c.loop-j.i < length c.loop-j.mine.items = walk_inside c.args.mine.now.items c.args.theirs.now c.loop-j.mine.items c.loop-j.i c.loop-j.j c.loop-j.invariant c.requires.kin.right c.requires.present hj in
    search (rules, hi)

pub loop-j-preserved-in-Less : goal.loop-j-preserved-in-Less
loop-j-preserved-in-Less g c =
    let hj : c.loop-j.j < length c.args.theirs.now = search rules in
    let hi : c.loop-j.i < length c.loop-j.mine.items = walk_inside c.args.mine.now.items c.args.theirs.now c.loop-j.mine.items c.loop-j.i c.loop-j.j c.loop-j.invariant c.requires.kin.right c.requires.present hj in
    walk_over (by_key_total g.met.K.Ord.total) (keeps_by_key g.K.Ord.cmp g.L.Lattice.joined) c.args.mine.now.items c.args.theirs.now c.loop-j.mine.items c.loop-j.i c.loop-j.j c.index_mut-x.result.now c.index-theirs-j.result c.loop-j.invariant hi hj c.index_mut-x.ensures.value c.index-theirs-j.is c.requires.kin.right (sym c.in-Less.ensures)

pub loop-j-smaller-in-Less : goal.loop-j-smaller-in-Less
loop-j-smaller-in-Less g c =
    let hj : c.loop-j.j < length c.args.theirs.now = search rules in
    let hi : c.loop-j.i < length c.loop-j.mine.items = walk_inside c.args.mine.now.items c.args.theirs.now c.loop-j.mine.items c.loop-j.i c.loop-j.j c.loop-j.invariant c.requires.kin.right c.requires.present hj in
    let long : length c.loop-j.mine.items ≡ length c.args.mine.now.items = c.loop-j.invariant.long in
    omega arith

pub join_flat-requires : goal.join_flat-requires
join_flat-requires g c =
    let hj : c.loop-j.j < length c.args.theirs.now = search rules in
    let hi : c.loop-j.i < length c.loop-j.mine.items = walk_inside c.args.mine.now.items c.args.theirs.now c.loop-j.mine.items c.loop-j.i c.loop-j.j c.loop-j.invariant c.requires.kin.right c.requires.present hj in
    let both = kin_there (values_kin g.K.Ord.cmp g.L.Lattice.kin) c.args.mine.now.items c.args.theirs.now c.loop-j.mine.items c.loop-j.i c.loop-j.j c.index_mut-x.result.now c.index-theirs-j.result c.requires.kin c.loop-j.invariant.rest c.loop-j.invariant.long hi hj c.index_mut-x.ensures.value c.index-theirs-j.is in
    both.1

pub loop-j-preserved : goal.loop-j-preserved
loop-j-preserved g c =
    let hj : c.loop-j.j < length c.args.theirs.now = search rules in
    let hi : c.loop-j.i < length c.loop-j.mine.items = walk_inside c.args.mine.now.items c.args.theirs.now c.loop-j.mine.items c.loop-j.i c.loop-j.j c.loop-j.invariant c.requires.kin.right c.requires.present hj in
    walk_equal (by_key_total g.met.K.Ord.total) (keeps_by_key g.K.Ord.cmp g.L.Lattice.joined) c.args.mine.now.items c.args.theirs.now c.loop-j.mine.items c.loop-j.i c.loop-j.j c.index_mut-x.result.now c.index-theirs-j.result (c.index_mut-x.result.now.0, c.join_flat.new.self) c.loop-j.invariant hi hj c.index_mut-x.ensures.value c.index-theirs-j.is c.requires.kin.right (sym c.in-Equal.ensures) (joined_value g.L.Lattice.joined c.index_mut-x.result.now c.index-theirs-j.result c.join_flat.new.self c.index_mut-x.result.now.1 refl c.join_flat.ensures)

pub unreachable-requires : goal.unreachable-requires
unreachable-requires g c =
    let hj : c.loop-j.j < length c.args.theirs.now = search rules in
    let hi : c.loop-j.i < length c.loop-j.mine.items = walk_inside c.args.mine.now.items c.args.theirs.now c.loop-j.mine.items c.loop-j.i c.loop-j.j c.loop-j.invariant c.requires.kin.right c.requires.present hj in
    walk_new (by_key_total g.met.K.Ord.total) (keeps_by_key g.K.Ord.cmp g.L.Lattice.joined) c.args.mine.now.items c.args.theirs.now c.loop-j.mine.items c.loop-j.i c.loop-j.j c.index_mut-x.result.now c.index-theirs-j.result c.loop-j.invariant c.requires.kin.left c.requires.kin.right c.requires.present hi hj c.index_mut-x.ensures.value c.index-theirs-j.is (sym c.in-Greater.ensures)
