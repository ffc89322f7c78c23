use Rattle.kat_difference.proofs.Tables.{tells_one}
use Rattle.kat_difference.proofs.maps.tell_value.Goals as goal

pub returns : goal.returns
returns g c =
    tells_one g.K.Ord.cmp g.L.Lattice.kin g.L.Lattice.joined (g.L.Difference.exact c.args.known.now.start) (g.L.Difference.is_piece c.args.known.now.start) c.args.known.now c.args.entry.now c.in_ok-value.value c.args.into.now.items c.push_told.new.into.items c.push_told.result c.in_ok-value.ensures.lacks c.in_ok-value.ensures.piece c.push_told.ensures
