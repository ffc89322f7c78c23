use Rattle.std.proofs.Common.{◌∙◌, refl}
use Rattle.kat_join.specs.KeyedLaws.{by_key_total}
use Rattle.kat_join.proofs.Places.{found_by_place}
use Rattle.kat_lattice.proofs.in_place.has_key.Goals as goal

pub returns : goal.returns
returns g c =
    c.is_ok.ensures.value ∙ found_by_place (by_key_total g.met.K.Ord.total) (λ x. g.K.Ord.cmp x.0 c.args.other.now.0) c.args.other.now (record { answers = λ x. refl }) c.args.entries.now c.place_of.result c.requires c.place_of.ensures.at c.place_of.ensures.gap
