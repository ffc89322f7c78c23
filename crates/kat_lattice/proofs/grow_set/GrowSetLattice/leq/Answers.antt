use Rattle.std.proofs.Common.{◌∙◌}
use Rattle.kat_lattice.specs.Sets.{sets_joined}
use Rattle.kat_lattice.proofs.Staged.{absorbed_as}
use Rattle.kat_lattice.proofs.grow_set.GrowSetLattice.leq.Goals as goal

pub returns : goal.returns
returns g c =
    absorbed_as (sets_joined g.K.Ord.cmp) c.args.self.now c.args.other.now c.deref.result.now c.deref-2.result.now c.is_part.result (c.deref.ensures.value ∙ c.self.view_is) (c.deref-2.ensures.value ∙ c.other.view_is) c.is_part.ensures
