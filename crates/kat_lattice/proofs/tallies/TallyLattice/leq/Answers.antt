use Rattle.std.proofs.Common.{◌∙◌}
use Rattle.kat_lattice.specs.Tallies.{tallies_joined}
use Rattle.kat_lattice.proofs.Staged.{absorbed_as, tallies_mergeable}
use Rattle.kat_lattice.proofs.tallies.TallyLattice.leq.Goals as goal

pub is_part-requires : goal.is_part-requires
is_part-requires c =
    tallies_mergeable c.deref.result.now c.deref-2.result.now c.args.self.now c.args.other.now c.requires (c.deref.ensures.value ∙ c.self.view_is) (c.deref-2.ensures.value ∙ c.other.view_is)

pub returns : goal.returns
returns c =
    absorbed_as tallies_joined c.args.self.now c.args.other.now c.deref.result.now c.deref-2.result.now c.is_part.result (c.deref.ensures.value ∙ c.self.view_is) (c.deref-2.ensures.value ∙ c.other.view_is) c.is_part.ensures
