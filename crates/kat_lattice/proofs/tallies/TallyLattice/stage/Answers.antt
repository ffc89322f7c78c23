use Rattle.std.proofs.Common.{sym, subst, ◌∙◌}
use Rattle.kat_lattice.specs.Tallies.{IsTally, tally_joined, tally_laws}
use Rattle.kat_lattice.proofs.Staged.{tallies_mergeable}
use Rattle.kat_lattice.proofs.Undoing.{absorbed}
use Rattle.kat_lattice.proofs.tallies.TallyLattice.stage.Goals as goal

pub returns-then-leq-clause-next : goal.returns-then-leq-clause-next
returns-then-leq-clause-next c =
    absorbed tally_laws c.args.self.now c.args.other.now c.requires (c.leq.ensures.0 c.if-leq.true)

pub union_of-requires : goal.union_of-requires
union_of-requires c =
    tallies_mergeable c.deref.result.now c.deref-2.result.now c.args.self.now c.args.other.now c.requires (c.deref.ensures.value ∙ c.self.view_is) (c.deref-2.ensures.value ∙ c.other.view_is)

pub invariant_of-result : goal.invariant_of-result
invariant_of-result c =
    subst IsTally (sym c.in_ok-sums.ensures) (tally_joined c.deref.result.now c.deref-2.result.now (rw c.deref.ensures.value c.self.invariant) (rw c.deref-2.ensures.value c.other.invariant))
