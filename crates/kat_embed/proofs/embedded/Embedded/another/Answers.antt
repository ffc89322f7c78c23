use Rattle.std.proofs.Common.{Some, subst, sym}
use Rattle.kat_design.specs.Sorted.{IsWellSorted}
use Rattle.kat_node.specs.Nodes.{AreSums}
use Rattle.kat_embed.proofs.Answering.{sound_another}
use Rattle.kat_embed.proofs.embedded.Embedded.another.Goals as goal

pub new_node-requires-clause-sorted : goal.new_node-requires-clause-sorted
new_node-requires-clause-sorted c = subst IsWellSorted (sym c.in_ok-design.ensures) c.self.invariant.sorted

pub invariant_of-result : goal.invariant_of-result
invariant_of-result c =
    sound_another c.self.inside.contents (record { ty = c.in_ok-ty.ty; design = c.in_ok-design.design; node = c.in_ok-node.node; marks = Some c.new-marks.result }) c.self.invariant c.in_ok-ty.ensures c.in_ok-design.ensures
    c.in_ok-node.ensures.kept (subst AreSums (sym c.new-marks.ensures) (record { ascending = tt; each = tt }))
