use Rattle.kat_shape.specs.Forms.{form_of, nodes_of}
use Rattle.kat_shape.proofs.leaves.+join_leaves.Given as goal

abbrev pub decreases-join_leaves : goal.decreases-join_leaves
decreases-join_leaves l = nodes_of (form_of l.shape.now)
