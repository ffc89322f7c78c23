use Rattle.kat_shape.specs.Forms.{form_of, nodes_of}
use Rattle.kat_embed.proofs.alike.+same_shape.Given as goal

abbrev pub decreases-same_shape : goal.decreases-same_shape
decreases-same_shape l = nodes_of (form_of l.left.now)
