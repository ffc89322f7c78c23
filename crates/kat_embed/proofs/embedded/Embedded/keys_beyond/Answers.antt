use Rattle.std.proofs.Common.{[], ◌∷◌}
use Rattle.kat_embed.specs.Contents.{design_of}
use Rattle.kat_embed.proofs.embedded.Embedded.keys_beyond.Goals as goal

pub new_keys_in-requires : goal.new_keys_in-requires
new_keys_in-requires c =
    rw (c.as_slice-parts.ensures, c.as_slice-before.ensures)
    (c.packets_leave_nodes.ensures.go (design_of c.self.inside.contents) c.self.inside.contents.node (c.in-Ok.known ∷ []) c.self.invariant.sorted c.self.invariant.node (c.in-Ok.ensures.read.possible, tt)).0
