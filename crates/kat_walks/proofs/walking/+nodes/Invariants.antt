use Rattle.std.proofs.Common.{◌+◌, ◌*◌}
use Rattle.kat_walks.proofs.walking.+nodes.Given as goal

abbrev pub decreases-node : goal.decreases-node
decreases-node l = 4 * l.depth + 3

abbrev pub decreases-split : goal.decreases-split
decreases-split l = 4 * l.depth + 2

abbrev pub decreases-go_on : goal.decreases-go_on
decreases-go_on l = 4 * l.depth + 1

abbrev pub decreases-descend : goal.decreases-descend
decreases-descend l = 4 * l.depth
