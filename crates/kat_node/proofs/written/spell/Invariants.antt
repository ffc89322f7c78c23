use Rattle.std.proofs.Common.{◌≡◌, ◌≤◌, length}
use Rattle.kat_node.proofs.Spelling.{IsSpelled}
use Rattle.kat_node.proofs.written.spell.Given as goal

abbrev pub invariant-bytes : goal.invariant-bytes
invariant-bytes l = IsSpelled l.code l.left l.room × (l.left ≤ 15) × (length l.room ≡ 15)

abbrev pub decreases-bytes : goal.decreases-bytes
decreases-bytes l = l.left
