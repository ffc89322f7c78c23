use Rattle.std.proofs.Common.{◌≡◌, ◌++◌}
use Rattle.kat_picture.specs.Plain.{further}
use Rattle.kat_picture.proofs.plain.push_further.Given as goal

abbrev pub invariant-pieces : goal.invariant-pieces
invariant-pieces l = l.into.items ++ further l.before l.room l.left l.behind ≡ l.fn.into.items ++ further l.before l.room l.fn.count l.fn.text

abbrev pub decreases-pieces : goal.decreases-pieces
decreases-pieces l = l.left
