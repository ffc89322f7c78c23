use Rattle.std.proofs.Common.{length}
use Rattle.kat_rules.proofs.rules.+have_kinds.Given as goal

abbrev pub decreases-have_kinds : goal.decreases-have_kinds
decreases-have_kinds l = length l.components.now
