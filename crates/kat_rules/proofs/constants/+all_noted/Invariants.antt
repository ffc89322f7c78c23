use Rattle.std.proofs.Common.{length}
use Rattle.kat_rules.proofs.constants.+all_noted.Given as goal

abbrev pub decreases-all_noted : goal.decreases-all_noted
decreases-all_noted l = length l.fields.now
