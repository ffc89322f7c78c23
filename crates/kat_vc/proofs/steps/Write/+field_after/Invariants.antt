use Rattle.std.proofs.Common.{length}
use Rattle.kat_vc.proofs.steps.Write.+field_after.Given as goal

abbrev pub decreases-field_after : goal.decreases-field_after
decreases-field_after l = length l.assigns.now
