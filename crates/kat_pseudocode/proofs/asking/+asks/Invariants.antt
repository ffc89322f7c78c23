use Rattle.std.proofs.Common.{◌+◌, ◌*◌}
use Rattle.kat_design.specs.Designs.{ask_form}
use Rattle.kat_design.specs.Sizes.{ask_nodes}
use Rattle.kat_pseudocode.proofs.asking.+asks.Given as goal

abbrev pub decreases-push_ask : goal.decreases-push_ask
decreases-push_ask l = 3 * ask_nodes (ask_form l.ask.now)

abbrev pub decreases-push_negation : goal.decreases-push_negation
decreases-push_negation l = 3 * ask_nodes (ask_form l.inner.now) + 1

abbrev pub decreases-push_both : goal.decreases-push_both
decreases-push_both l = 3 * (ask_nodes (ask_form l.left.now) + ask_nodes (ask_form l.right.now)) + 2

abbrev pub decreases-is_equation : goal.decreases-is_equation
decreases-is_equation l = 3 * (ask_nodes (ask_form l.left.now) + ask_nodes (ask_form l.right.now)) + 1

abbrev pub decreases-push_either : goal.decreases-push_either
decreases-push_either l = 3 * (ask_nodes (ask_form l.left.now) + ask_nodes (ask_form l.right.now)) + 1

abbrev pub decreases-push_less : goal.decreases-push_less
decreases-push_less l = 3 * (ask_nodes (ask_form l.left.now) + ask_nodes (ask_form l.right.now)) + 1

abbrev pub decreases-push_sum : goal.decreases-push_sum
decreases-push_sum l = 3 * (ask_nodes (ask_form l.left.now) + ask_nodes (ask_form l.right.now)) + 1

abbrev pub decreases-push_difference : goal.decreases-push_difference
decreases-push_difference l = 3 * (ask_nodes (ask_form l.left.now) + ask_nodes (ask_form l.right.now)) + 1
