use Rattle.kat_expr.specs.Terms.{term_of}
use Rattle.kat_seq.proofs.Small.{small_constants}
use Rattle.kat_seq.proofs.changes.change_of.Goals as goal

pub eval-requires-clause-constants : goal.eval-requires-clause-constants
eval-requires-clause-constants c = small_constants (term_of c.in-Plain.right) (rw c.in-Plain.is at c.requires.right)

pub eval-requires-in-Keyed-clause-constants : goal.eval-requires-in-Keyed-clause-constants
eval-requires-in-Keyed-clause-constants c = small_constants (term_of c.in-Keyed.right) (rw c.in-Keyed.is at c.requires.right)
