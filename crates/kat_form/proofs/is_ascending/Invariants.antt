use Rattle.std.proofs.Common.{ℕ, suc, ◌<◌, get_or}
use Rattle.kat_linear.specs.Rows.{Term}
use Rattle.kat_form.proofs.is_ascending.Given as goal

abbrev pub invariant-loop-i : goal.invariant-loop-i
invariant-loop-i l = (j : ℕ) (d : Term) → suc j < l.i → (get_or l.terms j d).0 < (get_or l.terms (suc j) d).0
