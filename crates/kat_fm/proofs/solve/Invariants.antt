use Rattle.std.proofs.Common.{◌≡◌, suc, ◌-◌, [], true}
use Rattle.kat_linear.specs.Rows.{forms}
use Rattle.kat_fm.specs.Combinations.{given}
use Rattle.kat_fm.specs.Eliminations.{rounds}
use Rattle.kat_fm.specs.Views.{combinations, stack_of, AreTidy}
use Rattle.kat_fm.proofs.solve.Given as goal

abbrev pub invariant-loop-done : goal.invariant-loop-done
invariant-loop-done l = record {
  goes : rounds (suc l.fn.vars - l._done) l.fn.vars (stack_of l.state.taken.items) (combinations l.state.rows.items) ≡ rounds (suc l.fn.vars) l.fn.vars [] (given l.fn.vars (forms l.fn.rows));
  tidy : l.state.tidy ≡ true → AreTidy (combinations l.state.rows.items);
}
