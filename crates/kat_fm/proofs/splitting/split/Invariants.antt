use Rattle.std.proofs.Common.{◌≡◌}
use Rattle.std.specs.List.{filter}
use Rattle.kat_fm.specs.Eliminations.{is_plus, is_minus, is_rest}
use Rattle.kat_fm.specs.Views.{combinations}
use Rattle.kat_fm.proofs.splitting.split.Given as goal

abbrev pub invariant-loop-row : goal.invariant-loop-row
invariant-loop-row l = record {
  plus : combinations l.sides.plus.items ≡ filter (is_plus l.variable) (combinations l.yielded);
  minus : combinations l.sides.minus.items ≡ filter (is_minus l.variable) (combinations l.yielded);
  rest : combinations l.sides.rest.items ≡ filter (is_rest l.variable) (combinations l.yielded);
}
