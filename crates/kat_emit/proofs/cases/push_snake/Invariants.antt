use Rattle.std.proofs.Common.{◌≡◌, true}
use Rattle.std.specs.String.{string_bytes}
use Rattle.kat_emit.specs.Words.{is_begun}
use Rattle.kat_emit.proofs.cases.push_snake.Given as goal

abbrev pub invariant-letters : goal.invariant-letters
invariant-letters l = is_begun (string_bytes l.into) ≡ true
