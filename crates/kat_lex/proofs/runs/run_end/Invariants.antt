use Rattle.std.proofs.Common.{◌≡◌, ℕ, ◌≤◌, ◌<◌, true}
use Rattle.kat_lex.specs.Classes.{byte_at}
use Rattle.kat_lex.proofs.runs.run_end.Given as goal

abbrev pub invariant-loop-to : goal.invariant-loop-to
invariant-loop-to g l = (at : ℕ) → l.from ≤ at → at < l.to → g.S.ByteSet.passes (byte_at l.bytes at) ≡ true
