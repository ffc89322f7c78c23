use Rattle.std.proofs.Common.{◌≡◌, ℕ, ◌≤◌, ◌<◌, true}
use Rattle.std.specs.Prelude.{slice_range}
use Rattle.std.specs.Str.Parse.{digits_value}
use Rattle.kat_num.specs.Bytes.{is_digit}
use Rattle.kat_lex.specs.Classes.{byte_at}
use Rattle.kat_lex.specs.Found.{IsCapped}
use Rattle.kat_lex.proofs.numbers.digits_at.Given as goal

abbrev pub invariant-loop-to : goal.invariant-loop-to
invariant-loop-to l =
    ((at : ℕ) → l.from ≤ at → at < l.to → is_digit (byte_at l.bytes at) ≡ true)
    × IsCapped (digits_value 10 (slice_range l.bytes l.from l.to)) l.value
