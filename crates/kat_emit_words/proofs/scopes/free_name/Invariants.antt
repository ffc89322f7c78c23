use Rattle.std.proofs.Common.{◌≡◌, true}
use Rattle.std.specs.String.{string_bytes}
use Rattle.kat_emit_words.specs.Naming.{is_identifier}
use Rattle.kat_emit_words.proofs.scopes.free_name.Given as goal

abbrev pub invariant-numbers : goal.invariant-numbers
invariant-numbers l = is_identifier (string_bytes l.name) ≡ true
