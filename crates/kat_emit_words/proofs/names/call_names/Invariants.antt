use Rattle.std.proofs.Common.{◌+◌, length}
use Rattle.kat_emit_words.specs.Naming.{names_in}
use Rattle.kat_emit_words.specs.Scopes.{CallsAre}
use Rattle.kat_emit_words.proofs.names.call_names.Given as goal

abbrev pub invariant-ops : goal.invariant-ops
invariant-ops l = CallsAre l.language l.op-index (names_in l.names.items)

abbrev pub invariant-queries : goal.invariant-queries
invariant-queries l = CallsAre l.language (length l.ops + l.query-index) (names_in l.names.items)
