use Rattle.std.proofs.Common.{◌≡◌, ◌+◌, ◌-◌, suc, true, length}
use Rattle.std.specs.String.{string_bytes}
use Rattle.kat_emit_words.specs.Kept.{kept}
use Rattle.kat_emit_words.specs.Naming.{is_identifier, names_in}
use Rattle.kat_emit_words.proofs.NameLemmas.{longest}
use Rattle.kat_emit_words.proofs.scopes.longer_name.Given as goal

abbrev pub invariant-longer : goal.invariant-longer
invariant-longer l = is_identifier (string_bytes l.name) ≡ true

abbrev pub decreases-longer : goal.decreases-longer
decreases-longer l = suc (longest (kept l.scope.language l.scope.named) + (longest (names_in l.scope.outer.now) + longest (names_in l.scope.taken.now))) - length (string_bytes l.name)
