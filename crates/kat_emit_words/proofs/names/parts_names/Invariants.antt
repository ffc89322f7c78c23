use Rattle.kat_emit_words.specs.Scopes.{HaveNames}
use Rattle.kat_emit_words.proofs.names.parts_names.Given as goal

abbrev pub invariant-parts : goal.invariant-parts
invariant-parts l = HaveNames l.language l.fn.taken l.taken l.names.items
