use Rattle.std.proofs.Common.{◌≡◌, drop}
use Rattle.kat_emit_words.specs.Naming.{is_among, names_in}
use Rattle.kat_emit_words.proofs.scopes.is_among.Given as goal

abbrev pub invariant-texts : goal.invariant-texts
invariant-texts l = is_among l.word (names_in (drop l.text-index l.texts)) ≡ is_among l.word (names_in l.texts)
