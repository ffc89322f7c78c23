use Rattle.kat_emit_words.specs.Kept.{kept}
use Rattle.kat_emit_words.specs.Naming.{AreNames, names_in}
use Rattle.kat_emit_words.specs.declared.kept.Named.TheVariants.{Leaf}
use Rattle.kat_emit_words.proofs.names.leaf_names.Given as goal

abbrev pub invariant-words : goal.invariant-words
invariant-words l = AreNames (kept l.language Leaf) (names_in l.names.items)
