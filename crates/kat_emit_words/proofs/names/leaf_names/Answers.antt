use Rattle.kat_emit_words.specs.Kept.{kept}
use Rattle.kat_emit_words.specs.Naming.{names_in}
use Rattle.kat_emit_words.specs.declared.kept.Named.TheVariants.{Leaf}
use Rattle.kat_emit_words.proofs.NameLemmas.{gains_more}
use Rattle.kat_emit_words.proofs.names.leaf_names.Goals as goal

pub words-preserved : goal.words-preserved
words-preserved c =
    gains_more (kept c.args.language Leaf) (names_in c.words.names.items) (names_in c.push_new_name.new.names.items) c.words.invariant c.in_ok-push_new_name.ensures
