use Rattle.std.proofs.Common.{ap, ◌∙◌}
use Rattle.kat_emit_words.specs.Naming.{is_among}
use Rattle.kat_emit_words.proofs.NameLemmas.{texts_any}
use Rattle.kat_emit_words.proofs.kept.is_listed.Goals as goal

pub returns : goal.returns
returns c =
    c.contains.ensures.value ∙ (texts_any c.args.word.now c.table_words.result.now ∙ ap (is_among c.args.word.now) c.table_words.ensures)
