use Rattle.std.proofs.Common.{◌++◌}
use Rattle.kat_emit_words.specs.Kept.{kept}
use Rattle.kat_emit_words.specs.Naming.{names_in}
use Rattle.kat_emit_words.specs.declared.kept.Named.TheVariants.{Local}
use Rattle.kat_emit_words.proofs.NameLemmas.{gains_more, texts_more}
use Rattle.kat_emit_words.proofs.names.param_names.Goals as goal

pub params-preserved : goal.params-preserved
params-preserved c =
    let words = names_in c.args.top.now ++ kept c.args.language Local in (
      gains_more words (names_in c.params.names.items) (names_in c.push_new_code.new.names.items) c.params.invariant.0 c.in_ok-push_new_code.ensures,
      texts_more words c.params.names.items c.push_new_code.new.names.items c.params.param-index c.params.invariant.1 c.in_ok-push_new_code.ensures,
    )
