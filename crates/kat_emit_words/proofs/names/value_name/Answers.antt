use Rattle.std.proofs.Common.{String}
use Rattle.std.specs.Global.{Global}
use Rattle.std.specs.String.{string_bytes}
use Rattle.kat_emit_words.specs.Kept.{kept}
use Rattle.kat_emit_words.specs.Naming.{Adds, names_in}
use Rattle.kat_emit_words.specs.Scopes.{GainsValue}
use Rattle.kat_emit_words.specs.declared.kept.Named.TheVariants.{Class}
use Rattle.kat_emit_words.proofs.NameLemmas.{if_ok}
use Rattle.kat_emit_words.proofs.ScopeLemmas.{value_one}
use Rattle.kat_emit_words.proofs.names.value_name.Goals as goal

pub returns : goal.returns
returns c =
    if_ok c.added_name.result
    (λ (name : String Global). Adds (kept c.args.language Class) (names_in c.args.top.now.items) (names_in c.added_name.new.taken.items) (string_bytes name))
    (λ (name : String Global). GainsValue c.args.language (names_in c.args.top.now.items) (names_in c.added_name.new.taken.items) (string_bytes name))
    c.added_name.ensures
    (λ name adds. value_one c.args.language (names_in c.args.top.now.items) (names_in c.added_name.new.taken.items) (string_bytes name) c.requires adds)
