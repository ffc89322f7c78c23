use Rattle.kat_emit_words.specs.Naming.{names_in}
use Rattle.kat_emit_words.proofs.ScopeLemmas.{tools_added}
use Rattle.kat_emit_words.proofs.names.tools_of.Goals as goal

pub returns : goal.returns
returns c =
    tools_added c.args.language (names_in c.args.top.now.items) (names_in c.added_name.new.taken.items) (names_in c.added_name-2.new.taken.items)
    (names_in c.added_name-3.new.taken.items) (names_in c.added_name-4.new.taken.items) _ c.requires
    c.in_ok-less.ensures c.in_ok-lacks.ensures c.in_ok-joined.ensures c.in_ok-start.ensures
