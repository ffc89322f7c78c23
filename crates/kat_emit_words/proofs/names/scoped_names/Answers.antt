use Rattle.kat_emit_words.specs.Naming.{names_in}
use Rattle.kat_emit_words.proofs.ScopeLemmas.{loop_two}
use Rattle.kat_emit_words.proofs.names.scoped_names.Goals as goal

pub returns : goal.returns
returns c =
    loop_two (names_in c.args.loops.now.items) (names_in c.added_name.new.taken.items) (names_in c.added_name-2.new.taken.items)
    (record { key = c.in_ok-key.key; item = c.in_ok-item.item }) c.requires c.in_ok-key.ensures c.in_ok-item.ensures
