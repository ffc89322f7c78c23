use Rattle.std.proofs.Common.{refl}
use Rattle.kat_emit_words.specs.Naming.{names_in}
use Rattle.kat_emit_words.proofs.ScopeLemmas.{part_taken}
use Rattle.kat_emit_words.proofs.names.part_names.Goals as goal

pub returns : goal.returns
returns c =
    part_taken c.args.language c.args.taken.now _ _ c.in_ok-tools.tools c.in_ok-loops.loops (names_in c.value_name.new.top.items) c.requires
    c.in_ok-field.ensures c.in_ok-change.ensures c.in_ok-keys.ensures c.in_ok-value.ensures c.in_ok-tools.ensures refl c.in_ok-loops.ensures refl c.in_ok-leaf_names.ensures
