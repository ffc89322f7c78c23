use Rattle.std.proofs.Common.{List, sym, subst}
use Rattle.kat_emit_words.specs.Scopes.{HaveNames}
use Rattle.kat_emit_words.specs.declared.names.PartNames.{PartNames}
use Rattle.kat_emit_words.proofs.ScopeLemmas.{have_more}
use Rattle.kat_emit_words.proofs.names.parts_names.Goals as goal

pub parts-preserved : goal.parts-preserved
parts-preserved c =
    subst (λ (items : List PartNames). HaveNames c.args.language c.args.taken.now c.part_names.new.taken items) (sym c.in_ok-push.ensures.items)
    (have_more c.args.language c.args.taken.now c.parts.taken c.part_names.new.taken c.parts.names.items c.in_ok-named.named c.parts.invariant c.in_ok-named.ensures)
