use Rattle.std.proofs.Common.{◌≡◌, false, map, subst}
use Rattle.kat_design.specs.Designs.{component_form}
use Rattle.kat_node.specs.StateData.{node_text}
use Rattle.kat_embed.specs.Alike.{all_alike}
use Rattle.kat_embed.specs.Contents.{IsMerged, UnitesOperations, design_of, with_node}
use Rattle.kat_embed.specs.declared.contents.Contents.{Contents}
use Rattle.kat_embed.proofs.KeptAlike.{differ_apart, judged_alike, merged_from, other_node}
use Rattle.kat_embed.proofs.Keeping.{merged_unites}
use Rattle.kat_embed.proofs.embedded.Embedded.merge_from.Goals as goal

pub returns-then-not-all_alike-clause-refused : goal.returns-then-not-all_alike-clause-refused
returns-then-not-all_alike-clause-refused c =
    let mine = c.self.inside.contents in
    let theirs = c.other.inside.contents in
    let differ : all_alike (map component_form mine.design.components) (map component_form theirs.design.components) ≡ false =
    judged_alike c.as_slice-mine.result.now c.as_slice.result.now mine.design.components theirs.design.components c.all_alike.result false c.all_alike.ensures c.as_slice-mine.ensures c.as_slice.ensures
    c.if-not-all_alike.true in
    subst (λ (k : Contents). design_of k ≡ design_of c.args.other.now → ⊥) c.self.view_is
    (subst (λ (o : Contents). design_of mine ≡ design_of o → ⊥) c.other.view_is (differ_apart (design_of mine) (design_of theirs) differ))

pub take_in-requires-clause-packet : goal.take_in-requires-clause-packet
take_in-requires-clause-packet c =
    other_node c.as_slice-mine.result.now c.as_slice.result.now c.self.inside.contents c.other.inside.contents c.all_alike.result c.all_alike.ensures c.as_slice-mine.ensures c.as_slice.ensures
    c.if-not-all_alike.false c.other.invariant

pub returns-clause-merged : goal.returns-clause-merged
returns-clause-merged c =
    let is =
    other_node c.as_slice-mine.result.now c.as_slice.result.now c.self.inside.contents c.other.inside.contents c.all_alike.result c.all_alike.ensures c.as_slice-mine.ensures c.as_slice.ensures
    c.if-not-all_alike.false c.other.invariant in
    let after = with_node c.self.inside.contents c.take_in.new.node in
    subst (λ (k : Contents). IsMerged (node_text c.args.other.now.node) k after) c.self.view_is
    (subst (λ (o : Contents). IsMerged (node_text o.node) c.self.inside.contents after) c.other.view_is
    (merged_from c.written_nodes_are_read.ensures c.self.inside.contents c.other.inside.contents.node c.take_in.new.node is c.in_ok-changed.ensures.taken))

pub returns-clause-unites : goal.returns-clause-unites
returns-clause-unites c =
    let is =
    other_node c.as_slice-mine.result.now c.as_slice.result.now c.self.inside.contents c.other.inside.contents c.all_alike.result c.all_alike.ensures c.as_slice-mine.ensures c.as_slice.ensures
    c.if-not-all_alike.false c.other.invariant in
    let after = with_node c.self.inside.contents c.take_in.new.node in
    subst (λ (k : Contents). UnitesOperations (node_text c.args.other.now.node) k after) c.self.view_is
    (subst (λ (o : Contents). UnitesOperations (node_text o.node) c.self.inside.contents after) c.other.view_is
    (merged_unites c.packets_unite.ensures c.self.inside.contents (node_text c.other.inside.contents.node) c.other.inside.contents.node c.take_in.new.node c.self.invariant
    (c.written_nodes_are_read.ensures (design_of c.self.inside.contents) c.other.inside.contents.node is) c.in_ok-changed.ensures.taken))
