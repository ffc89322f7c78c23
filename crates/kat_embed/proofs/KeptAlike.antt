-- Replicas of designs that keep the same.
use Rattle.std.proofs.Common.{◌≡◌, Bool, true, false, List, [], ◌∷◌, map, refl, sym, ap, ◌∙◌, subst}
use Rattle.kat_num.proofs.NameCodes.{and_parts}
use Rattle.kat_num.specs.declared.values.Sort.{Sort}
use Rattle.kat_num.specs.declared.values.Value.{Value}
use Rattle.kat_lattice.specs.Maps.{Table}
use Rattle.kat_shape.specs.Flats.{filled_with}
use Rattle.kat_shape.specs.Forms.{CellForm}
use Rattle.kat_shape.specs.Forms.CellForm.{numbers, names, truths, lex, pair}
use Rattle.kat_shape.specs.Values.{Filled}
use Rattle.kat_type.proofs.Same.{same-values}
use Rattle.kat_design.specs.Designs.{ComponentForm, DesignForm, component_form}
use Rattle.kat_design.specs.Designs.ComponentForm.{a_cell, a_table, a_set, a_tally, tallies}
use Rattle.kat_design.specs.Sorted.{AreMatched}
use Rattle.kat_design.specs.declared.designs.Component.{Component}
use Rattle.kat_design.specs.declared.states.Part.{Part}
use Rattle.kat_design.specs.declared.states.Part.TheVariants as part
use Rattle.kat_design.proofs.Converse.{sort_itself}
use Rattle.kat_invariant.proofs.Spots.{sorts_same}
use Rattle.kat_node.specs.NodeFiles.{IsNodeText}
use Rattle.kat_node.specs.Packets.{with_packet}
use Rattle.kat_node.specs.StateData.{node_text}
use Rattle.kat_node.specs.Nodes.{AreTallies, IsCell, IsNode, IsPart, IsSet, IsTable}
use Rattle.kat_node.specs.declared.nodes.Node.{Node}
use Rattle.kat_node.proofs.TableValues.{values_itself}
use Rattle.kat_embed.specs.Alike.{all_alike, keep_alike, same_form}
use Rattle.kat_embed.specs.Contents.{IsMerged, IsSound, design_of, with_node}
use Rattle.kat_embed.specs.declared.contents.Contents.{Contents}

form_same : (x y : CellForm) → same_form x y ≡ true → x ≡ y
form_same numbers numbers e = refl
form_same names names e = refl
form_same truths truths e = refl
form_same (lex a b) (lex c d) e = let both = and_parts (same_form a c) (same_form b d) e in λ i. lex (form_same a c both.0 i) (form_same b d both.1 i)
form_same (pair a b) (pair c d) e = let both = and_parts (same_form a c) (same_form b d) e in λ i. pair (form_same a c both.0 i) (form_same b d both.1 i)
form_same _ _ e = absurd (cc)

form_itself : (x : CellForm) → same_form x x ≡ true
form_itself numbers = refl
form_itself names = refl
form_itself truths = refl
form_itself (lex a b) = let first = form_itself a in rw first (form_itself b)
form_itself (pair a b) = let first = form_itself a in rw first (form_itself b)

keeps_itself : (x : ComponentForm) → keep_alike x x ≡ true
keeps_itself (a_cell shape starts effects) = let first = form_itself shape in rw first (values_itself starts)
keeps_itself (a_table key shape starts effects) = let first = sort_itself key in let second = form_itself shape in rw (first, second) (values_itself starts)
keeps_itself (a_set key effects) = sort_itself key
keeps_itself (a_tally effects) = refl
keeps_itself (tallies key effects) = sort_itself key

pub all_itself : (xs : List ComponentForm) → all_alike xs xs ≡ true
all_itself [] = refl
all_itself (x ∷ xs) = let first = keeps_itself x in rw first (all_itself xs)

pub differ_apart : (d other : DesignForm) → all_alike d.components other.components ≡ false → d ≡ other → ⊥
differ_apart d other e same =
    let itself : all_alike d.components other.components ≡ true = subst (λ (it : DesignForm). all_alike d.components it.components ≡ true) same (all_itself d.components) in
    absurd (cc)

-- what the one keeps the other may keep
table_alike : (key sort : Sort) (shape form : CellForm) (starts begins : List Value) (table : Table Value Filled) → key ≡ sort → shape ≡ form → starts ≡ begins
    → IsTable sort form (filled_with form begins) table → IsTable key shape (filled_with shape starts) table
table_alike key sort shape form starts begins table a b c h =
    subst (λ (k : Sort). IsTable k shape (filled_with shape starts) table) (sym a)
    (subst (λ (s : CellForm). IsTable sort s (filled_with s starts) table) (sym b)
    (subst (λ (vs : List Value). IsTable sort form (filled_with form vs) table) (sym c) h))

part_alike : (x y : ComponentForm) (p : Part) → keep_alike x y ≡ true → IsPart y p → IsPart x p
part_alike (a_cell shape starts effects) (a_cell form begins others) (part.Cell cell) e h =
    subst (λ (s : CellForm). IsCell s cell) (sym (form_same shape form (and_parts (same_form shape form) _ e).0)) h
part_alike (a_table key shape starts effects) (a_table sort form begins others) (part.Table table) e h =
    let both = and_parts _ _ e in
    let more = and_parts (same_form shape form) _ both.1 in
    table_alike key sort shape form starts begins table (sorts_same key sort both.0) (form_same shape form more.0) (same-values starts begins more.1) h
part_alike (a_set key effects) (a_set sort others) (part.Set keys) e h = subst (λ (k : Sort). IsSet k keys) (sym (sorts_same key sort e)) h
part_alike (a_tally effects) (a_tally others) (part.Tally sums) e h = h
part_alike (tallies key effects) (tallies sort others) (part.Tallies table) e h = subst (λ (k : Sort). AreTallies k table) (sym (sorts_same key sort e)) h
part_alike (a_cell shape starts effects) (a_cell form begins others) p e h = absurd h
part_alike (a_table key shape starts effects) (a_table sort form begins others) p e h = absurd h
part_alike (a_set key effects) (a_set sort others) p e h = absurd h
part_alike (a_tally effects) (a_tally others) p e h = absurd h
part_alike (tallies key effects) (tallies sort others) p e h = absurd h
part_alike _ _ p e h = absurd (cc)

parts_alike : (xs ys : List ComponentForm) (parts : List Part) → all_alike xs ys ≡ true → AreMatched IsPart ys parts → AreMatched IsPart xs parts
parts_alike [] [] parts e h = h
parts_alike [] (y ∷ ys) parts e h = absurd (cc)
parts_alike (x ∷ xs) [] parts e h = absurd (cc)
parts_alike (x ∷ xs) (y ∷ ys) [] e h = absurd h
parts_alike (x ∷ xs) (y ∷ ys) (p ∷ parts) e h =
    let both = and_parts (keep_alike x y) (all_alike xs ys) e in (part_alike x y p both.0 h.0, parts_alike xs ys parts both.1 h.1)

pub node_alike : (d other : DesignForm) (node : Node) → all_alike d.components other.components ≡ true → IsNode other node → IsNode d node
node_alike d other node e h =
    record { least = h.least; most = h.most; clock = h.clock; parts = parts_alike d.components other.components node.replica.state.parts e h.parts }

-- what the code judges
pub judged_alike : (left right mine theirs : List Component) (found is : Bool) → found ≡ all_alike (map component_form left) (map component_form right) → left ≡ mine → right ≡ theirs → found ≡ is
    → all_alike (map component_form mine) (map component_form theirs) ≡ is
judged_alike left right mine theirs found is e l r h = (λ i. all_alike (map component_form (sym l i)) (map component_form (sym r i))) ∙ sym e ∙ h

-- a state file of the other replica says its node
abbrev pub NodesRead : Type 0
NodesRead = (d : DesignForm) (node : Node) → IsNode d node → IsNodeText d (node_text node) node

pub merged_from : NodesRead → (c : Contents) (packet node : Node) → IsNode (design_of c) packet → node ≡ with_packet c.node packet
    → IsMerged (node_text packet) c (with_node c node)
merged_from read c packet node is same = record { packet = packet; is = read (design_of c) packet is; merged = ap (with_node c) same }

pub other_node : (left right : List Component) (c other : Contents) (found : Bool) → found ≡ all_alike (map component_form left) (map component_form right) → left ≡ c.design.components
    → right ≡ other.design.components → found ≡ true → IsSound other → IsNode (design_of c) other.node
other_node left right c other found e l r is sound =
    node_alike (design_of c) (design_of other) other.node (judged_alike left right c.design.components other.design.components found true e l r is) sound.node
