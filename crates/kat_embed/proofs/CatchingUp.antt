-- The operations that a replica and its marks have, through all calls.
use Rattle.std.proofs.Common.{◌≡◌, ◌⊎◌, ℕ, ◌<◌, max, List, [], ◌∷◌, ◌++◌, Option, None, Some, refl, sym, ◌∙◌, ap, subst, inl, inr, arith}
use Rattle.std.specs.Cmp.{IsTotalOrder}
use Rattle.kat_num.specs.Orders.{value_order}
use Rattle.kat_num.specs.contracts.values.ValueOrd.TheImpl.Laws.{total-law}
use Rattle.kat_lattice.specs.Tallies.{Sums, TalliesKin}
use Rattle.kat_type.specs.Lists.{Has}
use Rattle.kat_type.specs.Unions.{AreAmong, AreNested, united}
use Rattle.kat_type.specs.declared.done.Done.{Done}
use Rattle.kat_type.specs.declared.signatures.Signature.{Signature}
use Rattle.kat_type.proofs.Unions.{has_mine, has_united, once_united}
use Rattle.kat_design.specs.Denotations.{denotation_of, design_meaning}
use Rattle.kat_design.specs.Designs.{DesignForm}
use Rattle.kat_design.specs.Meanings.{Means, are_kin}
use Rattle.kat_design.specs.Parts.{PartsKin, parts_joined}
use Rattle.kat_design.specs.Sorted.{IsWellSorted}
use Rattle.kat_design.specs.declared.states.Part.{Part}
use Rattle.kat_difference.specs.Marks.{AreMarks}
use Rattle.kat_difference.specs.Near as difference
use Rattle.kat_difference.specs.Differences.{IsFrom}
use Rattle.kat_difference.specs.Uniting.{MarksTellOperations, MarksUnite}
use Rattle.kat_difference.proofs.Latest.{marks_last}
use Rattle.kat_difference.proofs.PartLaws.{parts_assoc}
use Rattle.kat_actions.specs.Texts.{FitsSignature}
use Rattle.kat_actions.specs.declared.calls.Call.{Call}
use Rattle.kat_actions.specs.declared.calls.Verb.TheVariants.{Do}
use Rattle.kat_node.specs.Nodes.{AreSums, IsNode}
use Rattle.kat_node.specs.Packets.{parts_of, with_packet}
use Rattle.kat_node.specs.declared.nodes.Node.{Node}
use Rattle.kat_share.specs.NodeDifferences.{IsNodeDifference}
use Rattle.kat_share.specs.ShareTexts.{IsPacketText, PacketsAreOne, SharesAreOne, after_line, first_line}
use Rattle.kat_step.specs.Limits.{refusal_of}
use Rattle.kat_step.specs.Runs.{AreNear, IsLegal, IsPrefix, IsStateFile}
use Rattle.kat_step.specs.Steps.{done_by}
use Rattle.kat_embed.specs.Contents.{AreMarkSums, IsOpened, IsSound, acted, design_of, file_of, raised, with_node, with_state}
use Rattle.kat_embed.specs.Sharing.{AreMarksOf, HasOperations, IsBeyond, IsFromStart, IsKnown, PacketsCatchUp}
use Rattle.kat_embed.specs.declared.contents.Contents.{Contents}
use Rattle.kat_embed.proofs.Keeping.{StepsKeep, acted_state, merged_state, opened_state}
use Rattle.kat_embed.proofs.MarkSums.{marks_said, sums_kin, sums_tally}

-- the two crates say in the same words which lists are near
prefix_as : (origin : ℕ) (xs ys : List Done) → IsPrefix origin xs ys → difference.IsPrefix origin xs ys
prefix_as origin xs ys h = record { among = h.among; closed = h.closed }

near_as : (xs ys : List Done) → AreNear xs ys → difference.AreNear xs ys
near_as xs ys near origin =
    elim (near origin) as (λ _. difference.IsPrefix origin xs ys ⊎ difference.IsPrefix origin ys xs) [
      | inl mine ↦ inl (prefix_as origin xs ys mine)
      | inr theirs ↦ inr (prefix_as origin ys xs theirs)
    ]

near_nested : (xs ys : List Done) → AreNear xs ys → AreNested xs ys
near_nested xs ys near origin =
    elim (near origin) as (λ _. AreAmong origin xs ys ⊎ AreAmong origin ys xs) [ inl mine ↦ inl mine.among | inr theirs ↦ inr theirs.among ]

timed_as : (sig : Signature) (xs : List Done) → IsLegal sig xs → difference.AreTimed xs
timed_as sig xs legal = record { once = legal.once; timed = legal.timed }

-- known marks of a replica
marks_sums : (marks : Option Sums) (known : Sums) → marks ≡ Some known → AreMarkSums marks → AreSums known
marks_sums marks known e is = (let h : AreMarkSums (Some known) = subst AreMarkSums e is in h)

marks_have : (marks : Option Sums) (known : Sums) (has : List Done) → marks ≡ Some known → AreMarksOf marks has → AreMarks known has
marks_have marks known has e is = (let h : AreMarksOf (Some known) has = subst (λ (m : Option Sums). AreMarksOf m has) e is in h)

some_one : (a b : Sums) → Some a ≡ Some b → a ≡ b
some_one a b e = cc

-- a replica that did nothing has no operations
pub opened_has : (first second : List ℕ) (number : ℕ) (c : Contents) → IsSound c → IsOpened first second number c → HasOperations c []
opened_has first second number c sound is = record {
  state = opened_state first second number c sound is;
  marks = subst (λ (m : Option Sums). AreMarksOf m []) (sym is.marks) (record { each = λ replica. refl });
}

-- an operation is one more
raised_has : (marks : Option Sums) (has : List Done) (one : Done) → AreMarkSums marks → 0 < one.time → AreMarksOf marks has → AreMarksOf (raised marks one.replica one.time) (has ++ one ∷ [])
raised_has None has one sums later h = tt
raised_has (Some marks) has one sums later h = marks_last has marks one (sums_tally marks sums) later h

pub acted_has : StepsKeep → (c : Contents) (call : Call) (has : List Done) → IsSound c → FitsSignature Do c.design.sig call → refusal_of (design_of c) c.node call ≡ None
    → HasOperations c has → HasOperations (acted c call) (has ++ done_by c.node call ∷ [])
acted_has keep c call has sound fits passed is = record {
  state = acted_state keep c call has sound fits passed is.state;
  marks = raised_has c.marks has (done_by c.node call) sound.marks (omega arith) is.marks;
}

-- a state without marks leaves a replica without marks
pub merged_has : StepsKeep → (before after : Contents) (packet : Node) (mine theirs : List Done) → IsSound before → after ≡ with_node before (with_packet before.node packet)
    → HasOperations before mine → IsStateFile (design_of before) (record { node = packet; has = theirs }) → AreNear mine theirs → HasOperations after (united mine theirs)
merged_has keep before after packet mine theirs sound same is other near = record {
  state = merged_state keep before after packet mine theirs sound same is.state other near;
  marks = subst (λ (c : Contents). AreMarksOf c.marks (united mine theirs)) (sym same) tt;
}

-- What is told leaves what the whole leaves, if all operations are there from which on it tells.
abbrev merged_as : Node → ℕ → List Part → Node
merged_as peer clock parts = record { number = peer.number; replica = record { clock = max peer.replica.clock clock; state = record { parts = parts } } }

same_packet : (peer told whole : Node) → told.replica.clock ≡ whole.replica.clock → parts_joined (parts_of peer) (parts_of told) ≡ parts_joined (parts_of peer) (parts_of whole) → with_packet peer told ≡ with_packet peer whole
same_packet peer told whole e f =
    ap (λ (n : ℕ). merged_as peer n (parts_joined (parts_of peer) (parts_of told))) e ∙ ap (merged_as peer whole.replica.clock) f

above_same : IsTotalOrder value_order → (above known told whole : List Part) → are_kin PartsKin above known → are_kin PartsKin known told → are_kin PartsKin known whole → parts_joined above known ≡ above → parts_joined known told ≡ parts_joined known whole → parts_joined above told ≡ parts_joined above whole
above_same o above known told whole h k l e same =
    ap (λ (t : List Part). parts_joined t told) (sym e)
    ∙ (parts_assoc o above known told h k ∙ (ap (parts_joined above) same ∙ (sym (parts_assoc o above known whole h l) ∙ ap (λ (t : List Part). parts_joined t whole) e)))

-- what is known of nodes (kat_node) and of designs (kat_design)
pub record NodesGo : Type 0 where
  pub goes : (d : DesignForm) (node : Node) → IsWellSorted d → IsNode d node → are_kin PartsKin (parts_of node) (denotation_of d [])
  pub turned : (xs ys : List Part) → are_kin PartsKin xs ys → are_kin PartsKin ys xs
  pub chained : (xs ys zs : List Part) → are_kin PartsKin xs ys → are_kin PartsKin ys zs → are_kin PartsKin xs zs

abbrev pub DesignsMean : Type 0
DesignsMean = (d : DesignForm) → IsWellSorted d → Means (are_kin PartsKin) (design_meaning d)

-- nodes of one design go together
pub nodes_kin : NodesGo → (d : DesignForm) (some other : Node) → IsWellSorted d → IsNode d some → IsNode d other → are_kin PartsKin (parts_of some) (parts_of other)
nodes_kin go d some other sorted h k =
    go.chained (parts_of some) (denotation_of d []) (parts_of other) (go.goes d some sorted h) (go.turned (parts_of other) (denotation_of d []) (go.goes d other sorted k))

-- operations that a replica has already change nothing
either_mine : (mine theirs : List Done) (one : Done) → ((it : Done) → Has theirs it → Has mine it) → Has mine one ⊎ Has theirs one → Has mine one
either_mine mine theirs one all (inl h) = h
either_mine mine theirs one all (inr h) = all one h

turned_near : (xs ys : List Done) → AreNear xs ys → AreNear ys xs
turned_near xs ys near origin = elim (near origin) as (λ _. IsPrefix origin ys xs ⊎ IsPrefix origin xs ys) [ inl h ↦ inr h | inr h ↦ inl h ]

nothing_new : DesignsMean → StepsKeep → (before : Contents) (known : Node) (mine theirs : List Done) → IsSound before → IsStateFile (design_of before) (file_of before mine)
    → IsStateFile (design_of before) (record { node = known; has = theirs }) → AreNear theirs mine → ((one : Done) → Has theirs one → Has mine one)
    → parts_joined (parts_of before.node) (parts_of known) ≡ parts_of before.node
nothing_new mean keep before known mine theirs sound mine_is theirs_is near covered =
    let d : DesignForm = design_of before in
    let both : List Done = united mine theirs in
    let step = merged_state keep before (with_node before (with_packet before.node known)) known mine theirs sound refl mine_is theirs_is (turned_near theirs mine near) in
    let same : denotation_of d both ≡ denotation_of d mine =
    (mean d sound.sorted).same both mine (once_united mine theirs mine_is.legal.once theirs_is.legal.once) mine_is.legal.once
    ((λ one h. either_mine mine theirs one covered (has_united mine theirs one h)), (λ one h. has_mine mine theirs one h)) in
    step.state ∙ (same ∙ sym mine_is.state)

difference_as_whole : NodesGo → (d : DesignForm) (before known whole told : Node) → IsWellSorted d → IsNode d before → IsNode d known → IsNode d whole → IsNode d told
    → parts_joined (parts_of before) (parts_of known) ≡ parts_of before → IsBeyond d known whole told → with_packet before told ≡ with_packet before whole
difference_as_whole go d before known whole told sorted b k w t nothing made =
    same_packet before told whole made.clock
    (above_same total-law (parts_of before) (parts_of known) (parts_of told) (parts_of whole) (nodes_kin go d before known sorted b k) (nodes_kin go d known told sorted k t) (nodes_kin go d known whole sorted k w) nothing made.same)

-- the difference of kat_share is what the library promises of it
pub beyond : NodesGo → (d : DesignForm) (known node told : Node) → IsWellSorted d → IsNode d known → IsNode d node → IsNodeDifference d known node told → IsBeyond d known node told
beyond go d known node told sorted k n made =
    let start : List Part = denotation_of d [] in
    let from : (it : Node) → IsNode d it → IsFromStart d it → IsFrom (are_kin PartsKin) parts_joined start (parts_of it) =
    λ it is own. record { goes = go.turned (parts_of it) start (go.goes d it sorted is); own = own } in
    record {
      number = made.number;
      clock = made.clock;
      same = made.state.same;
      nothing = λ known_from node_from below. made.state.nothing (from known k known_from) (from node n node_from) below;
      least = λ exact known_from node_from other is own serves. (made.state.least exact (from known k known_from) (from node n node_from)).below (parts_of other) (from other is own) serves;
    }

-- what is known is one node with one list of marks
known_one : SharesAreOne → (d : DesignForm) (number : ℕ) (bytes : List ℕ) (node other : Node) (marks others : Sums) → IsKnown d number bytes node marks → IsKnown d number bytes other others → (node ≡ other) × (marks ≡ others)
known_one shares d number [] node other marks others a b = (a.0 ∙ sym b.0, a.1 ∙ sym b.1)
known_one shares d number (byte ∷ bytes) node other marks others a b = shares d (byte ∷ bytes) node other marks others a b

pub packets_catch_up : NodesGo → DesignsMean → MarksTellOperations → MarksUnite → SharesAreOne → PacketsAreOne → StepsKeep → PacketsCatchUp
packets_catch_up go mean tell marks_unite shares one keep known packet before after sender node base mine theirs all sound sender_sound same is sender_is known_is theirs_is base_are near_known near made caught =
    let d : DesignForm = design_of before in
    let turn : design_of sender ≡ d = sym same in
    let does = caught.does in
    let sent : IsPacketText d packet made.base made.told made.whole = subst (λ (e : DesignForm). IsPacketText e packet made.base made.told made.whole) turn made.packet in
    let told = one d packet does.base made.base does.told made.told does.others made.whole does.is sent in
    let pair = known_one shares (design_of sender) sender.node.number known node made.before base made.base known_is made.is_known in
    let all_is : IsStateFile d (record { node = sender.node; has = all }) = subst (λ (e : DesignForm). IsStateFile e (record { node = sender.node; has = all })) turn sender_is.state in
    let there : IsStateFile d (record { node = node; has = theirs }) = subst (λ (e : DesignForm). IsStateFile e (record { node = node; has = theirs })) turn theirs_is in
    let before_is : IsStateFile d (record { node = made.before; has = theirs }) = subst (λ (n : Node). IsStateFile d (record { node = n; has = theirs })) pair.0 there in
    let difference_is : IsBeyond d made.before sender.node made.told = subst (λ (e : DesignForm). IsBeyond e made.before sender.node made.told) turn made.made in
    let own : AreMarks does.known mine = marks_have before.marks does.known mine does.are is.marks in
    let own_sums : AreSums does.known = marks_sums before.marks does.known does.are sound.marks in
    let whole : AreMarks made.whole all = marks_have sender.marks made.whole all made.are sender_is.marks in
    let base_same : does.base ≡ base = told.0 ∙ sym pair.1 in
    let base_has : AreMarks does.base theirs = subst (λ (t : Sums). AreMarks t theirs) (sym base_same) base_are in
    let kin : TalliesKin does.base does.known = sums_kin does.base does.known (marks_said (first_line packet) does.base does.is.base_is) own_sums in
    let covered : (it : Done) → Has theirs it → Has mine it =
    tell theirs mine does.base does.known (timed_as d.sig theirs before_is.legal) (near_as theirs mine near_known) kin base_has own does.covered in
    let whole_state : IsStateFile d (record { node = with_packet before.node sender.node; has = united mine all }) =
    merged_state keep before (with_node before (with_packet before.node sender.node)) sender.node mine all sound refl is.state all_is near in
    let as_whole : with_packet before.node made.told ≡ with_packet before.node sender.node =
    difference_as_whole go d before.node made.before sender.node made.told sound.sorted is.state.node before_is.node all_is.node sent.told.state.possible
    (nothing_new mean keep before made.before mine theirs sound is.state before_is near_known covered) difference_is in
    let node_is : caught.node ≡ with_packet before.node sender.node = does.node ∙ (ap (with_packet before.node) told.1 ∙ as_whole) in
    let others : AreMarks does.others all = subst (λ (t : Sums). AreMarks t all) (sym told.2) whole in
    let others_kin : TalliesKin does.known does.others = sums_kin does.known does.others own_sums (marks_said (first_line (after_line packet)) does.others does.is.told.marks_are) in
    let marks_have_all : AreMarks caught.marks (united mine all) =
    subst (λ (t : Sums). AreMarks t (united mine all)) (sym does.marks_are) (marks_unite mine all does.known does.others others_kin own others) in
    let done : HasOperations (with_state before caught.node (Some caught.marks)) (united mine all) = record {
      state = subst (λ (n : Node). IsStateFile d (record { node = n; has = united mine all })) (sym node_is) whole_state;
      marks = marks_have_all;
    } in
    subst (λ (c : Contents). HasOperations c (united mine all)) (sym caught.merged) done
