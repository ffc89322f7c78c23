-- Packets that are merged, and their operations.
use Rattle.std.proofs.Common.{◌≡◌, ◌⊎◌, ℕ, max, List, [], ◌∷◌, ◌∙◌, ap, sym, subst, refl, inl, inr, append-nil, None}
use Rattle.std.specs.Cmp.{IsTotalOrder}
use Rattle.std.specs.List.{AllByRecursion}
use Rattle.kat_actions.specs.Texts.{FitsSignature}
use Rattle.kat_actions.specs.declared.calls.Call.{Call}
use Rattle.kat_actions.specs.declared.calls.Verb.TheVariants.{Do}
use Rattle.kat_design.specs.Denotations.{denotation_of, design_meaning}
use Rattle.kat_design.specs.Designs.{DesignForm}
use Rattle.kat_design.specs.Meanings.{Means, are_kin}
use Rattle.kat_design.specs.Parts.{PartsKin, parts_joined}
use Rattle.kat_design.specs.Sorted.{EachHas, IsWellSorted}
use Rattle.kat_design.specs.declared.states.Part.{Part}
use Rattle.kat_difference.specs.Differences.{IsFrom}
use Rattle.kat_difference.specs.Marks.{AreMarks}
use Rattle.kat_difference.specs.Near as difference
use Rattle.kat_difference.specs.Uniting.{MarksTellOperations, MarksUnite}
use Rattle.kat_difference.proofs.PartLaws.{parts_assoc}
use Rattle.kat_lattice.specs.Tallies.{Sums, tallies_joined}
use Rattle.kat_node.specs.Nodes.{IsNode}
use Rattle.kat_node.specs.Packets.{parts_of, with_packet, with_packets}
use Rattle.kat_node.specs.declared.nodes.Node.{Node}
use Rattle.kat_num.specs.Orders.{value_order}
use Rattle.kat_num.specs.contracts.values.ValueOrd.TheImpl.Laws.{total-law}
use Rattle.kat_share.specs.NodeDifferences.{IsNodeDifference}
use Rattle.kat_share.specs.declared.packets.SharePacket.{SharePacket}
use Rattle.kat_share.specs.declared.shares.Share.{Share}
use Rattle.kat_step.specs.Limits.{first_refusal}
use Rattle.kat_step.specs.Runs.{AreAllNear, AreNear, File, IsLegal, IsPrefix, IsStateFile, lists_of, nodes_of, stepped_file}
use Rattle.kat_type.specs.Lists.{Has}
use Rattle.kat_type.specs.Unions.{united}
use Rattle.kat_type.specs.declared.done.Done.{Done}
use Rattle.kat_type.specs.declared.signatures.Signature.{Signature}
use Rattle.kat_type.proofs.Unions.{has_mine, has_united, once_united}
use Rattle.kat_share_step.specs.Keeping.{ComesFrom, HasOperations, Origin}
use Rattle.kat_share_step.specs.Shares.{IsFromStart, IsToldBeyond}
use Rattle.kat_share_step.specs.Steps.{Covers, with_share_packet}
use Rattle.kat_share_step.proofs.Sums.{PacketsKept, sums_joined, sums_kin}

-- the two crates say in the same words which lists are near
prefix_as : (origin : ℕ) (xs ys : List Done) → IsPrefix origin xs ys → difference.IsPrefix origin xs ys
prefix_as origin xs ys h = record { among = h.among; closed = h.closed }

near_as : (xs ys : List Done) → AreNear xs ys → difference.AreNear xs ys
near_as xs ys near origin =
    elim (near origin) as (λ _. difference.IsPrefix origin xs ys ⊎ difference.IsPrefix origin ys xs) [
      | inl mine ↦ inl (prefix_as origin xs ys mine)
      | inr theirs ↦ inr (prefix_as origin ys xs theirs)
    ]

timed_as : (sig : Signature) (xs : List Done) → IsLegal sig xs → difference.AreTimed xs
timed_as sig xs legal = record { once = legal.once; timed = legal.timed }

-- what is known of a step (kat_step)
abbrev pub StepsKeep : Type 0
StepsKeep =
    (d : DesignForm) (file : File) (packets : List File) (actions : List Call) → IsWellSorted d
    → EachHas (IsStateFile d) (file ∷ packets) → AreAllNear (lists_of (file ∷ packets)) → AllByRecursion (FitsSignature Do d.sig) actions
    → first_refusal d (with_packets file.node (nodes_of packets)) actions ≡ None
    → IsStateFile d (stepped_file d file packets actions)

-- a whole state that is merged is a step with one packet and no actions
merged_state : StepsKeep → (d : DesignForm) (node packet : Node) (mine theirs : List Done) → IsWellSorted d → IsStateFile d (record { node = node; has = mine })
    → IsStateFile d (record { node = packet; has = theirs }) → AreNear mine theirs
    → IsStateFile d (record { node = with_packet node packet; has = united mine theirs })
merged_state keep d node packet mine theirs sorted is other near =
    let step = keep d (record { node = node; has = mine }) (record { node = packet; has = theirs } ∷ []) [] sorted (is, (other, tt)) ((near, tt), (tt, tt)) tt refl in
    subst (λ (has : List Done). IsStateFile d (record { node = with_packet node packet; has = has })) (append-nil (united mine theirs)) step

-- what is known of nodes (kat_node) and of designs (kat_design)
pub record NodesGo : Type 0 where
  pub goes : (d : DesignForm) (node : Node) → IsWellSorted d → IsNode d node → are_kin PartsKin (parts_of node) (denotation_of d [])
  pub turned : (xs ys : List Part) → are_kin PartsKin xs ys → are_kin PartsKin ys xs
  pub chained : (xs ys zs : List Part) → are_kin PartsKin xs ys → are_kin PartsKin ys zs → are_kin PartsKin xs zs

abbrev pub DesignsMean : Type 0
DesignsMean = (d : DesignForm) → IsWellSorted d → Means (are_kin PartsKin) (design_meaning d)

-- nodes of one design go together
nodes_kin : NodesGo → (d : DesignForm) (some other : Node) → IsWellSorted d → IsNode d some → IsNode d other → are_kin PartsKin (parts_of some) (parts_of other)
nodes_kin go d some other sorted h k =
    go.chained (parts_of some) (denotation_of d []) (parts_of other) (go.goes d some sorted h) (go.turned (parts_of other) (denotation_of d []) (go.goes d other sorted k))

-- What is told leaves what the whole leaves, if all operations are there from which on it tells.
abbrev merged_as : Node → ℕ → List Part → Node
merged_as peer clock parts = record { number = peer.number; replica = record { clock = max peer.replica.clock clock; state = record { parts = parts } } }

same_packet : (peer told whole : Node) → told.replica.clock ≡ whole.replica.clock → parts_joined (parts_of peer) (parts_of told) ≡ parts_joined (parts_of peer) (parts_of whole) → with_packet peer told ≡ with_packet peer whole
same_packet peer told whole e f =
    ap (λ (n : ℕ). merged_as peer n (parts_joined (parts_of peer) (parts_of told))) e ∙ ap (merged_as peer whole.replica.clock) f

above_same : IsTotalOrder value_order → (above known told whole : List Part) → are_kin PartsKin above known → are_kin PartsKin known told → are_kin PartsKin known whole → parts_joined above known ≡ above → parts_joined known told ≡ parts_joined known whole → parts_joined above told ≡ parts_joined above whole
above_same o above known told whole h k l e same =
    ap (λ (t : List Part). parts_joined t told) (sym e)
    ∙ (parts_assoc o above known told h k ∙ (ap (parts_joined above) same ∙ (sym (parts_assoc o above known whole h l) ∙ ap (λ (t : List Part). parts_joined t whole) e)))

difference_as_whole : NodesGo → (d : DesignForm) (before known whole told : Node) → IsWellSorted d → IsNode d before → IsNode d known → IsNode d whole → IsNode d told
    → parts_joined (parts_of before) (parts_of known) ≡ parts_of before → IsToldBeyond d known whole told → with_packet before told ≡ with_packet before whole
difference_as_whole go d before known whole told sorted b k w t nothing made =
    same_packet before told whole made.clock
    (above_same total-law (parts_of before) (parts_of known) (parts_of told) (parts_of whole) (nodes_kin go d before known sorted b k) (nodes_kin go d known told sorted k t) (nodes_kin go d known whole sorted k w) nothing made.same)

-- operations that a replica has already change nothing
either_mine : (mine theirs : List Done) (one : Done) → ((it : Done) → Has theirs it → Has mine it) → Has mine one ⊎ Has theirs one → Has mine one
either_mine mine theirs one all (inl h) = h
either_mine mine theirs one all (inr h) = all one h

turned_near : (xs ys : List Done) → AreNear xs ys → AreNear ys xs
turned_near xs ys near origin = elim (near origin) as (λ _. IsPrefix origin ys xs ⊎ IsPrefix origin xs ys) [ inl h ↦ inr h | inr h ↦ inl h ]

nothing_new : DesignsMean → StepsKeep → (d : DesignForm) (before known : Node) (mine theirs : List Done) → IsWellSorted d → IsStateFile d (record { node = before; has = mine })
    → IsStateFile d (record { node = known; has = theirs }) → AreNear theirs mine → ((one : Done) → Has theirs one → Has mine one)
    → parts_joined (parts_of before) (parts_of known) ≡ parts_of before
nothing_new mean keep d before known mine theirs sorted mine_is theirs_is near covered =
    let both : List Done = united mine theirs in
    let step = merged_state keep d before known mine theirs sorted mine_is theirs_is (turned_near theirs mine near) in
    let same : denotation_of d both ≡ denotation_of d mine =
    (mean d sorted).same both mine (once_united mine theirs mine_is.legal.once theirs_is.legal.once) mine_is.legal.once
    ((λ one h. either_mine mine theirs one covered (has_united mine theirs one h)), (λ one h. has_mine mine theirs one h)) in
    step.state ∙ (same ∙ sym mine_is.state)

-- the difference of kat_share is what is promised of it
pub beyond : NodesGo → (d : DesignForm) (known node told : Node) → IsWellSorted d → IsNode d known → IsNode d node → IsNodeDifference d known node told → IsToldBeyond d known node told
beyond go d known node told sorted k n made =
    let start : List Part = denotation_of d [] in
    let from : (it : Node) → IsNode d it → IsFromStart d it → IsFrom (are_kin PartsKin) parts_joined start (parts_of it) =
    λ it is own. record { goes = go.turned (parts_of it) start (go.goes d it sorted is); own = own } in
    record {
      number = made.number;
      clock = made.clock;
      same = made.state.same;
      nothing = λ known_from node_from below. made.state.nothing (from known k known_from) (from node n node_from) below;
      least = λ exact known_from node_from other is own serves. (made.state.least exact (from known k known_from) (from node n node_from)).below (parts_of other) (from other is own) serves;
    }

-- what is known of packets (kat_node), of designs (kat_design), of marks (kat_difference) and of steps (kat_step)
pub record Known : Type 0 where
  pub steps : StepsKeep
  pub mean : DesignsMean
  pub go : NodesGo
  pub tell : MarksTellOperations
  pub marks : MarksUnite
  pub kept : PacketsKept

-- a packet that isn't refused adds all operations of its sender
pub merged_has : Known → (d : DesignForm) (share : Share) (packet : SharePacket) (origin : Origin) (mine : List Done) → IsWellSorted d → HasOperations d share mine
    → ComesFrom d origin packet → AreNear origin.theirs mine → AreNear mine origin.all → Covers share packet
    → HasOperations d (with_share_packet share packet) (united mine origin.all)
merged_has k d share packet origin mine sorted has from near_known near covers =
    let theirs : List Done = origin.theirs in
    let all : List Done = origin.all in
    let known : Node = origin.known.node in
    let whole : Node = origin.whole.node in
    let told : Node = packet.told.node in
    let beyond_is = from.beyond in
    let base_has : AreMarks packet.base theirs = subst (λ (t : Sums). AreMarks t theirs) (sym beyond_is.base) from.known.marks in
    let whole_has : AreMarks packet.told.marks all = subst (λ (t : Sums). AreMarks t all) (sym beyond_is.marks) from.whole.marks in
    let there : (one : Done) → Has theirs one → Has mine one =
    k.tell theirs mine packet.base share.marks (timed_as d.sig theirs from.known.state.legal) (near_as theirs mine near_known)
    (sums_kin packet.base share.marks from.is.base has.sums) base_has has.marks covers in
    let whole_state : IsStateFile d (record { node = with_packet share.node whole; has = united mine all }) =
    merged_state k.steps d share.node whole mine all sorted has.state from.whole.state near in
    let nothing : parts_joined (parts_of share.node) (parts_of known) ≡ parts_of share.node =
    nothing_new k.mean k.steps d share.node known mine theirs sorted has.state from.known.state near_known there in
    let as_whole : with_packet share.node told ≡ with_packet share.node whole =
    difference_as_whole k.go d share.node known whole told sorted has.state.node from.known.state.node from.whole.state.node from.is.told.node nothing beyond_is.node in
    record {
      state = subst (λ (n : Node). IsStateFile d (record { node = n; has = united mine all })) (sym as_whole) whole_state;
      marks = k.marks mine all share.marks packet.told.marks (sums_kin share.marks packet.told.marks has.sums from.is.told.marks) has.marks whole_has;
      sums = sums_joined k.kept share.marks packet.told.marks (tallies_joined share.marks packet.told.marks) has.sums from.is.told.marks refl;
    }
