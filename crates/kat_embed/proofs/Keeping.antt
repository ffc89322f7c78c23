-- States of the operations that a replica has, through all calls.
use Rattle.std.proofs.Common.{◌≡◌, ℕ, List, [], ◌∷◌, ◌++◌, map, refl, sym, ◌∙◌, ap, subst, append-nil, Option, None}
use Rattle.std.specs.Prelude.{max}
use Rattle.std.specs.List.{AllByRecursion}
use Rattle.std.specs.Option.{option_or}
use Rattle.kat_actions.specs.Texts.{FitsSignature}
use Rattle.kat_actions.specs.declared.calls.Call.{Call}
use Rattle.kat_actions.specs.declared.calls.Verb.TheVariants.{Do}
use Rattle.kat_design.specs.Denotations.{denotation_of}
use Rattle.kat_design.specs.Designs.{DesignForm}
use Rattle.kat_design.specs.Parts.{parts_joined}
use Rattle.kat_design.specs.Sorted.{EachHas, IsWellSorted}
use Rattle.kat_lattice.specs.Tallies.{Sums}
use Rattle.kat_node.specs.NodeFiles.{IsNodeText}
use Rattle.kat_node.specs.Packets.{AreAllNested, all_united, parts_of, with_packet, with_packets}
use Rattle.kat_node.specs.declared.nodes.Node.{Node}
use Rattle.kat_node.proofs.OneJudgement.{one_node}
use Rattle.kat_replica.specs.declared.replicas.Replica.{Replica}
use Rattle.kat_step.specs.Limits.{first_refusal, refusal_of}
use Rattle.kat_step.specs.Runs.{AreAllNear, AreNear, File, IsStateFile, lists_of, nodes_of, stepped_file}
use Rattle.kat_step.specs.Steps.{done_by, done_from, with_action, with_actions}
use Rattle.kat_step.specs.declared.error.StepError.{StepError}
use Rattle.kat_type.specs.Lists.{IsOnce}
use Rattle.kat_type.specs.Unions.{united}
use Rattle.kat_type.specs.declared.done.Done.{Done}
use Rattle.kat_embed.specs.Contents.{AddsOperation, IsOpened, IsSound, UnitesOperations, acted, design_of, file_of, with_node, with_state}
use Rattle.kat_embed.specs.declared.contents.Contents.{Contents}

-- what is known of a step (kat_step)
abbrev pub StepsKeep : Type 0
StepsKeep =
    (d : DesignForm) (file : File) (packets : List File) (actions : List Call) → IsWellSorted d
    → EachHas (IsStateFile d) (file ∷ packets) → AreAllNear (lists_of (file ∷ packets)) → AllByRecursion (FitsSignature Do d.sig) actions
    → first_refusal d (with_packets file.node (nodes_of packets)) actions ≡ None
    → IsStateFile d (stepped_file d file packets actions)

-- the node after an operation, or after a state that is merged
pub node_taken : (node packet : Node) (replica : Replica) → replica.state.parts ≡ parts_joined (parts_of node) (parts_of packet) → replica.clock ≡ max node.replica.clock packet.replica.clock
    → with_packet node packet ≡ record { number = node.number; replica = replica }
node_taken node packet replica joins clock = λ i. record { number = node.number; replica = record { clock = sym clock i; state = record { parts = sym joins i } } }

-- what is known of actions (kat_step) and of packets (kat_node)
abbrev pub ActionsAdd : Type 0
ActionsAdd =
    (d : DesignForm) (xs : List Done) (node : Node) (actions : List Call) → IsWellSorted d → parts_of node ≡ denotation_of d xs
    → parts_of (with_actions d node actions) ≡ denotation_of d (xs ++ done_from node.number node.replica.clock actions)

abbrev pub PacketsUnite : Type 0
PacketsUnite =
    (d : DesignForm) (xs : List Done) (lists : List (List Done)) (node : Node) (packets : List Node) → IsWellSorted d → IsOnce xs → AreAllNested xs lists
    → parts_of node ≡ denotation_of d xs → map parts_of packets ≡ map (denotation_of d) lists
    → parts_of (with_packets node packets) ≡ denotation_of d (all_united xs lists)

pub acted_adds : ActionsAdd → (c : Contents) (call : Call) (node : Node) (marks : Option Sums) → IsSound c → node ≡ with_action (design_of c) c.node call
    → AddsOperation c call (with_state c node marks)
acted_adds add c call node marks sound same = λ xs state. ap parts_of same ∙ add (design_of c) xs c.node (call ∷ []) sound.sorted state

pub merged_unites : PacketsUnite → (c : Contents) (bytes : List ℕ) (packet node : Node) → IsSound c → IsNodeText (design_of c) bytes packet
    → node ≡ with_packet c.node packet → UnitesOperations bytes c (with_node c node)
merged_unites unite c bytes packet node sound is same = λ other told xs ys once also nested mine theirs.
    let one = one_node (design_of c) bytes packet other is told in
    let there : parts_of packet ≡ denotation_of (design_of c) ys = ap parts_of one ∙ theirs in
    ap parts_of same ∙ unite (design_of c) xs (ys ∷ []) c.node (packet ∷ []) sound.sorted once (also, nested, tt, tt) mine (λ i. there i ∷ [])

-- a replica that did nothing
pub opened_state : (first second : List ℕ) (number : ℕ) (c : Contents) → IsSound c → IsOpened first second number c → IsStateFile (design_of c) (file_of c [])
opened_state first second number c sound is = record {
  node = sound.node;
  legal = record { once = tt; fits = λ one h. absurd h; timed = λ one h. absurd h; apart = λ one other h. absurd h };
  within = λ one h. absurd h;
  state = ap parts_of is.node;
}

-- an operation is a step with no packets
pub acted_state : StepsKeep → (c : Contents) (call : Call) (has : List Done) → IsSound c → FitsSignature Do c.design.sig call → refusal_of (design_of c) c.node call ≡ None
    → IsStateFile (design_of c) (file_of c has) → IsStateFile (design_of c) (file_of (acted c call) (has ++ done_by c.node call ∷ []))
acted_state keep c call has sound fits passed is =
    keep (design_of c) (file_of c has) [] (call ∷ []) sound.sorted (is, tt) (tt, tt) (fits, tt) (ap (λ (r : Option StepError). option_or r None) passed)

-- a state that is merged is a step with one packet and no actions
pub merged_state : StepsKeep → (before after : Contents) (packet : Node) (mine theirs : List Done) → IsSound before → after ≡ with_node before (with_packet before.node packet)
    → IsStateFile (design_of before) (file_of before mine) → IsStateFile (design_of before) (record { node = packet; has = theirs }) → AreNear mine theirs
    → IsStateFile (design_of after) (file_of after (united mine theirs))
merged_state keep before after packet mine theirs sound same is other near =
    let node = with_packet before.node packet in
    let step = keep (design_of before) (file_of before mine) (record { node = packet; has = theirs } ∷ []) [] sound.sorted (is, (other, tt)) ((near, tt), (tt, tt)) tt refl in
    let there : IsStateFile (design_of before) (record { node = node; has = united mine theirs }) =
    subst (λ (has : List Done). IsStateFile (design_of before) (record { node = node; has = has })) (append-nil (united mine theirs)) step in
    subst (λ (c : Contents). IsStateFile (design_of c) (file_of c (united mine theirs))) (sym same) there
