-- Files after a design are judged in one way.
use Rattle.std.proofs.Common.{◌≡◌, ℕ, zero, suc, ◌+◌, ◌⊎◌, inl, inr, List, [], ◌∷◌, refl, sym, ◌∙◌, ap, subst, arith}
use Rattle.std.specs.Cmp.{IsTotalOrder}
use Rattle.kat_num.specs.Orders.{value_order}
use Rattle.kat_actions.specs.Texts as calls
use Rattle.kat_actions.specs.declared.calls.Call.{Call}
use Rattle.kat_actions.specs.declared.calls.Verb.TheVariants.{Do}
use Rattle.kat_actions.proofs.Fitting.{calls_fit}
use Rattle.kat_actions.proofs.Judging.{calls_once, calls_or_refused, every_text_of_calls, refusal_once}
use Rattle.kat_design.specs.Designs.{DesignForm}
use Rattle.kat_design.specs.Sorted.{AreMatched, EachHas, IsWellSorted}
use Rattle.kat_node.specs.Judgements.{IsJudged, IsRefusal}
use Rattle.kat_node.specs.NodeFiles.{IsNodeRefusal, IsNodeText}
use Rattle.kat_node.specs.Nodes.{IsNode}
use Rattle.kat_node.specs.declared.errors.NodeError.{NodeError}
use Rattle.kat_node.specs.declared.errors.NodeError.TheVariants as state
use Rattle.kat_node.specs.declared.nodes.Node.{Node}
use Rattle.kat_node.proofs.OneJudgement.{every_text, never_both, one_node, one_refusal}
use Rattle.kat_script.specs.declared.error.ScriptError.{ScriptError}
use Rattle.kat_script.specs.declared.error.ScriptError.TheVariants as script
use Rattle.kat_node_texts.specs.Files.{AreActionsRefused, AreOf, AreStepFiles, IfTold, IsFirstRefused, IsRefusedAt, IsStateRefused, Passes, TellsPacket}
use Rattle.kat_node_texts.specs.declared.files.FileError.{FileError}
use Rattle.kat_node_texts.specs.declared.files.FileError.TheVariants.{State, Calls}
use Rattle.kat_node_texts.specs.declared.files.FileRefused.{FileRefused}
use Rattle.kat_node_texts.specs.declared.files.StepFiles.{StepFiles}

-- what an error tells
pub tells_state : (d : DesignForm) (text : List ℕ) (error : NodeError) (P : Type 0) → IsNodeRefusal d text error → (IsRefusal d text error → P) → IfTold (State error) P
tells_state d text state.Json P h by = by (record { refused = h; told = λ e. cc })
tells_state d text (state.Form place) P h by = by (record { refused = h; told = λ e. cc })
tells_state d text state.Version P h by = by (record { refused = h; told = λ e. cc })
tells_state d text (state.BadState place) P h by = by (record { refused = h; told = λ e. cc })
tells_state d text state.Memory P h by = tt

pub tells_calls : (d : DesignForm) (text : List ℕ) (error : ScriptError) (P : Type 0) → calls.TellsRefusal Do d.sig text error → (calls.IsRefused Do d.sig text error → P) → IfTold (Calls error) P
tells_calls d text (script.Refused number at) P h by = by h
tells_calls d text (script.Line number line) P h by = by h
tells_calls d text (script.Late line clock) P h by = by h
tells_calls d text script.Memory P h by = tt

pub told_by : (error : FileError) (P Q : Type 0) → (P → Q) → IfTold error P → IfTold error Q
told_by (State state.Json) P Q by h = by h
told_by (State (state.Form place)) P Q by h = by h
told_by (State state.Version) P Q by h = by h
told_by (State (state.BadState place)) P Q by h = by h
told_by (State state.Memory) P Q by h = tt
told_by (Calls (script.Refused number at)) P Q by h = by h
told_by (Calls (script.Line number line)) P Q by h = by h
told_by (Calls (script.Late line clock)) P Q by h = by h
told_by (Calls script.Memory) P Q by h = tt

-- a packet may come at any later place
pub packet_at : (d : DesignForm) (k m : ℕ) (texts : List (List ℕ)) (file : ℕ) (error : FileError) → IsFirstRefused d (suc (suc k)) texts file error → IsFirstRefused d (suc (suc m)) texts file error
packet_at d k m [] file error h = absurd h
packet_at d k m (text ∷ texts) zero error h = h
packet_at d k m (text ∷ texts) (suc file) error h = (h.0, packet_at d (suc k) (suc m) texts file error h.1)

none_more : (first : ℕ) → first ≡ first + 0
none_more first = omega arith

one_further : (first place : ℕ) → (first + 1) + place ≡ first + suc place
one_further first place = omega arith

two_more : (place : ℕ) → 2 + place ≡ suc (suc place)
two_more place = omega arith

-- the first packet, or one after it
pub first_packet : (d : DesignForm) (first : ℕ) (packet : List ℕ) (rest : List (List ℕ)) (error : NodeError) (refused : FileRefused) → refused.file ≡ first → refused.error ≡ State error
    → IsNodeRefusal d packet error → TellsPacket d first (packet ∷ rest) refused
first_packet d first packet rest error refused at is h =
    subst (λ (e : FileError). IfTold e ((place : ℕ) × (refused.file ≡ first + place) × IsFirstRefused d 2 (packet ∷ rest) place e)) (sym is)
    (tells_state d packet error ((place : ℕ) × (refused.file ≡ first + place) × IsFirstRefused d 2 (packet ∷ rest) place (State error)) h (λ r. (0, at ∙ none_more first, r)))

pub later_packet : (d : DesignForm) (first : ℕ) (packet : List ℕ) (rest : List (List ℕ)) (node : Node) (refused : FileRefused) → IsNodeText d packet node → TellsPacket d (first + 1) rest refused
    → TellsPacket d first (packet ∷ rest) refused
later_packet d first packet rest node refused is h =
    told_by refused.error ((place : ℕ) × (refused.file ≡ (first + 1) + place) × IsFirstRefused d 2 rest place refused.error)
    ((place : ℕ) × (refused.file ≡ first + place) × IsFirstRefused d 2 (packet ∷ rest) place refused.error)
    (λ t. (suc t.0, t.1 ∙ one_further first t.0, ((node, is), packet_at d 0 1 rest t.0 refused.error t.2))) h

pub behind_two : (d : DesignForm) (node actions : List ℕ) (packets : List (List ℕ)) (refused : FileRefused) → Passes d 0 node → Passes d 1 actions → TellsPacket d 2 packets refused
    → IfTold refused.error (IsFirstRefused d 0 (node ∷ actions ∷ packets) refused.file refused.error)
behind_two d node actions packets refused p q h =
    told_by refused.error ((place : ℕ) × (refused.file ≡ 2 + place) × IsFirstRefused d 2 packets place refused.error) (IsFirstRefused d 0 (node ∷ actions ∷ packets) refused.file refused.error)
    (λ t. subst (λ n. IsFirstRefused d 0 (node ∷ actions ∷ packets) n refused.error) (sym (t.1 ∙ two_more t.0)) (p, (q, t.2))) h

-- a file is judged in one way
state_once : (d : DesignForm) (text : List ℕ) (some other : FileError) → IsStateRefused d text some → IsStateRefused d text other → some ≡ other
state_once d text (State e) (State f) h k = ap State (one_refusal d text e f h k)
state_once d text (State e) (Calls f) h k = absurd k
state_once d text (Calls e) other h k = absurd h

state_apart : (d : DesignForm) (text : List ℕ) (node : Node) (error : FileError) → IsNodeText d text node → IsStateRefused d text error → ⊥
state_apart d text node (State e) h k = never_both d text node e h k
state_apart d text node (Calls e) h k = k

actions_once : (d : DesignForm) (text : List ℕ) (some other : FileError) → AreActionsRefused d text some → AreActionsRefused d text other → some ≡ other
actions_once d text (Calls e) (Calls f) h k = ap Calls (refusal_once Do d.sig text e f h k)
actions_once d text (Calls e) (State f) h k = absurd k
actions_once d text (State e) other h k = absurd h

actions_apart : (d : DesignForm) (text : List ℕ) (actions : List Call) (error : FileError) → calls.AreCallsOf Do d.sig text actions → AreActionsRefused d text error → ⊥
actions_apart d text actions (Calls e) h k = calls_or_refused Do d.sig text actions e h k
actions_apart d text actions (State e) h k = k

pub file_once : (d : DesignForm) (place : ℕ) (text : List ℕ) (some other : FileError) → IsRefusedAt d place text some → IsRefusedAt d place text other → some ≡ other
file_once d zero text some other h k = state_once d text some other h k
file_once d (suc zero) text some other h k = actions_once d text some other h k
file_once d (suc (suc place)) text some other h k = state_once d text some other h k

pub file_apart : (d : DesignForm) (place : ℕ) (text : List ℕ) (error : FileError) → Passes d place text → IsRefusedAt d place text error → ⊥
file_apart d zero text error p k = state_apart d text p.0 error p.1 k
file_apart d (suc zero) text error p k = actions_apart d text p.0 error p.1 k
file_apart d (suc (suc place)) text error p k = state_apart d text p.0 error p.1 k

state_judged : (d : DesignForm) (text : List ℕ) → IsJudged d text → ((node : Node) × IsNodeText d text node) ⊎ ((error : FileError) × IsStateRefused d text error)
state_judged d text (inl h) = inl h
state_judged d text (inr h) = inr (State h.0, h.1)

actions_judged : (d : DesignForm) (text : List ℕ) → ((actions : List Call) × calls.AreCallsOf Do d.sig text actions) ⊎ ((error : ScriptError) × calls.IsRefused Do d.sig text error)
    → ((actions : List Call) × calls.AreCallsOf Do d.sig text actions) ⊎ ((error : FileError) × AreActionsRefused d text error)
actions_judged d text (inl h) = inl h
actions_judged d text (inr h) = inr (Calls h.0, h.1)

pub file_judged : IsTotalOrder value_order → (d : DesignForm) (place : ℕ) (text : List ℕ) → IsWellSorted d → Passes d place text ⊎ ((error : FileError) × IsRefusedAt d place text error)
file_judged total d zero text sorted = state_judged d text (every_text total d sorted text)
file_judged total d (suc zero) text sorted = actions_judged d text (every_text_of_calls Do d.sig text)
file_judged total d (suc (suc place)) text sorted = state_judged d text (every_text total d sorted text)

-- the files of a step say one thing
same_packets : (d : DesignForm) (texts : List (List ℕ)) (some other : List Node) → AreMatched (IsNodeText d) texts some → AreMatched (IsNodeText d) texts other → some ≡ other
same_packets d [] [] [] h k = refl
same_packets d [] [] (n ∷ other) h k = absurd k
same_packets d [] (m ∷ some) other h k = absurd h
same_packets d (t ∷ texts) [] other h k = absurd h
same_packets d (t ∷ texts) (m ∷ some) [] h k = absurd k
same_packets d (t ∷ texts) (m ∷ some) (n ∷ other) h k =
    let first = one_node d t m n h.0 k.0 in
    let rest = same_packets d texts some other h.1 k.1 in
    λ i. first i ∷ rest i

pub files_once : (d : DesignForm) (node actions : List ℕ) (packets : List (List ℕ)) (some other : StepFiles) → AreStepFiles d node actions packets some → AreStepFiles d node actions packets other → some ≡ other
files_once d node actions packets some other h k =
    let one = one_node d node some.node other.node h.is_node k.is_node in
    let same = calls_once Do d.sig actions some.actions other.actions h.are_actions k.are_actions in
    let all = same_packets d packets some.packets other.packets h.are_packets k.are_packets in
    λ i. record { node = one i; actions = same i; packets = all i }

packets_are : (d : DesignForm) (texts : List (List ℕ)) (nodes : List Node) → AreMatched (IsNodeText d) texts nodes → EachHas (IsNode d) nodes
packets_are d [] [] h = tt
packets_are d [] (n ∷ nodes) h = absurd h
packets_are d (t ∷ texts) [] h = absurd h
packets_are d (t ∷ texts) (n ∷ nodes) h = (h.0.possible, packets_are d texts nodes h.1)

pub files_are : (d : DesignForm) (node actions : List ℕ) (packets : List (List ℕ)) (files : StepFiles) → AreStepFiles d node actions packets files → AreOf d files
files_are d node actions packets files h = record {
  node = h.is_node.possible;
  packets = packets_are d packets files.packets h.are_packets;
  actions = (calls_fit Do d.sig actions files.actions h.are_actions).each;
}
