-- Nodes with actions.
use Rattle.std.proofs.Common.{◌≡◌, ℕ, suc, cond, ◌+◌, ◌<◌, ◌≤◌, false, true, Bool, List, [], ◌∷◌, ◌++◌, drop, get_or, length, map, refl, sym, ◌∙◌, ap, ⊎_elim, subst, append_assoc, append-nil, arith, Option, None, Some}
use Rattle.std.specs.Prelude.{MatchOption, nat_le, slice_get}
use Rattle.std.specs.Cmp.{IsTotalOrder}
use Rattle.std.specs.List.{AllByRecursion}
use Rattle.std.specs.Option.{option_or}
use Rattle.std.proofs.lemmas.Bool.{cases_Bool, leb-false, leb-true}
use Rattle.kat_num.specs.Orders.{value_order}
use Rattle.kat_num.specs.Values.{IsArgument}
use Rattle.kat_num.specs.declared.values.Sort.{Sort}
use Rattle.kat_num.specs.declared.values.Value.{Value}
use Rattle.kat_lattice.specs.Sets.{TellsApart}
use Rattle.kat_script.specs.Judged.{AreArguments}
use Rattle.kat_script.specs.declared.rules.TheConstants.{TIME_LIMIT}
use Rattle.kat_type.specs.declared.done.Done.{Done}
use Rattle.kat_type.specs.declared.signatures.OpSig.{OpSig}
use Rattle.kat_type.specs.declared.signatures.Signature.{Signature}
use Rattle.kat_design.specs.Denotations.{component_meaning, denotation_of, design_meaning, part_of}
use Rattle.kat_design.specs.Designs.{ComponentForm, DesignForm}
use Rattle.kat_design.specs.Designs.ComponentForm.{a_cell, a_table, a_set, a_tally, tallies}
use Rattle.kat_design.specs.Fitting.{FitsSignature}
use Rattle.kat_design.specs.Meanings.{Means, are_kin, states_of}
use Rattle.kat_design.specs.Parts.{PartsKin}
use Rattle.kat_design.specs.Sorted.{AreMatched, EachHas, IsComponent, IsWellSorted}
use Rattle.kat_design.specs.declared.states.Part.{Part}
use Rattle.kat_design.proofs.Firsts.{left_drop}
use Rattle.kat_replica.specs.declared.replicas.Replica.{Replica}
use Rattle.kat_replica.proofs.Going.{added_goes}
use Rattle.kat_actions.specs.Texts as calls
use Rattle.kat_actions.specs.declared.calls.Call.{Call}
use Rattle.kat_actions.specs.declared.calls.Verb.TheVariants.{Do}
use Rattle.kat_node.specs.Nodes.{IsNode, IsPart}
use Rattle.kat_node.specs.Packets.{parts_of, with_packet, with_packets}
use Rattle.kat_node.specs.declared.nodes.Node.{Node}
use Rattle.kat_node.proofs.Going.{parts_go}
use Rattle.kat_step.specs.Limits.{IsStepRefusal, first_refusal, passes_limit, refusal_of}
use Rattle.kat_step.specs.Steps.{done_at, done_by, done_from, first_node, with_action, with_actions}
use Rattle.kat_step.specs.declared.error.StepError.{StepError}
use Rattle.kat_step.specs.declared.error.StepError.TheVariants.{TooLarge, FullState, Memory}
use Rattle.kat_step.proofs.Keeping.{parts_kept, start_cell}

-- an action fits as an operation
arguments : (sorts : List Sort) (values : List Value) → AreArguments sorts values → AreMatched (λ (v : Value) (s : Sort). IsArgument s v) values sorts
arguments [] [] h = tt
arguments [] (v ∷ values) h = absurd h
arguments (s ∷ sorts) [] h = absurd h
arguments (s ∷ sorts) (v ∷ values) h = (h.0, arguments sorts values h.1)

record Op (found : Option OpSig) (args : List Value) : Type 0 where
  op : OpSig
  is : found ≡ Some op
  matched : AreMatched (λ (v : Value) (s : Sort). IsArgument s v) args op.sorts

op_there : (found : Option OpSig) (args : List Value) → MatchOption found ⊥ (λ op. AreArguments op.sorts args) → Op found args
op_there None args h = absurd h
op_there (Some op) args h = record { op = op; is = refl; matched = arguments op.sorts args h }

pub action_fits : (sig : Signature) (call : Call) (number clock : ℕ) → calls.FitsSignature Do sig call → 1 ≤ number → number ≤ 32 → clock < TIME_LIMIT → FitsSignature sig (done_at number clock call)
action_fits sig call number clock h low high early =
    let there = op_there (slice_get sig.ops call.item) call.args h in
    record { op = there.op; found = there.is; args = there.matched; numbered = low; few = high; time = omega (arith, early) }

-- new nodes
part_begins : (ops : List OpSig) (component : ComponentForm) → IsComponent ops component → IsPart component (part_of component [])
part_begins ops (a_cell shape starts effects) is = start_cell shape starts is.1
part_begins ops (a_table key shape starts effects) is = record { start_is = refl; map_is = record { ascending = tt; kept = tt }; each = tt }
part_begins ops (a_set key effects) is = record { ascending = tt; each = tt }
part_begins ops (a_tally effects) is = record { ascending = tt; each = tt }
part_begins ops (tallies key effects) is = record { start_is = refl; map_is = record { ascending = tt; kept = tt }; each = tt }

parts_begin : (ops : List OpSig) (components : List ComponentForm) → EachHas (IsComponent ops) components → AreMatched IsPart components (states_of (map component_meaning components) [])
parts_begin ops [] is = tt
parts_begin ops (component ∷ components) is = (part_begins ops component is.0, parts_begin ops components is.1)

pub begins : (d : DesignForm) (number : ℕ) → IsWellSorted d → 1 ≤ number → number ≤ 32 → IsNode d (first_node d number)
begins d number sorted low high = record { least = low; most = high; clock = omega arith; parts = parts_begin d.sig.ops d.components sorted.components }

pub begins_as : (d : DesignForm) (number : ℕ) (replica : Replica) → IsWellSorted d → 1 ≤ number → number ≤ 32 → replica.clock ≡ 0 → replica.state.parts ≡ denotation_of d []
    → IsNode d (record { number = number; replica = replica })
begins_as d number replica sorted low high clock is = record {
  least = low;
  most = high;
  clock = omega (arith, clock);
  parts = subst (AreMatched IsPart d.components) (sym is) (parts_begin d.sig.ops d.components sorted.components);
}

-- a node that does an action which it can do
pub action_kept : IsTotalOrder value_order → TellsApart value_order → (d : DesignForm) (node : Node) (call : Call) → IsWellSorted d → IsNode d node → calls.FitsSignature Do d.sig call
    → node.replica.clock < TIME_LIMIT → passes_limit d.components (parts_of node) (done_by node call) ≡ false → IsNode d (with_action d node call)
action_kept total apart d node call sorted is fits early within =
    let done = done_by node call in
    let kin = added_goes total apart d.sig.ops d.components sorted.components (parts_of node) _ done (parts_go apart d.sig.ops d.components (parts_of node) sorted.components is.parts) refl in
    record {
      least = is.least;
      most = is.most;
      clock = omega (arith, early);
      parts = parts_kept d.sig done (action_fits d.sig call node.number node.replica.clock fits is.least is.most early) d.components sorted.components (parts_of node) is.parts kin within;
    }

-- an action that isn't refused
record CanDo (d : DesignForm) (node : Node) (call : Call) : Type 0 where
  pub early : node.replica.clock < TIME_LIMIT
  pub within : passes_limit d.components (parts_of node) (done_by node call) ≡ false

some_none : {X : Type 0} (x : X) → Some x ≡ None → ⊥
some_none x e = cc

can_by : (d : DesignForm) (node : Node) (call : Call) (late full : Bool) → nat_le TIME_LIMIT node.replica.clock ≡ late → passes_limit d.components (parts_of node) (done_by node call) ≡ full
    → cond late (Some (TooLarge call.line)) (cond full (Some (FullState call.line)) None) ≡ None → CanDo d node call
can_by d node call true full e f none = absurd (some_none (TooLarge call.line) none)
can_by d node call false true e f none = absurd (some_none (FullState call.line) none)
can_by d node call false false e f none = record { early = leb-false TIME_LIMIT node.replica.clock e; within = f }

can_do : (d : DesignForm) (node : Node) (call : Call) → refusal_of d node call ≡ None → CanDo d node call
can_do d node call none = can_by d node call (nat_le TIME_LIMIT node.replica.clock) (passes_limit d.components (parts_of node) (done_by node call)) refl refl none

both_none : {X : Type 0} (some other : Option X) → option_or some other ≡ None → (some ≡ None) × (other ≡ None)
both_none None other e = (refl, e)
both_none (Some x) other e = absurd (some_none x e)

pub first_none : (d : DesignForm) (node : Node) (call : Call) (more : List Call) → first_refusal d node (call ∷ more) ≡ None
    → (refusal_of d node call ≡ None) × (first_refusal d (with_action d node call) more ≡ None)
first_none d node call more e = both_none (refusal_of d node call) (first_refusal d (with_action d node call) more) e

pub passed_early : (d : DesignForm) (node : Node) (call : Call) → refusal_of d node call ≡ None → node.replica.clock < TIME_LIMIT
passed_early d node call none = (can_do d node call none).early

pub passed_kept : IsTotalOrder value_order → TellsApart value_order → (d : DesignForm) (node : Node) (call : Call) → IsWellSorted d → IsNode d node → calls.FitsSignature Do d.sig call
    → refusal_of d node call ≡ None → IsNode d (with_action d node call)
passed_kept total apart d node call sorted is fits none = let can = can_do d node call none in action_kept total apart d node call sorted is fits can.early can.within

-- what actions give
pub actions_denote : (d : DesignForm) (means : Means (are_kin PartsKin) (design_meaning d)) (xs : List Done) (node : Node) (actions : List Call) → parts_of node ≡ denotation_of d xs
    → parts_of (with_actions d node actions) ≡ denotation_of d (xs ++ done_from node.number node.replica.clock actions)
actions_denote d means xs node [] is = is ∙ ap (denotation_of d) (sym (append-nil xs))
actions_denote d means xs node (call ∷ actions) is =
    let done = done_by node call in
    let one : parts_of (with_action d node call) ≡ denotation_of d (xs ++ done ∷ []) =
    ap (λ (s : List Part). (design_meaning d).added s done) is ∙ means.adds xs done in
    actions_denote d means (xs ++ done ∷ []) (with_action d node call) actions one
    ∙ ap (denotation_of d) (append_assoc xs (done ∷ []) (done_from node.number (node.replica.clock + 1) actions))

pub actions_number : (d : DesignForm) (node : Node) (actions : List Call) → (with_actions d node actions).number ≡ node.number
actions_number d node [] = refl
actions_number d node (call ∷ actions) = actions_number d (with_action d node call) actions

later : (clock more : ℕ) → clock + 1 + more ≡ clock + suc more
later clock more = omega arith

pub actions_clock : (d : DesignForm) (node : Node) (actions : List Call) → (with_actions d node actions).replica.clock ≡ node.replica.clock + length actions
actions_clock d node [] = omega arith
actions_clock d node (call ∷ actions) = actions_clock d (with_action d node call) actions ∙ later node.replica.clock (length actions)

pub packets_number : (node : Node) (packets : List Node) → (with_packets node packets).number ≡ node.number
packets_number node [] = refl
packets_number node (packet ∷ packets) = packets_number (with_packet node packet) packets

-- actions that were done one after the other
pub record Ran (d : DesignForm) (node : Node) (actions : List Call) (after : Node) (index : ℕ) : Type 0 where
  pub same : with_actions d after (drop index actions) ≡ with_actions d node actions
  pub refusal : first_refusal d after (drop index actions) ≡ first_refusal d node actions
  pub is : IsNode d after
  pub fit : AllByRecursion (calls.FitsSignature Do d.sig) (drop index actions)

pub ran_none : (d : DesignForm) (node after : Node) (actions : List Call) → after ≡ node → IsNode d node → AllByRecursion (calls.FitsSignature Do d.sig) actions → Ran d node actions after 0
ran_none d node after actions same is fit = record {
  same = ap (λ (n : Node). with_actions d n actions) same;
  refusal = ap (λ (n : Node). first_refusal d n actions) same;
  is = subst (IsNode d) (sym same) is;
  fit = fit;
}

pub ran_fits : (d : DesignForm) (node after : Node) (actions : List Call) (index : ℕ) (call : Call) → Ran d node actions after index → index < length actions → call ≡ get_or actions index call
    → calls.FitsSignature Do d.sig call
ran_fits d node after actions index call ran inside is = (subst (AllByRecursion (calls.FitsSignature Do d.sig)) (left_drop actions index call inside is) ran.fit).0

none_first : {X : Type 0} (first second : Option X) → first ≡ None → option_or first second ≡ second
none_first first second e = ap (λ o. option_or o second) e

pub ran_further : (d : DesignForm) (node after next : Node) (actions : List Call) (index : ℕ) (call : Call) → Ran d node actions after index → index < length actions → call ≡ get_or actions index call
    → next ≡ with_action d after call → refusal_of d after call ≡ None → IsNode d next → Ran d node actions next (index + 1)
ran_further d node after next actions index call ran inside is step none kept =
    let rest = drop (index + 1) actions in
    let cut = left_drop actions index call inside is in record {
      same = ap (λ (n : Node). with_actions d n rest) step ∙ sym (ap (with_actions d after) cut) ∙ ran.same;
      refusal = ap (λ (n : Node). first_refusal d n rest) step
          ∙ sym (none_first (refusal_of d after call) (first_refusal d (with_action d after call) rest) none) ∙ sym (ap (first_refusal d after) cut) ∙ ran.refusal;
      is = kept;
      fit = (subst (AllByRecursion (calls.FitsSignature Do d.sig)) cut ran.fit).1;
    }

pub ran_all : (d : DesignForm) (node after : Node) (actions : List Call) (index : ℕ) → Ran d node actions after index → drop index actions ≡ []
    → (after ≡ with_actions d node actions) × (first_refusal d node actions ≡ None)
ran_all d node after actions index ran end = (sym (ap (with_actions d after) end) ∙ ran.same, sym ran.refusal ∙ ap (first_refusal d after) end)

pub ran_refused : (d : DesignForm) (node after : Node) (actions : List Call) (index : ℕ) (call : Call) (error : StepError) → Ran d node actions after index → index < length actions
    → call ≡ get_or actions index call → IsStepRefusal (refusal_of d after call) error → IsStepRefusal (first_refusal d node actions) error
ran_refused d node after actions index call (TooLarge line) ran inside is h =
    sym (sym (ap (first_refusal d after) (left_drop actions index call inside is)) ∙ ran.refusal) ∙ ap (λ o. option_or o (first_refusal d (with_action d after call) (drop (index + 1) actions))) h
ran_refused d node after actions index call (FullState line) ran inside is h =
    sym (sym (ap (first_refusal d after) (left_drop actions index call inside is)) ∙ ran.refusal) ∙ ap (λ o. option_or o (first_refusal d (with_action d after call) (drop (index + 1) actions))) h
ran_refused d node after actions index call Memory ran inside is h = tt

-- an action that a node can do
not_both : (limit clock : ℕ) → clock < limit → limit ≤ clock → ⊥
not_both limit clock l m = omega arith

not_late : (clock : ℕ) → clock < TIME_LIMIT → nat_le TIME_LIMIT clock ≡ false
not_late clock early = ⊎_elim (λ t. absurd (not_both TIME_LIMIT clock early (leb-true TIME_LIMIT clock t))) (λ f. f) (cases_Bool (nat_le TIME_LIMIT clock))

pub none_refused : (d : DesignForm) (node : Node) (call : Call) → node.replica.clock < TIME_LIMIT → passes_limit d.components (parts_of node) (done_by node call) ≡ false
    → refusal_of d node call ≡ None
none_refused d node call early f =
    ap (λ late. cond late (Some (TooLarge call.line)) (cond (passes_limit d.components (parts_of node) (done_by node call)) (Some (FullState call.line)) None)) (not_late node.replica.clock early)
    ∙ ap (λ full. cond full (Some (FullState call.line)) None) f

-- what an action makes of a node
pub node_acted : (d : DesignForm) (node : Node) (call : Call) (done : Done) (replica : Replica) → done ≡ done_by node call → replica.state.parts ≡ (design_meaning d).added (parts_of node) done
    → replica.clock ≡ done.time → with_action d node call ≡ record { number = node.number; replica = replica }
node_acted d node call done replica same adds clock =
    let time : (done_by node call).time ≡ replica.clock = ap (λ (one : Done). one.time) (sym same) ∙ sym clock in
    let parts : (design_meaning d).added (parts_of node) (done_by node call) ≡ replica.state.parts = ap (λ (one : Done). (design_meaning d).added (parts_of node) one) (sym same) ∙ sym adds in
    λ i. record { number = node.number; replica = record { clock = time i; state = record { parts = parts i } } }
