-- What a node is after its actions.
use Rattle.std.specs.Prelude.{ℕ, ◌+◌, List, [], ◌∷◌}
use Rattle.kat_type.specs.declared.done.Done.{Done}
use Rattle.kat_design.specs.Denotations.{denotation_of, design_meaning}
use Rattle.kat_design.specs.Designs.{DesignForm}
use Rattle.kat_actions.specs.declared.calls.Call.{Call}
use Rattle.kat_node.specs.Packets.{parts_of}
use Rattle.kat_node.specs.declared.nodes.Node.{Node}

-- a node that did nothing: clock 0, and what no operation gives
abbrev pub first_node : DesignForm → ℕ → Node
first_node d number = record { number = number; replica = record { clock = 0; state = record { parts = denotation_of d [] } } }

-- the operation that an action is at a replica whose clock is this: at one past the clock
abbrev pub done_at : ℕ → ℕ → Call → Done
done_at number clock call = record { replica = number; time = clock + 1; op = call.item; args = call.args }

-- the operations of actions in their order
abbrev pub done_from : ℕ → ℕ → List Call → List Done
done_from number clock [] = []
done_from number clock (call ∷ calls) = done_at number clock call ∷ done_from number (clock + 1) calls

-- a node with an operation: its effects are joined to the state, its weights added, and the clock is its time
abbrev pub with_done : DesignForm → Node → Done → Node
with_done d node done = record {
  number = node.number;
  replica = record { clock = done.time; state = record { parts = (design_meaning d).added (parts_of node) done } };
}

abbrev pub done_by : Node → Call → Done
done_by node call = done_at node.number node.replica.clock call

abbrev pub with_action : DesignForm → Node → Call → Node
with_action d node call = with_done d node (done_by node call)

-- all actions, in their order
abbrev pub with_actions : DesignForm → Node → List Call → Node
with_actions d node [] = node
with_actions d node (call ∷ calls) = with_actions d (with_action d node call) calls
