-- Which actions a node can't do.
use Rattle.std.specs.Prelude.{◌≡◌, ℕ, ◌+◌, ◌<◌, Bool, false, ◌||◌, nat_le, nat_lt, List, [], ◌∷◌, Option, None, Some, if◌then◌else◌}
use Rattle.std.specs.Option.{option_or}
use Rattle.kat_expr.specs.Slots.{argument}
use Rattle.kat_lattice.specs.Maps.{Table, at_key}
use Rattle.kat_lattice.specs.Tallies.{Sums, sum_of}
use Rattle.kat_num.specs.Orders.{value_order}
use Rattle.kat_num.specs.declared.values.Value.{Value}
use Rattle.kat_script.specs.declared.rules.TheConstants.{TIME_LIMIT}
use Rattle.kat_type.specs.Lists.{Has}
use Rattle.kat_type.specs.declared.done.Done.{Done}
use Rattle.kat_design.specs.Denotations.{weight_of}
use Rattle.kat_design.specs.Designs.{ComponentForm, DesignForm}
use Rattle.kat_design.specs.Designs.ComponentForm.{a_tally, tallies}
use Rattle.kat_design.specs.Effects.{effect_of}
use Rattle.kat_design.specs.declared.designs.Leaf.{Leaf}
use Rattle.kat_design.specs.declared.states.Part.{Part}
use Rattle.kat_design.specs.declared.states.Part.TheVariants as part
use Rattle.kat_actions.specs.declared.calls.Call.{Call}
use Rattle.kat_node.specs.Packets.{parts_of}
use Rattle.kat_node.specs.declared.nodes.Node.{Node}
use Rattle.kat_step.specs.Steps.{done_by, with_action}
use Rattle.kat_step.specs.declared.error.StepError.{StepError}
use Rattle.kat_step.specs.declared.error.StepError.TheVariants.{TooLarge, FullState, Memory}
use Rattle.kat_step.specs.declared.steps.TheConstants.{SUM_LIMIT}

-- a sum that a weight is added to would pass the limit
abbrev pub is_past : ℕ → ℕ → Bool
is_past sum weight = nat_lt SUM_LIMIT (sum + weight)

-- the weight that an operation adds to the sum of its replica, if it has an effect
abbrev pub tally_passes : Option Leaf → Sums → Done → Bool
tally_passes None sums done = false
tally_passes (Some leaf) sums done = is_past (sum_of sums done.replica) (weight_of (Some leaf) done)

-- the same at its key
abbrev pub tallies_pass : Option (ℕ × Leaf) → Table Value Sums → Done → Bool
tallies_pass None table done = false
tallies_pass (Some effect) table done = is_past (sum_of (at_key value_order table (argument done.args effect.0)) done.replica) (weight_of (Some effect.1) done)

-- an operation would make a sum of a part pass the limit
abbrev pub passes_in : ComponentForm → Part → Done → Bool
passes_in (a_tally effects) (part.Tally sums) done = tally_passes (effect_of effects done) sums done
passes_in (tallies key effects) (part.Tallies table) done = tallies_pass (effect_of effects done) table done
passes_in component p done = false

abbrev pub passes_limit : List ComponentForm → List Part → Done → Bool
passes_limit (component ∷ components) (p ∷ parts) done = passes_in component p done || passes_limit components parts done
passes_limit components parts done = false

-- a sum of these is past the limit
abbrev pub HasSumPast : Sums → Type 0
HasSumPast sums = (replica : ℕ) × (SUM_LIMIT < sum_of sums replica)

-- a sum of a part is past the limit: of a tally, or of tallies at some key
abbrev pub IsPartPast : Part → Type 0
IsPartPast (part.Tally sums) = HasSumPast sums
IsPartPast (part.Tallies table) = (key : Value) × HasSumPast (at_key value_order table key)
IsPartPast p = ⊥

-- a sum of a state is past the limit
abbrev pub IsStatePast : List Part → Type 0
IsStatePast parts = (p : Part) × Has parts p × IsPartPast p

-- why a node can't do an action: its time would pass the limit; else it would make a sum pass its limit
abbrev pub refusal_of : DesignForm → Node → Call → Option StepError
refusal_of d node call =
    if nat_le TIME_LIMIT node.replica.clock then Some (TooLarge call.line)
    else if passes_limit d.components (parts_of node) (done_by node call) then Some (FullState call.line) else None

-- the refusal of the first action that the node can't do after those before it
abbrev pub first_refusal : DesignForm → Node → List Call → Option StepError
first_refusal d node [] = None
first_refusal d node (call ∷ calls) = option_or (refusal_of d node call) (first_refusal d (with_action d node call) calls)

-- the error is this refusal; out of memory says nothing
abbrev pub IsStepRefusal : Option StepError → StepError → Type 0
IsStepRefusal refusal (TooLarge line) = refusal ≡ Some (TooLarge line)
IsStepRefusal refusal (FullState line) = refusal ≡ Some (FullState line)
IsStepRefusal refusal Memory = Unit {0}
