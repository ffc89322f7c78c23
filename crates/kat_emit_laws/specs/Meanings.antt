-- Used inside only.
-- What statements do.
use Rattle.std.specs.Prelude.{ℕ, zero, suc, ◌+◌, ◌==◌, Bool, nat_le, nat_lt, List, [], ◌∷◌, length, map, Option, None, Some, slice_get, if◌then◌else◌}
use Rattle.std.specs.Ordering.{nat_cmp}
use Rattle.kat_expr.specs.Slots.{argument}
use Rattle.kat_lattice.specs.Keyed.{by_key, on_value, put}
use Rattle.kat_lattice.specs.Maps.{Table, at_key, maps_joined}
use Rattle.kat_lattice.specs.Sets.{with_key}
use Rattle.kat_lattice.specs.Tallies.{Sums, sum_of}
use Rattle.kat_num.specs.Orders.{value_order}
use Rattle.kat_num.specs.declared.values.Value.{Value}
use Rattle.kat_script.specs.declared.rules.TheConstants.{TIME_LIMIT}
use Rattle.kat_shape.specs.Flats.{filled_with}
use Rattle.kat_shape.specs.Values.{joined, shape_of}
use Rattle.kat_type.specs.declared.done.Done.{Done}
use Rattle.kat_design.specs.Denotations.{alone_at, weight_of}
use Rattle.kat_design.specs.Designs.{DesignForm}
use Rattle.kat_design.specs.Effects.{leaf_value}
use Rattle.kat_design.specs.declared.designs.Leaf.{Leaf}
use Rattle.kat_design.specs.declared.states.Part.{Part}
use Rattle.kat_design.specs.declared.states.Part.TheVariants as part
use Rattle.kat_actions.specs.declared.calls.Call.{Call}
use Rattle.kat_node.specs.Packets.{parts_of}
use Rattle.kat_node.specs.declared.nodes.Node.{Node}
use Rattle.kat_step.specs.Steps.{with_action}
use Rattle.kat_step.specs.declared.steps.TheConstants.{SUM_LIMIT}
use Rattle.kat_emit.specs.Statements.{Stated, checks, ticks, grows, keeps, puts, inserts, tocks, statements_of}

-- why an operation is refused: an argument, its time, or a sum
pub data Refusal : Type 0 where
  wrong : (param : ℕ) → Refusal
  late : Refusal
  full : Refusal

-- a replica that does an operation: its clock and parts; and what the statements so far have found, the operation with its time, and a
-- sum for each place of a part
pub record Doing : Type 0 where
  pub clock : ℕ
  pub parts : List Part
  pub done : Done
  pub sums : ℕ → ℕ

-- what comes of a statement: it goes on, or is refused
pub data Outcome : Type 0 where
  goes : Doing → Outcome
  refused : Refusal → Doing → Outcome

abbrev pub timed : Done → ℕ → Done
timed done time = record { replica = done.replica; time = time; op = done.op; args = done.args }

abbrev pub doing : ℕ → List Part → Done → (ℕ → ℕ) → Doing
doing clock parts done sums = record { clock = clock; parts = parts; done = done; sums = sums }

-- the sums with another one at a place
abbrev pub with_sum : (ℕ → ℕ) → ℕ → ℕ → ℕ → ℕ
with_sum sums place sum other = if other == place then sum else sums other

-- the list with something done to what is at a place
abbrev pub done_at : (Part → Part) → ℕ → List Part → List Part
done_at does place [] = []
done_at does zero (p ∷ parts) = does p ∷ parts
done_at does (suc place) (p ∷ parts) = p ∷ done_at does place parts

-- the replica's own sum in a part: of a tally, or of tallies at a key
abbrev pub own_sum : Option Part → Option ℕ → Done → ℕ
own_sum (Some (part.Tally sums)) None done = sum_of sums done.replica
own_sum (Some (part.Tallies table)) (Some key) done = sum_of (at_key value_order table (argument done.args key)) done.replica
own_sum _ _ done = 0

abbrev pub new_one : {V : Type 0} → V → V → V
new_one old new = new

-- a replica's sum is another one now, unless that is 0
abbrev pub with_own : Sums → ℕ → ℕ → Sums
with_own sums replica sum = if sum == 0 then sums else put (by_key nat_cmp) (on_value new_one) (replica, sum) sums

-- the same at a key
abbrev pub with_own_at : Table Value Sums → Value → ℕ → ℕ → Table Value Sums
with_own_at table key replica sum =
    if sum == 0 then table
    else record {
      start = table.start;
      entries = put (by_key value_order) (on_value new_one) (key, with_own (at_key value_order table key) replica sum) table.entries;
    }

-- a part in which the replica's own sum is another one
abbrev pub with_kept : Option ℕ → ℕ → Done → Part → Part
with_kept None sum done (part.Tally sums) = part.Tally (with_own sums done.replica sum)
with_kept (Some key) sum done (part.Tallies table) = part.Tallies (with_own_at table (argument done.args key) done.replica sum)
with_kept _ sum done p = p

-- a part with a value: a cell is joined with it, a table at a key, in the shape of what is there
abbrev pub with_put : Option ℕ → List Leaf → Done → Part → Part
with_put None leaves done (part.Cell cell) = part.Cell (joined cell (filled_with (shape_of cell) (map (leaf_value done) leaves)))
with_put (Some key) leaves done (part.Table table) =
    part.Table (maps_joined value_order joined table (alone_at table.start (argument done.args key) (filled_with (shape_of table.start) (map (leaf_value done) leaves))))
with_put _ leaves done p = p

-- a set with a key
abbrev pub with_inserted : ℕ → Done → Part → Part
with_inserted key done (part.Set keys) = part.Set (with_key value_order (argument done.args key) keys)
with_inserted key done p = p

-- a sum that is too great is refused
abbrev pub if_sum : ℕ → ℕ → Doing → Outcome
if_sum place sum now =
    if nat_lt SUM_LIMIT sum then refused full now else goes (doing now.clock now.parts now.done (with_sum now.sums place sum))

-- What a statement does, where `passes` says which arguments their checks let pass. An argument is checked; the operation gets its time, one
-- past the clock; a sum grows; what grew is kept; a value is put in; a key is put in; the clock is the operation's time.
abbrev pub does : (ℕ → Bool) → Stated → Doing → Outcome
does passes (checks param) now = if passes param then goes now else refused (wrong param) now
does passes ticks now =
    if nat_le TIME_LIMIT now.clock then refused late now else goes (doing now.clock now.parts (timed now.done (now.clock + 1)) now.sums)
does passes (grows place key weight) now = if_sum place (own_sum (slice_get now.parts place) key now.done + weight_of (Some weight) now.done) now
does passes (keeps place key) now = goes (doing now.clock (done_at (with_kept key (now.sums place) now.done) place now.parts) now.done now.sums)
does passes (puts place key leaves) now = goes (doing now.clock (done_at (with_put key leaves now.done) place now.parts) now.done now.sums)
does passes (inserts place key) now = goes (doing now.clock (done_at (with_inserted key now.done) place now.parts) now.done now.sums)
does passes tocks now = goes (doing now.done.time now.parts now.done now.sums)

abbrev pub and_then : Outcome → (Doing → Outcome) → Outcome
and_then (goes now) next = next now
and_then (refused why now) next = refused why now

-- statements in their order, up to one that is refused
abbrev pub runs : (ℕ → Bool) → List Stated → Doing → Outcome
runs passes [] now = goes now
runs passes (stated ∷ more) now = and_then (does passes stated now) (λ next. runs passes more next)

-- what is seen of a replica afterwards
pub record Ending : Type 0 where
  pub refusal : Option Refusal
  pub clock : ℕ
  pub parts : List Part

abbrev pub ending_of : Outcome → Ending
ending_of (goes now) = record { refusal = None; clock = now.clock; parts = now.parts }
ending_of (refused why now) = record { refusal = Some why; clock = now.clock; parts = now.parts }

-- a replica that begins an operation, which has no time yet
abbrev pub begun : Node → Call → Doing
begun node call =
    doing node.replica.clock (parts_of node) (record { replica = node.number; time = 0; op = call.item; args = call.args }) (λ place. 0)

-- what comes of the statements of an operation
abbrev pub emitted : (ℕ → Bool) → DesignForm → Node → Call → Ending
emitted passes d node call = ending_of (runs passes (statements_of d.components call.item (length call.args)) (begun node call))

-- the replica after the step of kat_step
abbrev pub stepped : DesignForm → Node → Call → Ending
stepped d node call =
    record { refusal = None; clock = (with_action d node call).replica.clock; parts = parts_of (with_action d node call) }

-- the replica as it was, with a refusal
abbrev pub unchanged : Node → Refusal → Ending
unchanged node why = record { refusal = Some why; clock = node.replica.clock; parts = parts_of node }
