-- Used inside only.
-- The statements of an operation, as plain data, and which ones an operation has.
use Rattle.std.specs.Prelude.{ℕ, zero, suc, Bool, true, false, List, [], ◌∷◌, ◌++◌, Option, None, Some, slice_get, if◌then◌else◌}
use Rattle.std.specs.Option.{option_flatten}
use Rattle.kat_design.specs.Designs.{ComponentForm, component_form}
use Rattle.kat_design.specs.Designs.ComponentForm.{a_cell, a_table, a_set, a_tally, tallies}
use Rattle.kat_design.specs.declared.designs.Leaf.{Leaf}
use Rattle.kat_design.specs.declared.designs.Leaf.TheVariants as leaf
use Rattle.kat_emit.specs.declared.parts.Part.{Part}
use Rattle.kat_emit.specs.declared.statements.Statement.{Statement}
use Rattle.kat_emit.specs.declared.statements.Statement.TheVariants as statement

-- a statement; parts, and parameters that are keys, are told by their numbers
pub data Stated : Type 0 where
  checks : (param : ℕ) → Stated
  ticks : Stated
  grows : (place : ℕ) (key : Option ℕ) (weight : Leaf) → Stated
  keeps : (place : ℕ) (key : Option ℕ) → Stated
  puts : (place : ℕ) (key : Option ℕ) (leaves : List Leaf) → Stated
  inserts : (place key : ℕ) → Stated
  tocks : Stated

-- what a statement of the program says, and the component of a part
abbrev pub stated : Statement → Stated
stated (statement.Check param) = checks param
stated statement.Tick = ticks
stated (statement.Grow place key weight) = grows place key weight
stated (statement.Keep place key) = keeps place key
stated (statement.Put place key leaves) = puts place key leaves.now
stated (statement.Insert place key) = inserts place key
stated statement.Tock = tocks

abbrev pub part_form : Part → ComponentForm
part_form part = component_form part.component.now

-- the effect of the operation with a number, if it has one
abbrev pub effect_at : {A : Type 0} → List (Option A) → ℕ → Option A
effect_at effects op = option_flatten (slice_get effects op)

abbrev pub is_zero : Leaf → Bool
is_zero leaf.Zero = true
is_zero _ = false

-- what grows by the weight 0 doesn't grow
abbrev pub weighing : Option ℕ → Leaf → Option (Option ℕ × Leaf)
weighing key weight = if is_zero weight then None else Some (key, weight)

abbrev pub tally_growth : Option Leaf → Option (Option ℕ × Leaf)
tally_growth None = None
tally_growth (Some weight) = weighing None weight

abbrev pub tallies_growth : Option (ℕ × Leaf) → Option (Option ℕ × Leaf)
tallies_growth None = None
tallies_growth (Some effect) = weighing (Some effect.0) effect.1

-- by what the replica's own sum in a component grows, and at which key
abbrev pub growth_of : ComponentForm → ℕ → Option (Option ℕ × Leaf)
growth_of (a_cell shape starts effects) op = None
growth_of (a_table key shape starts effects) op = None
growth_of (a_set key effects) op = None
growth_of (a_tally effects) op = tally_growth (effect_at effects op)
growth_of (tallies key effects) op = tallies_growth (effect_at effects op)

-- `false` alone, which changes no truth value that it is joined to
abbrev pub is_vain : List Leaf → Bool
is_vain (leaf.False ∷ []) = true
is_vain _ = false

abbrev pub putting : ℕ → Option ℕ → List Leaf → Option Stated
putting place key leaves = if is_vain leaves then None else Some (puts place key leaves)

abbrev pub cell_change : ℕ → Option (List Leaf) → Option Stated
cell_change place None = None
cell_change place (Some leaves) = putting place None leaves

abbrev pub table_change : ℕ → Option (ℕ × List Leaf) → Option Stated
table_change place None = None
table_change place (Some effect) = putting place (Some effect.0) effect.1

abbrev pub set_change : ℕ → Option ℕ → Option Stated
set_change place None = None
set_change place (Some key) = Some (inserts place key)

abbrev pub sums_change : ℕ → Option (Option ℕ × Leaf) → Option Stated
sums_change place None = None
sums_change place (Some growth) = Some (keeps place growth.0)

-- what an operation changes in the component at a place
abbrev pub change_of : ℕ → ComponentForm → ℕ → Option Stated
change_of place (a_cell shape starts effects) op = cell_change place (effect_at effects op)
change_of place (a_table key shape starts effects) op = table_change place (effect_at effects op)
change_of place (a_set key effects) op = set_change place (effect_at effects op)
change_of place (a_tally effects) op = sums_change place (tally_growth (effect_at effects op))
change_of place (tallies key effects) op = sums_change place (tallies_growth (effect_at effects op))

-- so many arguments are checked from this one on
abbrev pub all_checked : ℕ → ℕ → List Stated
all_checked param zero = []
all_checked param (suc params) = checks param ∷ all_checked (suc param) params

-- a sum grows, if one does, and so of the components from a place on
abbrev pub grown : ℕ → Option (Option ℕ × Leaf) → List Stated
grown place None = []
grown place (Some growth) = grows place growth.0 growth.1 ∷ []

abbrev pub all_grown : ℕ → List ComponentForm → ℕ → List Stated
all_grown place [] op = []
all_grown place (component ∷ components) op = grown place (growth_of component op) ++ all_grown (suc place) components op

-- a statement, if there is one, and so what changes of the components from a place on
abbrev pub changed : Option Stated → List Stated
changed None = []
changed (Some change) = change ∷ []

abbrev pub all_changed : ℕ → List ComponentForm → ℕ → List Stated
all_changed place [] op = []
all_changed place (component ∷ components) op = changed (change_of place component op) ++ all_changed (suc place) components op

-- the statements of an operation with so many parameters: first all that can be refused, then what changes the replica
abbrev pub statements_of : List ComponentForm → ℕ → ℕ → List Stated
statements_of components op params =
    all_checked 0 params ++ ticks ∷ (all_grown 0 components op ++ (all_changed 0 components op ++ tocks ∷ []))
