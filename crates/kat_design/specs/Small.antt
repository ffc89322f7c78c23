-- Used inside only.
-- How great the numbers of a design and of a state are.
use Rattle.std.specs.Prelude.{ℕ, ◌^◌, ◌-◌, ◌≤◌, nat_le, Bool, true, All, length}
use Rattle.std.specs.List.{list_all}
use Rattle.kat_num.specs.declared.values.TheConstants.{NUMBER_LIMIT}
use Rattle.kat_num.specs.declared.values.Value.{Value}
use Rattle.kat_lattice.specs.Maps.{Table}
use Rattle.kat_lattice.specs.Tallies.{Sums}
use Rattle.kat_shape.specs.Values.{Filled, leaves_of}
use Rattle.kat_expr.specs.Limits.{IsAtMost}
use Rattle.kat_design.specs.Designs.{AskForm, DesignForm}
use Rattle.kat_design.specs.Designs.AskForm.{leaf as a_leaf, parameter, constant, negation, both, either, less, sum, difference}
use Rattle.kat_design.specs.Sizes.{size_of}
use Rattle.kat_design.specs.declared.sizes.TheConstants.{SIZE_LIMIT}
use Rattle.kat_design.specs.declared.states.Part.{Part}
use Rattle.kat_design.specs.declared.states.Part.TheVariants as part

-- the constants of an ask are at most this
abbrev pub HasConstantsAtMost : ℕ → AskForm → Type 0
HasConstantsAtMost most (a_leaf component place key) = Unit {0}
HasConstantsAtMost most (parameter place) = Unit {0}
HasConstantsAtMost most (constant v) = IsAtMost most v
HasConstantsAtMost most (negation a) = HasConstantsAtMost most a
HasConstantsAtMost most (both a b) = HasConstantsAtMost most a × HasConstantsAtMost most b
HasConstantsAtMost most (either a b) = HasConstantsAtMost most a × HasConstantsAtMost most b
HasConstantsAtMost most (less a b) = HasConstantsAtMost most a × HasConstantsAtMost most b
HasConstantsAtMost most (sum a b) = HasConstantsAtMost most a × HasConstantsAtMost most b
HasConstantsAtMost most (difference a b) = HasConstantsAtMost most a × HasConstantsAtMost most b

-- a design within the limit of sizes, with constants of 64 bits
pub record IsSmallDesign (d : DesignForm) : Type 0 where
  pub size : size_of d ≤ SIZE_LIMIT
  pub constants : All (HasConstantsAtMost (2 ^ 64)) d.asks

-- the numbers of a cell are at most 2^100
abbrev pub IsSmallCell : Filled → Type 0
IsSmallCell cell = All (IsAtMost (2 ^ 100)) (leaves_of cell)

-- a tally has at most 32 replicas, with sums of at most 2^100
pub record IsSmallTally (sums : Sums) : Type 0 where
  pub few : length sums ≤ 32
  pub each : All (λ (e : ℕ × ℕ). e.1 ≤ 2 ^ 100) sums

-- at each key of a table
pub record IsSmallTable {V : Type 0} (IsSmall : V → Type 0) (table : Table Value V) : Type 0 where
  pub start : IsSmall table.start
  pub each : All (λ (e : Value × V). IsSmall e.1) table.entries

abbrev pub IsSmallPart : Part → Type 0
IsSmallPart (part.Cell cell) = IsSmallCell cell
IsSmallPart (part.Table table) = IsSmallTable IsSmallCell table
IsSmallPart (part.Set keys) = Unit {0}
IsSmallPart (part.Tally sums) = IsSmallTally sums
IsSmallPart (part.Tallies table) = IsSmallTable IsSmallTally table

-- there is room for one more argument in each sum
abbrev pub room : ℕ
room = 2 ^ 100 - NUMBER_LIMIT

abbrev pub is_roomy : Sums → Bool
is_roomy sums = list_all (λ (e : ℕ × ℕ). nat_le e.1 room) sums

-- each sum of the tallies of a part has room
abbrev pub is_roomy_part : Part → Bool
is_roomy_part (part.Cell cell) = true
is_roomy_part (part.Table table) = true
is_roomy_part (part.Set keys) = true
is_roomy_part (part.Tally sums) = is_roomy sums
is_roomy_part (part.Tallies table) = list_all (λ (e : Value × Sums). is_roomy e.1) table.entries
