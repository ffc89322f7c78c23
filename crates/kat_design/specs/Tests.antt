-- Used inside only.
-- How small a state is, as tests.
use Rattle.std.specs.Prelude.{ℕ, ◌^◌, nat_le, Bool, true, ◌&&◌, length, unsigned_abs}
use Rattle.std.specs.List.{list_all}
use Rattle.kat_num.specs.declared.values.Value.{Value}
use Rattle.kat_num.specs.declared.values.Value.TheVariants as value
use Rattle.kat_lattice.specs.Tallies.{Sums}
use Rattle.kat_shape.specs.Values.{Filled, leaves_of}
use Rattle.kat_design.specs.declared.states.Part.{Part}
use Rattle.kat_design.specs.declared.states.Part.TheVariants as part

-- a number of at most 2^100
abbrev pub is_small_value : Value → Bool
is_small_value (value.Bool b) = true
is_small_value (value.Num z) = nat_le (unsigned_abs z) (2 ^ 100)
is_small_value (value.Name code) = true

abbrev pub is_small_cell : Filled → Bool
is_small_cell cell = list_all is_small_value (leaves_of cell)

abbrev pub are_small_sums : Sums → Bool
are_small_sums sums = list_all (λ (e : ℕ × ℕ). nat_le e.1 (2 ^ 100)) sums

abbrev pub is_small_tally : Sums → Bool
is_small_tally sums = nat_le (length sums) 32 && are_small_sums sums

abbrev pub is_small_part : Part → Bool
is_small_part (part.Cell cell) = is_small_cell cell
is_small_part (part.Table table) = is_small_cell table.start && list_all (λ (e : Value × Filled). is_small_cell e.1) table.entries
is_small_part (part.Set keys) = true
is_small_part (part.Tally sums) = is_small_tally sums
is_small_part (part.Tallies table) = is_small_tally table.start && list_all (λ (e : Value × Sums). is_small_tally e.1) table.entries
