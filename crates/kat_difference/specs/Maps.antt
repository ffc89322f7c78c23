-- Used inside only.
-- What is told of a key's value.
use Rattle.std.specs.Prelude.{◌≡◌, List, [], ◌∷◌, ◌++◌, Option, Some, None}
use Rattle.std.specs.declared.cmp.Ordering.{Ordering}
use Rattle.kat_lattice.specs.Maps.{Table, at_key}
use Rattle.kat_difference.specs.Differences.{Lacks}

-- under the same key what its value has that the known map lacks there
abbrev pub value_told : {K V : Type 0} → (K → K → Ordering) → (V → V → Type 0) → (V → V → V) → Type 0 → Table K V → K × V → Option (K × V) → Type 0
value_told cmp kin joined exact known entry None = Lacks kin joined exact known.start (at_key cmp known entry.0) entry.1 None
value_told cmp kin joined exact known entry (Some one) =
    (one.0 ≡ entry.0) × Lacks kin joined exact known.start (at_key cmp known entry.0) entry.1 (Some one.1)

-- and it is a piece of the value
abbrev pub piece_told : {K V : Type 0} → (V → V → Type 0) → K × V → Option (K × V) → Type 0
piece_told is_piece entry None = Unit {0}
piece_told is_piece entry (Some one) = is_piece entry.1 one.1

abbrev pub entry_told : {K V : Type 0} → (K → K → Ordering) → (V → V → Type 0) → (V → V → V) → Type 0 → (V → V → Type 0) → Table K V → K × V → Option (K × V) → Type 0
entry_told cmp kin joined exact is_piece known entry one = value_told cmp kin joined exact known entry one × piece_told is_piece entry one

-- a list with one more entry, if there is a value for it
abbrev pub with_told : {K V : Type 0} → List (K × V) → K → Option V → List (K × V)
with_told entries key None = entries
with_told entries key (Some value) = entries ++ (key, value) ∷ []
