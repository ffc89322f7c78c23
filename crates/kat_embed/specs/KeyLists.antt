-- Used inside only.
-- The keys of one part, and what is told of a key.
use Rattle.std.specs.Prelude.{◌≡◌, List, [], map, Option, None, Some}
use Rattle.std.specs.declared.cmp.Ordering.{Ordering}
use Rattle.kat_num.specs.Orders.{value_order}
use Rattle.kat_num.specs.declared.values.Value.{Value}
use Rattle.kat_lattice.specs.JoinLaws.{IsBelow}
use Rattle.kat_lattice.specs.Maps.{Table, at_key}
use Rattle.kat_lattice.specs.Tallies.{tallies_joined}
use Rattle.kat_shape.specs.Values.{joined}
use Rattle.kat_design.specs.declared.states.Part.{Part}
use Rattle.kat_design.specs.declared.states.Part.TheVariants as part
use Rattle.kat_difference.specs.Picking.{Picks}
use Rattle.kat_difference.specs.Sets.{key_told}

-- the keys of entries
abbrev pub entry_keys : {V : Type 0} → List (Value × V) → List Value
entry_keys entries = map (λ e. e.0) entries

-- the keys of a part, ascending
abbrev pub keys_of : Option Part → List Value
keys_of (Some (part.Table table)) = entry_keys table.entries
keys_of (Some (part.Set keys)) = keys
keys_of (Some (part.Tallies table)) = entry_keys table.entries
keys_of (Some (part.Cell cell)) = []
keys_of (Some (part.Tally sums)) = []
keys_of None = []

-- the key, unless what the table has there is in the known one
abbrev pub entry_key_told : {K V : Type 0} → (K → K → Ordering) → (V → V → V) → Table K V → Table K V → K → Option K → Type 0
entry_key_told cmp join known table key None = IsBelow join (at_key cmp table key) (at_key cmp known key)
entry_key_told cmp join known table key (Some one) = (one ≡ key) × (IsBelow join (at_key cmp table key) (at_key cmp known key) → ⊥)

-- the keys of a part at which it has something that the known part lacks
abbrev pub AreNewIn : Part → Part → List Value → Type 0
AreNewIn (part.Table known) (part.Table table) keys = Picks (entry_key_told value_order joined known table) (entry_keys table.entries) keys
AreNewIn (part.Set known) (part.Set all) keys = Picks (key_told value_order known) all keys
AreNewIn (part.Tallies known) (part.Tallies table) keys = Picks (entry_key_told value_order tallies_joined known table) (entry_keys table.entries) keys
AreNewIn _ _ keys = keys ≡ []

-- the same, if there are such parts
abbrev pub AreNewKeys : Option Part → Option Part → List Value → Type 0
AreNewKeys (Some known) (Some one) keys = AreNewIn known one keys
AreNewKeys _ _ keys = keys ≡ []
