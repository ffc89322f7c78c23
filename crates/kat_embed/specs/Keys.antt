-- The keys at which a query may find something: those that one of the tables, sets and sums by key has which its ask reads. And
-- those at which one of these has something that it lacks in an earlier state.
use Rattle.std.specs.Prelude.{◌≡◌, ◌≢◌, ◌≤◌, ◌<◌, ◌⊎◌, ◌↔◌, ℕ, Bool, true, false, List, [], ◌∷◌, ◌++◌, map, length, Option, None, Some, slice_get}
use Rattle.std.specs.Option.{is_some}
use Rattle.kat_num.specs.Orders.{value_order}
use Rattle.kat_num.specs.Values.{value_text}
use Rattle.kat_num.specs.declared.values.Value.{Value}
use Rattle.kat_lattice.specs.Keyed.{IsAscending, found_by}
use Rattle.kat_lattice.specs.Maps.{Table, at_key}
use Rattle.kat_lattice.specs.Sets.{has_key}
use Rattle.kat_lattice.specs.Tallies.{tallies_joined}
use Rattle.kat_shape.specs.Values.{joined}
use Rattle.kat_design.specs.Answers.{ask_at}
use Rattle.kat_design.specs.Designs.{AskForm}
use Rattle.kat_design.specs.Designs.AskForm.{leaf as a_leaf, parameter, constant, negation, both, either, less, sum, difference}
use Rattle.kat_design.specs.declared.states.Part.{Part}
use Rattle.kat_design.specs.declared.states.Part.TheVariants as part
use Rattle.kat_node.specs.NodeFiles.{IsNodeRefusal, IsNodeText}
use Rattle.kat_node.specs.Packets.{parts_of}
use Rattle.kat_node.specs.declared.nodes.Node.{Node}
use Rattle.kat_replica.specs.Texts.{listed}
use Rattle.kat_embed.specs.Contents.{design_of}
use Rattle.kat_embed.specs.declared.contents.Contents.{Contents}
use Rattle.kat_embed.specs.declared.errors.CallError.{CallError}
use Rattle.kat_embed.specs.declared.errors.CallError.TheVariants as call
use Rattle.kat_embed.specs.declared.errors.KeysError.{KeysError}
use Rattle.kat_embed.specs.declared.errors.KeysError.TheVariants.{NoQuery, BadState, Memory}

-- the components that an ask reads
abbrev pub components_read : AskForm → List ℕ
components_read (a_leaf component place key) = component ∷ []
components_read (parameter place) = []
components_read (constant value) = []
components_read (negation a) = components_read a
components_read (both a b) = components_read a ++ components_read b
components_read (either a b) = components_read a ++ components_read b
components_read (less a b) = components_read a ++ components_read b
components_read (sum a b) = components_read a ++ components_read b
components_read (difference a b) = components_read a ++ components_read b

-- a table or sums by key have an entry at the key
abbrev pub has_entry : {V : Type 0} → Table Value V → Value → Bool
has_entry table key = is_some (found_by (λ e. value_order key e.0) table.entries)

-- a table, a set, or sums by key have the key; other parts have none
abbrev pub has_at : Option Part → Value → Bool
has_at (Some (part.Table table)) key = has_entry table key
has_at (Some (part.Set keys)) key = has_key value_order key keys
has_at (Some (part.Tallies table)) key = has_entry table key
has_at (Some (part.Cell cell)) key = false
has_at (Some (part.Tally sums)) key = false
has_at None key = false

-- what a table has at the key isn't all in the known table: joined to what that has there, it gives something else
abbrev pub IsNewEntry : {V : Type 0} → (V → V → V) → Table Value V → Table Value V → Value → Type 0
IsNewEntry join known table key = join (at_key value_order table key) (at_key value_order known key) ≢ at_key value_order known key

-- a part has something at the key that the known part lacks
abbrev pub IsNewAt : Option Part → Option Part → Value → Type 0
IsNewAt (Some (part.Table known)) (Some (part.Table table)) key = IsNewEntry joined known table key
IsNewAt (Some (part.Set known)) (Some (part.Set keys)) key = (has_key value_order key keys ≡ true) × (has_key value_order key known ≡ false)
IsNewAt (Some (part.Tallies known)) (Some (part.Tallies table)) key = IsNewEntry tallies_joined known table key
IsNewAt _ _ key = ⊥

-- it is so of one of the list
abbrev pub HasOne : {A : Type 0} → (A → Type 0) → List A → Type 0
HasOne Is [] = ⊥
HasOne Is (x ∷ xs) = Is x ⊎ HasOne Is xs

-- one of these components has the key, or has something there that it lacks in the known state
abbrev pub HasKey : List Part → List ℕ → Value → Type 0
HasKey parts components key = HasOne (λ component. has_at (slice_get parts component) key ≡ true) components

abbrev pub HasNewKey : List Part → List Part → List ℕ → Value → Type 0
HasNewKey known parts components key = HasOne (λ component. IsNewAt (slice_get known component) (slice_get parts component) key) components

-- the keys of which it is so, and no others, ascending
pub record AreKeys (Is : Value → Type 0) (keys : List Value) : Type 0 where
  pub ascending : IsAscending value_order keys
  pub each : (key : Value) → (has_key value_order key keys ≡ true) ↔ Is key

-- the text of such a list, as a state file has it
abbrev pub keys_text : List Value → List ℕ
keys_text keys = listed (map value_text keys)

-- the components that the ask of a query reads
abbrev pub read_by : Contents → ℕ → List ℕ
read_by c query = components_read (ask_at (design_of c) query)

-- the text lists the keys at which the query of this number may find something
pub record AreKeysOf (c : Contents) (query : ℕ) (text : List ℕ) : Type 0 where
  pub there : query < length c.design.sig.queries
  pub keys : List Value
  pub are : AreKeys (HasKey (parts_of c.node) (read_by c query)) keys
  pub text_is : text ≡ keys_text keys

-- the text lists those at which the replica has something for the query that the state file lacks
pub record AreNewKeysOf (c : Contents) (query : ℕ) (bytes text : List ℕ) : Type 0 where
  pub there : query < length c.design.sig.queries
  pub known : Node
  pub is : IsNodeText (design_of c) bytes known
  pub keys : List Value
  pub are : AreKeys (HasNewKey (parts_of known) (parts_of c.node) (read_by c query)) keys
  pub text_is : text ≡ keys_text keys

-- there is no such query; out of memory tells nothing
abbrev pub HasNoQuery : Contents → ℕ → CallError → Type 0
HasNoQuery c query call.NoCall = length c.design.sig.queries ≤ query
HasNoQuery c query call.Memory = Unit {0}

-- there is no such query, or the bytes are no state file of the design
abbrev pub HasNoNewKeys : Contents → ℕ → List ℕ → KeysError → Type 0
HasNoNewKeys c query bytes NoQuery = length c.design.sig.queries ≤ query
HasNoNewKeys c query bytes (BadState error) = IsNodeRefusal (design_of c) bytes error
HasNoNewKeys c query bytes Memory = Unit {0}
