-- The limits of a type.
use Rattle.std.specs.Prelude.{ℕ}

-- how many fields, operations, queries and parameters there are at most
abbrev pub field_limit : ℕ
field_limit = 16

abbrev pub item_limit : ℕ
item_limit = 12

abbrev pub param_limit : ℕ
param_limit = 4

-- how many nodes all its expressions have at most
abbrev pub node_limit : ℕ
node_limit = 400
