-- The order of the entries of a table.
use Rattle.std.specs.Prelude.{◌≡◌, ℕ, ◌<◌, Bool, true, false, List, length, nat_lt, int_lt, slice_index_or}
use Rattle.kat_num.specs.declared.values.Value.{Value}
use Rattle.kat_num.specs.declared.values.Value.TheVariants.{Bool as Truth, Num, Name}

-- a number or a name
abbrev pub IsKey : Value → Type 0
IsKey (Truth _) = ⊥
IsKey (Num _) = Unit {0}
IsKey (Name _) = Unit {0}

-- numbers in their order, after them names in that of their codes
abbrev pub is_before : Value → Value → Bool
is_before (Num x) (Num y) = int_lt x y
is_before (Num x) (Name y) = true
is_before (Name x) (Name y) = nat_lt x y
is_before _ _ = false

-- a key that comes after those of all entries
abbrev pub IsLast : List (Value × Value) → Value → Type 0
IsLast entries key = IsKey key × ((i : ℕ) (d : Value × Value) → i < length entries → is_before (slice_index_or entries i d).0 key ≡ true)

-- each entry has a key, which comes before those of all later entries
pub record AreAscending (entries : List (Value × Value)) : Type 0 where
  pub keys : (i : ℕ) (d : Value × Value) → i < length entries → IsKey (slice_index_or entries i d).0
  pub ordered : (i j : ℕ) (d : Value × Value) → i < j → j < length entries
      → is_before (slice_index_or entries i d).0 (slice_index_or entries j d).0 ≡ true
