-- A value is kept at a key of a table, and a step on its entries is taken back.
use Rattle.std.specs.Prelude.{◌≡◌, ℕ, ◌<◌, List, [], ◌∷◌, length, if◌then◌else◌, slice_set}
use Rattle.std.specs.List.{remove}
use Rattle.kat_num.specs.declared.values.Value.{Value}
use Rattle.kat_num.specs.declared.values.Value.TheVariants.{Bool as Truth, Num, Name}
use Rattle.kat_expr.specs.Entries.{AreAscending, is_before}
use Rattle.kat_expr.specs.Slots.{is_same}
use Rattle.kat_expr.specs.declared.entries.Undo.{Undo}
use Rattle.kat_expr.specs.declared.entries.Undo.TheVariants.{Nothing, Added, Changed}

-- the entries with this value at a key: in place of what its entry had, or in a new entry where the key belongs
abbrev pub with_entry : Value → Value → List (Value × Value) → List (Value × Value)
with_entry key value [] = (key, value) ∷ []
with_entry key value (entry ∷ entries) =
    if is_before entry.0 key then entry ∷ with_entry key value entries
    else if is_same entry.0 key then (key, value) ∷ entries
    else (key, value) ∷ entry ∷ entries

-- the same; a truth value is no key, so nothing is kept at one
abbrev pub with_value : Value → Value → List (Value × Value) → List (Value × Value)
with_value (Truth _) value entries = entries
with_value (Num x) value entries = with_entry (Num x) value entries
with_value (Name x) value entries = with_entry (Name x) value entries

-- the entries before a step
abbrev pub taken_back : Undo → List (Value × Value) → List (Value × Value)
taken_back Nothing entries = entries
taken_back (Added place) entries = remove entries place
taken_back (Changed place entry) entries = slice_set entries place entry

-- the place of a step is among the entries
abbrev pub IsInside : Undo → List (Value × Value) → Type 0
IsInside Nothing entries = Unit {0}
IsInside (Added place) entries = place < length entries
IsInside (Changed place entry) entries = place < length entries

-- taking the step back from new gives old
pub record Undoes (undo : Undo) (old new : List (Value × Value)) : Type 0 where
  pub inside : IsInside undo new
  pub back : taken_back undo new ≡ old
  pub kept : AreAscending old
