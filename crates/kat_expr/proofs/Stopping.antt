-- Going through the entries of a table.
use Rattle.std.proofs.Common.{◌≡◌, ℕ, ◌<◌, true, List, length, drop, get_or, refl, drop-cons}
use Rattle.kat_num.specs.declared.values.Value.{Value}
use Rattle.kat_expr.specs.Slots.{is_same, entry_at}

-- the entry of the key has the value
pub stop : (key start : Value) (entries : List (Value × Value)) (i : ℕ) (d : Value × Value) → i < length entries
    → is_same (get_or entries i d).0 key ≡ true → entry_at key start (drop i entries) ≡ (get_or entries i d).1
stop key start entries i d inside same = rw (drop-cons entries i d inside, same) refl
