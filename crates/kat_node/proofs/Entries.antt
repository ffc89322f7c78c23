-- Entries of a table that are made one after the other, each with the key of the one before it.
use Rattle.std.proofs.Common.{◌≡◌, ◌∙◌, ◌∷◌, Bool, true, false, List, [], map, refl, sym, ap, Option, Some}
use Rattle.std.specs.Prelude.{◌&&◌, not}
use Rattle.kat_num.specs.declared.values.Value.{Value}
use Rattle.kat_shape.specs.Forms.{CellForm}
use Rattle.kat_shape.specs.Flats.{filled_with}
use Rattle.kat_shape.specs.Values.{Filled}
use Rattle.kat_design.specs.Faults.{here_if}
use Rattle.kat_node.specs.Possible.{are_none, cell_entry_made, is_own, leaves_faults, own_faults, with_last}

abbrev pub key_of : Value × List Value → Value
key_of entry = entry.0

abbrev pub next_made : CellForm → Option Value × (Value × List Value) → Value × Filled
next_made shape pair = cell_entry_made shape pair.1

-- what entries give doesn't see the keys before them
pub made_each : (shape : CellForm) (last : Option Value) (es : List (Value × List Value)) → map (next_made shape) (with_last key_of last es) ≡ map (cell_entry_made shape) es
made_each shape last [] = refl
made_each shape last (e ∷ es) = ap (λ ms. cell_entry_made shape e ∷ ms) (made_each shape (Some (key_of e)) es)

-- no key comes after the last entry
pub none_left : (last : Option Value) (rest : List (Value × List Value)) → rest ≡ [] → with_last key_of last rest ≡ []
none_left last rest none = ap (λ ys. with_last key_of last ys) none

-- a value that is its own has no fault as a whole; one of leaves that fit and that isn't is one
never : (b : Bool) → here_if (b && false) ≡ []
never true = refl
never false = refl

pub own_right : (f : CellForm) (start v : Filled) (vs : List Value) → v ≡ filled_with f vs → is_own start v ≡ true → own_faults f start vs ≡ []
own_right f start v vs is own =
    ap (λ o. here_if (are_none (leaves_faults f vs) && not o)) (ap (λ w. is_own start w) (sym is) ∙ own) ∙ never (are_none (leaves_faults f vs))

pub own_wrong : (f : CellForm) (start v : Filled) (vs : List Value) → are_none (leaves_faults f vs) ≡ true → v ≡ filled_with f vs → is_own start v ≡ false → own_faults f start vs ≡ [] ∷ []
own_wrong f start v vs fit is own =
    ap (λ b. here_if (b && not (is_own start (filled_with f vs)))) fit ∙ ap (λ o. here_if (true && not o)) (ap (λ w. is_own start w) (sym is) ∙ own)
