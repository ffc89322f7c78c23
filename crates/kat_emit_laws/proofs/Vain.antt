-- `false` joined to a truth value changes nothing; nor does the weight 0.
use Rattle.std.proofs.Common.{◌≡◌, ℕ, ◌+◌, ◌≤◌, true, false, List, [], ◌∷◌, length, refl, ◌∙◌, ap, arith}
use Rattle.kat_num.specs.Orders.{value_order}
use Rattle.kat_num.specs.declared.values.Value.{Value}
use Rattle.kat_num.specs.declared.values.Value.TheVariants as value
use Rattle.kat_lattice.specs.Keyed.{by_key, on_value, union}
use Rattle.kat_lattice.specs.Maps.{Table, maps_joined}
use Rattle.kat_shape.specs.Flats.{filled_with}
use Rattle.kat_shape.specs.Forms.{CellForm, LeafKind, numbers, names, truths, lex, pair, truth, leaf_kinds_of, width_of}
use Rattle.kat_shape.specs.Values.{Filled, a_number, a_name, a_truth, a_lex, a_pair, joined, shape_of}
use Rattle.kat_shape.proofs.Filling.{kinds_long}
use Rattle.kat_design.specs.Denotations.{alone_at}
use Rattle.kat_design.specs.declared.designs.Leaf.{Leaf}
use Rattle.kat_design.specs.declared.designs.Leaf.TheVariants as leaf
use Rattle.kat_emit.specs.Statements.{is_vain, is_zero}

pub zero_is : (w : Leaf) → is_zero w ≡ true → w ≡ leaf.Zero
zero_is leaf.Zero e = refl
zero_is _ e = absurd cc

pub vain_is : (leaves : List Leaf) → is_vain leaves ≡ true → leaves ≡ leaf.False ∷ []
vain_is [] e = absurd cc
vain_is (leaf.False ∷ []) e = refl
vain_is (leaf.False ∷ x ∷ xs) e = absurd cc
vain_is (_ ∷ xs) e = absurd cc

-- the shape of one truth value
two_wide : (a b : ℕ) → 1 ≤ a → 1 ≤ b → 1 ≡ a + b → ⊥
two_wide a b l m e = omega arith

wide : (f : CellForm) → 1 ≤ width_of f
wide numbers = omega arith
wide names = omega arith
wide truths = omega arith
wide (lex a b) = let h : 1 ≤ width_of a = wide a in omega arith
wide (pair a b) = let h : 1 ≤ width_of a = wide a in omega arith

pub vain_shape : (f : CellForm) → ◌≡◌ {A = List LeafKind} (truth ∷ []) (leaf_kinds_of f) → f ≡ truths
vain_shape numbers e = absurd cc
vain_shape names e = absurd cc
vain_shape truths e = refl
vain_shape (lex a b) e = absurd (two_wide (width_of a) (width_of b) (wide a) (wide b) (ap length e ∙ kinds_long (lex a b)))
vain_shape (pair a b) e = absurd (two_wide (width_of a) (width_of b) (wide a) (wide b) (ap length e ∙ kinds_long (pair a b)))

abbrev pub only_false : List Value
only_false = value.Bool false ∷ []

pub vain_cell : (cell : Filled) → shape_of cell ≡ truths → joined cell (filled_with (shape_of cell) only_false) ≡ cell
vain_cell (a_number z) e = absurd cc
vain_cell (a_name n) e = absurd cc
vain_cell (a_truth true) e = refl
vain_cell (a_truth false) e = refl
vain_cell (a_lex a b) e = absurd cc
vain_cell (a_pair a b) e = absurd cc

vain_alone : (start : Filled) (key : Value) → shape_of start ≡ truths → (alone_at start key (filled_with (shape_of start) only_false)).entries ≡ []
vain_alone (a_number z) key e = absurd cc
vain_alone (a_name n) key e = absurd cc
vain_alone (a_truth true) key e = refl
vain_alone (a_truth false) key e = refl
vain_alone (a_lex a b) key e = absurd cc
vain_alone (a_pair a b) key e = absurd cc

abbrev cells_with : Filled → List (Value × Filled) → Table Value Filled
cells_with start entries = record { start = start; entries = entries }

pub vain_table : (table : Table Value Filled) (key : Value) → shape_of table.start ≡ truths
    → maps_joined value_order joined table (alone_at table.start key (filled_with (shape_of table.start) only_false)) ≡ table
vain_table table key e =
    ap (λ (new : List (Value × Filled)). cells_with table.start (union (by_key value_order) (on_value joined) table.entries new)) (vain_alone table.start key e)
