-- A table whose start is that of a shape.
use Rattle.std.proofs.Common.{◌≡◌, ℕ, ◌+◌, ◌<◌, ◌≤◌, zero, suc, List, [], ◌∷◌, drop, get_or, length, map, refl, ap₂, subst, Result, arith}
use Rattle.std.specs.Prelude.{IfErr, IfOk, min}
use Rattle.kat_num.specs.declared.values.Sort.{Sort}
use Rattle.kat_num.specs.declared.values.Value.{Value}
use Rattle.kat_lattice.specs.Maps.{Table}
use Rattle.kat_shape.specs.Flats.{filled_with}
use Rattle.kat_shape.specs.Forms.{CellForm}
use Rattle.kat_shape.specs.Values.{Filled, shape_of}
use Rattle.kat_shape.proofs.Filling.{filled_shape}
use Rattle.kat_design.proofs.Firsts.{left_drop, left_map}
use Rattle.kat_json.specs.Refused.{IsRefused, IsSaid}
use Rattle.kat_json.specs.declared.errors.WireError.{WireError}
use Rattle.kat_node.specs.Possible.{cell_entry_made, table_faults}
use Rattle.kat_node.specs.StateForms.{zipped}

moved : (P : CellForm → Filled → Type 0) (shape : CellForm) (starts : List Value) (start : Filled) → start ≡ filled_with shape starts → P (shape_of start) start → P shape (filled_with shape starts)
moved P shape starts start is h =
    subst (λ (f : CellForm). P f (filled_with shape starts)) (filled_shape shape starts) (subst (λ (s : Filled). P (shape_of s) s) is h)

pub table_said : (key : Sort) (shape : CellForm) (starts : List Value) (start : Filled) (es : List (Value × List Value)) (r : Result (Table Value Filled) WireError) → start ≡ filled_with shape starts
    → IfOk r (λ t. IsSaid (table_faults key (shape_of start) start es) (record { start = start; entries = map (cell_entry_made (shape_of start)) es }) t)
    → IfOk r (λ t. IsSaid (table_faults key shape (filled_with shape starts) es) (record { start = filled_with shape starts; entries = map (cell_entry_made shape) es }) t)
table_said key shape starts start es r is h =
    moved (λ (f : CellForm) (s : Filled). IfOk r (λ t. IsSaid (table_faults key f s es) (record { start = s; entries = map (cell_entry_made f) es }) t)) shape starts start is h

pub table_refused : {T : Type 0} (key : Sort) (shape : CellForm) (starts : List Value) (start : Filled) (es : List (Value × List Value)) (r : Result T WireError) → start ≡ filled_with shape starts
    → IfErr r (IsRefused (table_faults key (shape_of start) start es)) → IfErr r (IsRefused (table_faults key shape (filled_with shape starts) es))
table_refused key shape starts start es r is h = moved (λ (f : CellForm) (s : Filled). IfErr r (IsRefused (table_faults key f s es))) shape starts start is h

-- components with what is said of them, side by side
pub side_left : {X Y A : Type 0} (f : X → A) (xs : List X) (ys : List Y) (i : ℕ) (x : X) (y : Y) → i < length xs → x ≡ get_or xs i x → i < length ys → y ≡ get_or ys i y
    → zipped (map f (drop i xs)) (drop i ys) ≡ (f x, y) ∷ zipped (map f (drop (i + 1) xs)) (drop (i + 1) ys)
side_left f xs ys i x y inside is within it = ap₂ (λ ps qs. zipped ps qs) (left_map f xs i x inside is) (left_drop ys i y within it)

side_none : {A B : Type 0} (ps : List A) → zipped {A = A} {B = B} ps [] ≡ []
side_none [] = refl
side_none (p ∷ ps) = refl

pub side_end : {X Y A : Type 0} (f : X → A) (xs : List X) (ys : List Y) (i : ℕ) → min (length xs) (length ys) ≤ i → zipped (map f (drop i xs)) (drop i ys) ≡ []
side_end f [] ys zero past = refl
side_end f [] ys (suc i) past = refl
side_end f (x ∷ xs) [] zero past = refl
side_end f (x ∷ xs) [] (suc i) past = side_none (map f (drop i xs))
side_end f (x ∷ xs) (y ∷ ys) zero past = absurd (omega arith)
side_end f (x ∷ xs) (y ∷ ys) (suc i) past = side_end f xs ys i (omega arith)
