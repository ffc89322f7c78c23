-- The order of a chain compares its leaves lexicographically.
use Rattle.std.proofs.Common.{◌≡◌, List, [], ◌∷◌, ◌++◌, length, refl, sym, ◌∙◌, ap, arith}
use Rattle.std.specs.declared.cmp.Ordering.{Ordering}
use Rattle.std.specs.declared.cmp.Ordering.TheVariants.{Less, Equal, Greater}
use Rattle.std.specs.Ordering.{int_cmp, nat_cmp, bool_cmp, ordering_then}
use Rattle.std.proofs.lemmas.List.{length-map}
use Rattle.std.specs.Cmp.Lexicographic.{slice_cmp}
use Rattle.kat_shape.specs.Chains.{ComparesLeaves}
use Rattle.kat_shape.specs.Leaves.{leaves_compared}
use Rattle.kat_shape.specs.Forms.{CellForm, lex, leaf_kind_of, leaf_kinds_of}
use Rattle.kat_shape.specs.Values.{Filled, a_number, a_name, a_truth, a_lex, a_pair, shape_of, leaves_of, cells_compared}
use Rattle.kat_shape.proofs.Filling.{leaf_kinds_of-shape_of}

then_assoc : (o r t : Ordering) → ordering_then (ordering_then o r) t ≡ ordering_then o (ordering_then r t)
then_assoc Less r t = refl
then_assoc Equal r t = refl
then_assoc Greater r t = refl

then_equal : (o : Ordering) → ordering_then o Equal ≡ o
then_equal Less = refl
then_equal Equal = refl
then_equal Greater = refl

-- beginnings of one length decide first
front_first : {X : Type 0} (cmp : X → X → Ordering) (xs ys us vs : List X) → length xs ≡ length ys → slice_cmp cmp (xs ++ us) (ys ++ vs) ≡ ordering_then (slice_cmp cmp xs ys) (slice_cmp cmp us vs)
front_first cmp [] [] us vs e = refl
front_first cmp [] (y ∷ ys) us vs e = absurd (omega arith)
front_first cmp (x ∷ xs) [] us vs e = absurd (omega arith)
front_first cmp (x ∷ xs) (y ∷ ys) us vs e =
    ap (ordering_then (cmp x y)) (front_first cmp xs ys us vs (omega arith)) ∙ sym (then_assoc (cmp x y) (slice_cmp cmp xs ys) (slice_cmp cmp us vs))

leaf_count : (a : Filled) → length (leaves_of a) ≡ length (leaf_kinds_of (shape_of a))
leaf_count a = sym (length-map (leaves_of a) leaf_kind_of) ∙ ap length (leaf_kinds_of-shape_of a)

first_form : (a b c d : CellForm) → lex a b ≡ lex c d → a ≡ c
first_form a b c d e = cc

second_form : (a b c d : CellForm) → lex a b ≡ lex c d → b ≡ d
second_form a b c d e = cc

pub compares_leaves : ComparesLeaves
compares_leaves (a_number x) (a_number y) h e = sym (then_equal (int_cmp x y))
compares_leaves (a_name x) (a_name y) h e = sym (then_equal (nat_cmp x y))
compares_leaves (a_truth x) (a_truth y) h e = sym (then_equal (bool_cmp x y))
compares_leaves (a_lex a b) (a_lex c d) h e =
    let first : shape_of a ≡ shape_of c = first_form (shape_of a) (shape_of b) (shape_of c) (shape_of d) e in
    let second : shape_of b ≡ shape_of d = second_form (shape_of a) (shape_of b) (shape_of c) (shape_of d) e in
    let size : length (leaves_of a) ≡ length (leaves_of c) = leaf_count a ∙ (ap (λ f. length (leaf_kinds_of f)) first ∙ sym (leaf_count c)) in
    let one : cells_compared a c ≡ slice_cmp leaves_compared (leaves_of a) (leaves_of c) = compares_leaves a c h.0 first in
    let two : cells_compared b d ≡ slice_cmp leaves_compared (leaves_of b) (leaves_of d) = compares_leaves b d h.1 second in
    ap (λ o. ordering_then o (cells_compared b d)) one ∙ (ap (ordering_then (slice_cmp leaves_compared (leaves_of a) (leaves_of c))) two ∙ sym (front_first leaves_compared (leaves_of a) (leaves_of c) (leaves_of b) (leaves_of d) size))
compares_leaves (a_pair a b) y h e = absurd h
compares_leaves _ _ h e = (cc)
