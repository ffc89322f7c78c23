-- Cells by their leaves, and the leaves of a join.
use Rattle.std.proofs.Common.{◌≡◌, List, ◌++◌, take, drop, refl, sym, ◌∙◌, ap, subst}
use Rattle.std.specs.declared.cmp.Ordering.TheVariants.{Less, Equal, Greater}
use Rattle.std.specs.Ordering.{match_ordering}
use Rattle.std.specs.Cmp.Lexicographic.{slice_cmp}
use Rattle.kat_num.specs.declared.values.Value.{Value}
use Rattle.kat_shape.specs.Forms.{CellForm, IsChainForm, lex, pair, width_of}
use Rattle.kat_shape.specs.Values.{Filled, a_number, a_name, a_truth, a_lex, a_pair, shape_of, leaves_of, cells_compared, joined}
use Rattle.kat_shape.specs.Flats.{filled_with, Fits}
use Rattle.kat_shape.specs.Laws.{good_from_chain}
use Rattle.kat_shape.specs.Leaves.{leaves_compared}
use Rattle.kat_shape.specs.LeafByLeaf.{LeavesDetermineCells, JoinsFirstParts, JoinsLeafByLeaf, first_of, second_leaves, joined_leaves}
use Rattle.kat_shape.proofs.Chains.{compares_leaves}
use Rattle.kat_shape.proofs.ChainOrders.{Stand, before, level, after, stand}
use Rattle.kat_shape.proofs.Filling.{leaf_kinds_of-shape_of, take_fit, drop_fit}

-- a value's leaves fit its shape
fits_own : (a : Filled) → Fits (shape_of a) (leaves_of a)
fits_own a = record { kinds = leaf_kinds_of-shape_of a }

fits_other : (a c : Filled) → shape_of a ≡ shape_of c → Fits (shape_of a) (leaves_of c)
fits_other a c e = subst (λ (f : CellForm). Fits f (leaves_of c)) (sym e) (fits_own c)

-- a value is its shape filled with its leaves
filled_again : (a : Filled) → filled_with (shape_of a) (leaves_of a) ≡ a
filled_again (a_number z) = refl
filled_again (a_name n) = refl
filled_again (a_truth b) = refl
filled_again (a_lex a b) =
    let front : take (width_of (shape_of a)) (leaves_of a ++ leaves_of b) ≡ leaves_of a = take_fit (shape_of a) (leaves_of a) (leaves_of b) (fits_own a) in
    let back : drop (width_of (shape_of a)) (leaves_of a ++ leaves_of b) ≡ leaves_of b = drop_fit (shape_of a) (leaves_of a) (leaves_of b) (fits_own a) in
    let e = filled_again a in
    let f = filled_again b in
    cc
filled_again (a_pair a b) =
    let front : take (width_of (shape_of a)) (leaves_of a ++ leaves_of b) ≡ leaves_of a = take_fit (shape_of a) (leaves_of a) (leaves_of b) (fits_own a) in
    let back : drop (width_of (shape_of a)) (leaves_of a ++ leaves_of b) ≡ leaves_of b = drop_fit (shape_of a) (leaves_of a) (leaves_of b) (fits_own a) in
    let e = filled_again a in
    let f = filled_again b in
    cc

pub leaves_determine : LeavesDetermineCells
leaves_determine a b e f = sym (filled_again a) ∙ (ap (λ (g : CellForm). filled_with g (leaves_of a)) e ∙ (ap (filled_with (shape_of b)) f ∙ filled_again b))

first_by : (a b c d : Filled) → Stand a c → first_of (match_ordering (cells_compared a c) (a_lex c d) (a_lex a (joined b d)) (a_lex a b)) ≡ joined a c
first_by a b c d (before o j) = rw o (sym j)
first_by a b c d (level o p j) = rw o (sym j)
first_by a b c d (after o p j) = rw o (sym j)

pub joins_first_parts : JoinsFirstParts
joins_first_parts a b c d h e = first_by a b c d (stand a c h e)

first_lex : (a b c d : CellForm) → lex a b ≡ lex c d → a ≡ c
first_lex a b c d e = cc

second_lex : (a b c d : CellForm) → lex a b ≡ lex c d → b ≡ d
second_lex a b c d e = cc

first_pair : (a b c d : CellForm) → pair a b ≡ pair c d → a ≡ c
first_pair a b c d e = cc

second_pair : (a b c d : CellForm) → pair a b ≡ pair c d → b ≡ d
second_pair a b c d e = cc

four : {X Y : Type 0} (F : X → X → X → X → Y) (p q r s t u v w : X) → p ≡ t → q ≡ u → r ≡ v → s ≡ w → F p q r s ≡ F t u v w
four F p q r s t u v w e f g h = cc

-- the parts of two lists of leaves are the leaves of the parts
by_parts : {Y : Type 0} (F : List Value → List Value → List Value → List Value → Y) (a b c d : Filled) → shape_of a ≡ shape_of c → F (take (width_of (shape_of a)) (leaves_of a ++ leaves_of b)) (take (width_of (shape_of a)) (leaves_of c ++ leaves_of d)) (drop (width_of (shape_of a)) (leaves_of a ++ leaves_of b)) (drop (width_of (shape_of a)) (leaves_of c ++ leaves_of d)) ≡ F (leaves_of a) (leaves_of c) (leaves_of b) (leaves_of d)
by_parts F a b c d e = four F _ _ _ _ _ _ _ _
    (take_fit (shape_of a) (leaves_of a) (leaves_of b) (fits_own a))
    (take_fit (shape_of a) (leaves_of c) (leaves_of d) (fits_other a c e))
    (drop_fit (shape_of a) (leaves_of a) (leaves_of b) (fits_own a))
    (drop_fit (shape_of a) (leaves_of c) (leaves_of d) (fits_other a c e))

-- the second leaves, by where the first parts are
lex_leaves : (a b c d : Filled) → slice_cmp leaves_compared (leaves_of a) (leaves_of c) ≡ cells_compared a c → slice_cmp leaves_compared (leaves_of c) (leaves_of a) ≡ cells_compared c a → Stand a c → leaves_of (match_ordering (cells_compared a c) (a_lex c d) (a_lex a (joined b d)) (a_lex a b)) ≡ leaves_of (joined a c) ++ second_leaves (leaves_of a) (leaves_of c) (leaves_of b) (leaves_of d) (leaves_of (joined b d))
lex_leaves a b c d p q (before o j) =
    let forth : slice_cmp leaves_compared (leaves_of a) (leaves_of c) ≡ Less = p ∙ o in
    rw (o, forth, j) refl
lex_leaves a b c d p q (level o r j) =
    let forth : slice_cmp leaves_compared (leaves_of a) (leaves_of c) ≡ Equal = p ∙ o in
    let back : slice_cmp leaves_compared (leaves_of c) (leaves_of a) ≡ Equal = q ∙ r in
    rw (o, forth, back, j) refl
lex_leaves a b c d p q (after o r j) =
    let forth : slice_cmp leaves_compared (leaves_of a) (leaves_of c) ≡ Greater = p ∙ o in
    let back : slice_cmp leaves_compared (leaves_of c) (leaves_of a) ≡ Less = q ∙ r in
    rw (o, forth, back, j) refl

pub joins_leaf_by_leaf : JoinsLeafByLeaf
joins_leaf_by_leaf (a_number x) (a_number y) h e = refl
joins_leaf_by_leaf (a_name x) (a_name y) h e = refl
joins_leaf_by_leaf (a_truth x) (a_truth y) h e = refl
joins_leaf_by_leaf (a_lex a b) (a_lex c d) h e =
    let first : shape_of a ≡ shape_of c = first_lex (shape_of a) (shape_of b) (shape_of c) (shape_of d) e in
    let second : shape_of b ≡ shape_of d = second_lex (shape_of a) (shape_of b) (shape_of c) (shape_of d) e in
    let chain : IsChainForm (shape_of c) = subst IsChainForm first h.0 in
    let one : leaves_of (joined a c) ≡ joined_leaves (shape_of a) (leaves_of a) (leaves_of c) = joins_leaf_by_leaf a c (good_from_chain (shape_of a) h.0) first in
    let two : leaves_of (joined b d) ≡ joined_leaves (shape_of b) (leaves_of b) (leaves_of d) = joins_leaf_by_leaf b d h.1 second in
    lex_leaves a b c d (sym (compares_leaves a c h.0 first)) (sym (compares_leaves c a chain (sym first))) (stand a c h.0 first)
    ∙ (ap (λ (vs : List Value). vs ++ second_leaves (leaves_of a) (leaves_of c) (leaves_of b) (leaves_of d) (leaves_of (joined b d))) one
    ∙ (ap (λ (vs : List Value). joined_leaves (shape_of a) (leaves_of a) (leaves_of c) ++ second_leaves (leaves_of a) (leaves_of c) (leaves_of b) (leaves_of d) vs) two
    ∙ sym (by_parts (λ p q r s. joined_leaves (shape_of a) p q ++ second_leaves p q r s (joined_leaves (shape_of b) r s)) a b c d first)))
joins_leaf_by_leaf (a_pair a b) (a_pair c d) h e =
    let first : shape_of a ≡ shape_of c = first_pair (shape_of a) (shape_of b) (shape_of c) (shape_of d) e in
    let second : shape_of b ≡ shape_of d = second_pair (shape_of a) (shape_of b) (shape_of c) (shape_of d) e in
    let one : leaves_of (joined a c) ≡ joined_leaves (shape_of a) (leaves_of a) (leaves_of c) = joins_leaf_by_leaf a c h.0 first in
    let two : leaves_of (joined b d) ≡ joined_leaves (shape_of b) (leaves_of b) (leaves_of d) = joins_leaf_by_leaf b d h.1 second in
    ap (λ (vs : List Value). vs ++ leaves_of (joined b d)) one
    ∙ (ap (λ (vs : List Value). joined_leaves (shape_of a) (leaves_of a) (leaves_of c) ++ vs) two
    ∙ sym (by_parts (λ p q r s. joined_leaves (shape_of a) p q ++ joined_leaves (shape_of b) r s) a b c d first))
joins_leaf_by_leaf _ _ h e = (cc)
