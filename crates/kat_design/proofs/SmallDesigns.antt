-- An accepted design has few nodes and small constants, and starts of the leaves' kinds.
use Rattle.std.proofs.Common.{◌≡◌, zero, suc, ◌^◌, List, [], ◌∷◌, ◌++◌, map, refl, ◌∙◌, ap, arith}
use Rattle.std.specs.Prelude.{All}
use Rattle.std.proofs.lemmas.Int.{ints}
use Rattle.kat_num.specs.declared.values.Sort.{Sort}
use Rattle.kat_num.specs.declared.values.Value.{Value}
use Rattle.kat_num.specs.declared.values.Value.TheVariants as value
use Rattle.kat_shape.specs.Forms.{CellForm, LeafKind, number, name, truth, numbers, names, truths, lex, pair, leaf_kind_of, leaf_kinds_of}
use Rattle.kat_expr.specs.Limits.{IsAtMost}
use Rattle.kat_design.specs.Designs.{ComponentForm, AskForm, DesignForm}
use Rattle.kat_design.specs.Faults.{faults_of}
use Rattle.kat_design.specs.Kinds.{kinds_of, value_kind}
use Rattle.kat_design.specs.Small.{HasConstantsAtMost, IsSmallDesign}
use Rattle.kat_design.specs.Sorted.{AreMatched, Answers, HasKind, IsStart, IsWritten}
use Rattle.kat_design.specs.Sorted.HasKind.{read, given, written, denied, and_of, or_of, numbers_less, names_less, sum_of, difference_of}
use Rattle.kat_design.specs.declared.kinds.Kind.{Kind}
use Rattle.kat_design.specs.declared.kinds.Kind.TheVariants as kind
use Rattle.kat_design.proofs.Accepted.{well_sorted}

pub written_small : (v : Value) → IsWritten v → IsAtMost (2 ^ 64) v
written_small (value.Bool b) h = tt
written_small (value.Num z) h = let low = h.0 in let high = h.1 in omega (arith, ints, low, high)
written_small (value.Name code) h = tt

constants_small : (components : List ComponentForm) (sorts : List Sort) (a : AskForm) (k : Kind) → HasKind components sorts a k → HasConstantsAtMost (2 ^ 64) a
constants_small components sorts a k (read place n key component j is there fits) = tt
constants_small components sorts a k (given place s is) = tt
constants_small components sorts a k (written v h) = written_small v h
constants_small components sorts a k (denied x) = constants_small components sorts _ _ x
constants_small components sorts a k (and_of x y) = (constants_small components sorts _ _ x, constants_small components sorts _ _ y)
constants_small components sorts a k (or_of x y) = (constants_small components sorts _ _ x, constants_small components sorts _ _ y)
constants_small components sorts a k (numbers_less x y) = (constants_small components sorts _ _ x, constants_small components sorts _ _ y)
constants_small components sorts a k (names_less x y) = (constants_small components sorts _ _ x, constants_small components sorts _ _ y)
constants_small components sorts a k (sum_of x y) = (constants_small components sorts _ _ x, constants_small components sorts _ _ y)
constants_small components sorts a k (difference_of x y) = (constants_small components sorts _ _ x, constants_small components sorts _ _ y)

all_cons : {A : Type 0} (P : A → Type 0) (x : A) (xs : List A) → P x → All P xs → All P (x ∷ xs)
all_cons P x xs p ps zero d h = p
all_cons P x xs p ps (suc i) d h = ps i d (omega arith)

pub matched_all : {A B : Type 0} (Match : A → B → Type 0) (P : A → Type 0) → ((x : A) (y : B) → Match x y → P x) → (xs : List A) (ys : List B) → AreMatched Match xs ys → All P xs
matched_all Match P is [] ys h = λ i d lt. absurd (omega arith)
matched_all Match P is (x ∷ xs) [] h = absurd h
matched_all Match P is (x ∷ xs) (y ∷ ys) h = all_cons P x xs (is x y h.0) (matched_all Match P is xs ys h.1)

pub small_design : (d : DesignForm) → faults_of d ≡ [] → IsSmallDesign d
small_design d e =
    let w = well_sorted d e in
    record {
      size = w.small;
      constants = matched_all (Answers d.components) (HasConstantsAtMost (2 ^ 64)) (λ a query h. constants_small d.components query.sorts a _ h) d.asks d.sig.queries w.asks;
    }

-- kinds of leaves
abbrev pub leaf_of_kind : Kind → LeafKind
leaf_of_kind kind.Number = number
leaf_of_kind kind.Name = name
leaf_of_kind kind.Truth = truth

pub value_leaf : (v : Value) → leaf_kind_of v ≡ leaf_of_kind (value_kind v)
value_leaf (value.Bool b) = refl
value_leaf (value.Num z) = refl
value_leaf (value.Name code) = refl

map_both : (xs ys : List Kind) → map leaf_of_kind (xs ++ ys) ≡ map leaf_of_kind xs ++ map leaf_of_kind ys
map_both [] ys = refl
map_both (x ∷ xs) ys = ap (λ zs. leaf_of_kind x ∷ zs) (map_both xs ys)

pub shape_leaves : (f : CellForm) → map leaf_of_kind (kinds_of f) ≡ leaf_kinds_of f
shape_leaves numbers = refl
shape_leaves names = refl
shape_leaves truths = refl
shape_leaves (lex a b) = map_both (kinds_of a) (kinds_of b) ∙ ap (λ xs. xs ++ map leaf_of_kind (kinds_of b)) (shape_leaves a) ∙ ap (λ ys. leaf_kinds_of a ++ ys) (shape_leaves b)
shape_leaves (pair a b) = map_both (kinds_of a) (kinds_of b) ∙ ap (λ xs. xs ++ map leaf_of_kind (kinds_of b)) (shape_leaves a) ∙ ap (λ ys. leaf_kinds_of a ++ ys) (shape_leaves b)

pub two : {A : Type 0} (x y : A) (xs ys : List A) → x ≡ y → xs ≡ ys → x ∷ xs ≡ y ∷ ys
two x y xs ys e k = cc

starts_kinds : (starts : List Value) (kinds : List Kind) → AreMatched IsStart starts kinds → map leaf_kind_of starts ≡ map leaf_of_kind kinds
starts_kinds [] [] h = refl
starts_kinds [] (k ∷ kinds) h = absurd h
starts_kinds (v ∷ starts) [] h = absurd h
starts_kinds (v ∷ starts) (k ∷ kinds) h =
    two (leaf_kind_of v) (leaf_of_kind k) (map leaf_kind_of starts) (map leaf_of_kind kinds) (value_leaf v ∙ ap leaf_of_kind h.0.kind_is) (starts_kinds starts kinds h.1)

pub starts_fit : (shape : CellForm) (starts : List Value) → AreMatched IsStart starts (kinds_of shape) → map leaf_kind_of starts ≡ leaf_kinds_of shape
starts_fit shape starts h = starts_kinds starts (kinds_of shape) h ∙ shape_leaves shape
