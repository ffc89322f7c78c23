-- What an operation that fits gives to leaves has the kinds of a shape's leaves.
use Rattle.std.proofs.Common.{◌≡◌, ℕ, zero, suc, List, [], ◌∷◌, map, refl, ◌∙◌, ap, subst, get_or, Some}
use Rattle.std.specs.Prelude.{slice_get}
use Rattle.std.proofs.lemmas.Option.{get_or_from_slice_get}
use Rattle.kat_num.specs.Values.{HasSort, IsArgument}
use Rattle.kat_num.specs.declared.values.Sort.{Sort}
use Rattle.kat_num.specs.declared.values.Sort.TheVariants as sort
use Rattle.kat_num.specs.declared.values.Value.{Value}
use Rattle.kat_num.specs.declared.values.Value.TheVariants as value
use Rattle.kat_expr.specs.Slots.{absent}
use Rattle.kat_shape.specs.Forms.{CellForm, leaf_kind_of, leaf_kinds_of}
use Rattle.kat_type.specs.declared.done.Done.{Done}
use Rattle.kat_design.specs.Effects.{leaf_value}
use Rattle.kat_design.specs.Kinds.{kinds_of, sort_kind, value_kind}
use Rattle.kat_design.specs.Sorted.{AreMatched, GivesKind}
use Rattle.kat_design.specs.Sorted.GivesKind.{argument, time, replica, zero_leaf, one, above, below, false_leaf, true_leaf}
use Rattle.kat_design.specs.declared.designs.Leaf.{Leaf}
use Rattle.kat_design.specs.declared.kinds.Kind.{Kind}
use Rattle.kat_design.proofs.SmallDesigns.{leaf_of_kind, shape_leaves, two, value_leaf}

-- what is at the place of an element of the other list
pub record Beside {A B : Type 0} (Match : A → B → Type 0) (xs : List A) (i : ℕ) (y : B) : Type 0 where
  pub value : A
  pub there : slice_get xs i ≡ Some value
  pub matched : Match value y

pub beside : {A B : Type 0} (Match : A → B → Type 0) (xs : List A) (ys : List B) → AreMatched Match xs ys → (i : ℕ) (y : B) → slice_get ys i ≡ Some y → Beside Match xs i y
beside Match [] [] h i y e = absurd (cc)
beside Match [] (z ∷ ys) h i y e = absurd h
beside Match (x ∷ xs) [] h i y e = absurd h
beside Match (x ∷ xs) (z ∷ ys) h zero y e = record { value = x; there = refl; matched = (let same : z ≡ y = (cc) in subst (λ w. Match x w) same h.0) }
beside Match (x ∷ xs) (z ∷ ys) h (suc i) y e = (let b = beside Match xs ys h.1 i y e in record { value = b.value; there = b.there; matched = b.matched })

-- an argument of a sort has its kind
sort_kept : (s : Sort) (v : Value) → HasSort s v → value_kind v ≡ sort_kind s
sort_kept sort.Bool (value.Bool b) h = refl
sort_kept sort.Bool (value.Num z) h = absurd h
sort_kept sort.Bool (value.Name n) h = absurd h
sort_kept sort.Int (value.Bool b) h = absurd h
sort_kept sort.Int (value.Num z) h = refl
sort_kept sort.Int (value.Name n) h = absurd h
sort_kept sort.Nat (value.Bool b) h = absurd h
sort_kept sort.Nat (value.Num z) h = refl
sort_kept sort.Nat (value.Name n) h = absurd h
sort_kept sort.Name (value.Bool b) h = absurd h
sort_kept sort.Name (value.Num z) h = absurd h
sort_kept sort.Name (value.Name n) h = refl

abbrev pub AreArguments : Done → List Sort → Type 0
AreArguments done sorts = AreMatched (λ (v : Value) (s : Sort). IsArgument s v) done.args sorts

argument_kind : (done : Done) (sorts : List Sort) (place : ℕ) (s : Sort) → AreArguments done sorts → slice_get sorts place ≡ Some s → value_kind (get_or done.args place absent) ≡ sort_kind s
argument_kind done sorts place s args is =
    let b = beside (λ (v : Value) (t : Sort). IsArgument t v) done.args sorts args place s is in
    ap value_kind (get_or_from_slice_get done.args place b.value absent b.there) ∙ sort_kept s b.value b.matched.fits

-- the value of a leaf has the kind that it gives
given_kind : (done : Done) (sorts : List Sort) → AreArguments done sorts → (given : Leaf) (k : Kind) → GivesKind sorts given k → value_kind (leaf_value done given) ≡ k
given_kind done sorts args _ _ (argument place s is) = argument_kind done sorts place s args is
given_kind done sorts args _ _ time = refl
given_kind done sorts args _ _ replica = refl
given_kind done sorts args _ _ zero_leaf = refl
given_kind done sorts args _ _ one = refl
given_kind done sorts args _ _ (above place is) = refl
given_kind done sorts args _ _ (below place is) = refl
given_kind done sorts args _ _ false_leaf = refl
given_kind done sorts args _ _ true_leaf = refl

given_kinds : (done : Done) (sorts : List Sort) → AreArguments done sorts → (leaves : List Leaf) (kinds : List Kind) → AreMatched (GivesKind sorts) leaves kinds
    → map leaf_kind_of (map (leaf_value done) leaves) ≡ map leaf_of_kind kinds
given_kinds done sorts args [] [] h = refl
given_kinds done sorts args [] (k ∷ kinds) h = absurd h
given_kinds done sorts args (given ∷ leaves) [] h = absurd h
given_kinds done sorts args (given ∷ leaves) (k ∷ kinds) h =
    two (leaf_kind_of (leaf_value done given)) (leaf_of_kind k) (map leaf_kind_of (map (leaf_value done) leaves)) (map leaf_of_kind kinds)
    (value_leaf (leaf_value done given) ∙ ap leaf_of_kind (given_kind done sorts args given k h.0)) (given_kinds done sorts args leaves kinds h.1)

pub gives_leaves : (done : Done) (sorts : List Sort) → AreArguments done sorts → (shape : CellForm) (leaves : List Leaf) → AreMatched (GivesKind sorts) leaves (kinds_of shape) → map leaf_kind_of (map (leaf_value done) leaves) ≡ leaf_kinds_of shape
gives_leaves done sorts args shape leaves h = given_kinds done sorts args leaves (kinds_of shape) h ∙ shape_leaves shape
