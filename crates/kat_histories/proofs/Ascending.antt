-- Lists of choices ascend.
use Rattle.std.proofs.Common.{◌≡◌, inl, inr, ⊎_elim, List, [], ◌∷◌, ◌++◌, map, refl, ◌∙◌, subst}
use Rattle.std.specs.Cmp.Lexicographic.{slice_cmp}
use Rattle.std.specs.List.{flat_map}
use Rattle.std.specs.declared.cmp.Ordering.{Ordering}
use Rattle.std.specs.declared.cmp.Ordering.TheVariants.{Less, Equal}
use Rattle.kat_histories.specs.Choices.{headed, one_of_each}
use Rattle.kat_type.specs.Lists.{Has}
use Rattle.kat_histories.proofs.Members.{flat_has, mapped}
use Rattle.kat_type.proofs.Lists.{has_either}
use Rattle.kat_type.proofs.Ordered.{Ascends}

-- two ascending lists, of which the first is below the second
pub ascends_append : {X : Type 0} (R : X → X → Ordering) (xs ys : List X) → Ascends R xs → Ascends R ys → ((x y : X) → Has xs x → Has ys y → R x y ≡ Less) → Ascends R (xs ++ ys)
ascends_append R [] ys a b below = b
ascends_append R (x ∷ xs) ys a b below = (
  λ y h. ⊎_elim (λ k. a.0 y k) (λ k. below x y (inl refl) k) (has_either xs ys y h),
  ascends_append R xs ys a.1 b (λ u v h k. below u v (inr h) k),
)

pub ascends_map : {X Y : Type 0} (R : X → X → Ordering) (S : Y → Y → Ordering) (f : X → Y) (xs : List X) → ((x y : X) → Has xs x → Has xs y → R x y ≡ Less → S (f x) (f y) ≡ Less) → Ascends R xs
    → Ascends S (map f xs)
ascends_map R S f [] on a = tt
ascends_map {X} {Y} R S f (x ∷ xs) on a = (
  λ y h. let m = mapped f xs y h in subst (λ (z : Y). S (f x) z ≡ Less) m.2 (on x m.0 (inl refl) (inr m.1) (a.0 m.0 m.1)),
  ascends_map R S f xs (λ u v h k e. on u v (inr h) (inr k) e) a.1,
)

-- pieces that ascend, each below the later ones
pub ascends_flat : {X Y : Type 0} (R : X → X → Ordering) (S : Y → Y → Ordering) (f : X → List Y) (xs : List X) → ((x : X) → Has xs x → Ascends S (f x))
    → ((x y : X) (u v : Y) → Has xs x → Has xs y → R x y ≡ Less → Has (f x) u → Has (f y) v → S u v ≡ Less) → Ascends R xs → Ascends S (flat_map f xs)
ascends_flat R S f [] each below a = tt
ascends_flat {X} {Y} R S f (x ∷ xs) each below a =
    ascends_append S (f x) (flat_map f xs) (each x (inl refl)) (ascends_flat R S f xs (λ y h. each y (inr h)) (λ y z u v h k. below y z u v (inr h) (inr k)) a.1)
    (λ u v h k. let m = flat_has f xs v k in below x m.0 u v (inl refl) (inr m.1) (a.0 m.0 m.1) h m.2)

-- each of the lists ascends
abbrev pub EachAscends : {X : Type 0} → (X → X → Ordering) → List (List X) → Type 0
EachAscends R [] = Unit {0}
EachAscends R (xs ∷ lists) = Ascends R xs × EachAscends R lists

-- choices ascend lexicographically
head_less : {X : Type 0} (R : X → X → Ordering) (x y : X) (a b : List X) → R x y ≡ Less → slice_cmp R (x ∷ a) (y ∷ b) ≡ Less
head_less R x y a b e = rw e refl

head_same : {X : Type 0} (R : X → X → Ordering) (x : X) (a b : List X) → R x x ≡ Equal → slice_cmp R (x ∷ a) (x ∷ b) ≡ slice_cmp R a b
head_same R x a b e = rw e refl

pub choices_ascend : {X : Type 0} (R : X → X → Ordering) → ((x : X) → R x x ≡ Equal) → (lists : List (List X)) → EachAscends R lists → Ascends (slice_cmp R) (one_of_each lists)
choices_ascend R tied [] a = (λ y h. absurd h, tt)
choices_ascend {X} R tied (xs ∷ lists) a =
    ascends_flat R (slice_cmp R) (λ x. map (headed x) (one_of_each lists)) xs
    (λ x h. ascends_map (slice_cmp R) (slice_cmp R) (headed x) (one_of_each lists) (λ u v hu hv e. head_same R x u v (tied x) ∙ e) (choices_ascend R tied lists a.1))
    (λ x y u v hx hy e h k.
    let m = mapped (headed x) (one_of_each lists) u h in
    let n = mapped (headed y) (one_of_each lists) v k in
    subst (λ (w : List X). slice_cmp R w v ≡ Less) m.2 (subst (λ (w : List X). slice_cmp R (headed x m.0) w ≡ Less) n.2 (head_less R x y m.0 n.0 e)))
    a.0
