-- Members of lists that are made of others.
use Rattle.std.proofs.Common.{◌≡◌, inl, inr, ⊎_elim, List, [], ◌∷◌, map, refl, sym, ◌∙◌, ap, subst, Bool, true, false, ◌||◌}
use Rattle.std.specs.List.{flat_map, list_any}
use Rattle.kat_type.specs.Lists.{Has}
use Rattle.kat_type.proofs.Lists.{has_behind, has_either, has_front}

pub has_map : {X Y : Type 0} (f : X → Y) (xs : List X) (x : X) → Has xs x → Has (map f xs) (f x)
has_map f [] x h = absurd h
has_map f (y ∷ xs) x (inl e) = inl (ap f e)
has_map f (y ∷ xs) x (inr h) = inr (has_map f xs x h)

pub mapped : {X Y : Type 0} (f : X → Y) (xs : List X) (y : Y) → Has (map f xs) y → (x : X) × Has xs x × (f x ≡ y)
mapped f [] y h = absurd h
mapped f (x ∷ xs) y (inl e) = (x, inl refl, e)
mapped f (x ∷ xs) y (inr h) = let r = mapped f xs y h in (r.0, inr r.1, r.2)

pub has_flat : {X Y : Type 0} (f : X → List Y) (xs : List X) (x : X) (y : Y) → Has xs x → Has (f x) y → Has (flat_map f xs) y
has_flat f [] x y h k = absurd h
has_flat f (z ∷ xs) x y (inl e) k = has_front (f z) (flat_map f xs) y (subst (λ w. Has (f w) y) (sym e) k)
has_flat f (z ∷ xs) x y (inr h) k = has_behind (f z) (flat_map f xs) y (has_flat f xs x y h k)

pub flat_has : {X Y : Type 0} (f : X → List Y) (xs : List X) (y : Y) → Has (flat_map f xs) y → (x : X) × Has xs x × Has (f x) y
flat_has f [] y h = absurd h
flat_has {X} {Y} f (x ∷ xs) y h =
    ⊎_elim (λ (k : Has (f x) y). (x, inl refl, k)) (λ (k : Has (flat_map f xs) y). let r = flat_has f xs y k in (r.0, inr r.1, r.2)) (has_either (f x) (flat_map f xs) y h)

-- a test that some element passes
pub any_at : {X : Type 0} (p : X → Bool) (xs : List X) (x : X) → Has xs x → p x ≡ true → list_any p xs ≡ true
any_at p [] x h e = absurd h
any_at p (y ∷ xs) x (inl i) e = first (p y) (list_any p xs) (ap p i ∙ e) where
  first : (a b : Bool) → a ≡ true → (a || b) ≡ true
  first true b h = refl
  first false b h = absurd (cc h)
any_at p (y ∷ xs) x (inr h) e = second (p y) (list_any p xs) (any_at p xs x h e) where
  second : (a b : Bool) → b ≡ true → (a || b) ≡ true
  second true b h = refl
  second false b h = h

first_passes : {X : Type 0} (p : X → Bool) (y : X) (xs : List X) (b : Bool) → p y ≡ b → (b || list_any p xs) ≡ true → (list_any p xs ≡ true → (x : X) × Has xs x × (p x ≡ true))
    → (x : X) × Has (y ∷ xs) x × (p x ≡ true)
first_passes p y xs true is h more = (y, inl refl, is)
first_passes p y xs false is h more = let r = more h in (r.0, inr r.1, r.2)

pub at_any : {X : Type 0} (p : X → Bool) (xs : List X) → list_any p xs ≡ true → (x : X) × Has xs x × (p x ≡ true)
at_any p [] e = absurd (cc e)
at_any p (y ∷ xs) e = first_passes p y xs (p y) refl e (λ h. at_any p xs h)
