-- The words of a machine are exactly the accepted lists, ascending.
use Rattle.std.proofs.Common.{◌≡◌, ℕ, zero, suc, ◌≤◌, ◌⊎◌, inl, inr, Bool, true, false, List, [], ◌∷◌, ◌++◌, map, length, refl, sym, ap, subst, arith, if◌then◌else◌}
use Rattle.kat_walk.specs.Machines.{Machine, Accepts, Ascends, AscendsFrom, IsLess, IsOneOf, sprout, words}

pub one_left : {X : Type 0} (x : X) (xs ys : List X) → IsOneOf x xs → IsOneOf x (xs ++ ys)
one_left x [] ys h = absurd h
one_left x (y ∷ xs) ys (inl e) = inl e
one_left x (y ∷ xs) ys (inr h) = inr (one_left x xs ys h)

pub one_right : {X : Type 0} (x : X) (xs ys : List X) → IsOneOf x ys → IsOneOf x (xs ++ ys)
one_right x [] ys h = h
one_right x (y ∷ xs) ys h = inr (one_right x xs ys h)

pub one_cases : {X : Type 0} (x : X) (xs ys : List X) → IsOneOf x (xs ++ ys) → IsOneOf x xs ⊎ IsOneOf x ys
one_cases x [] ys h = inr h
one_cases x (y ∷ xs) ys (inl e) = inl (inl e)
one_cases x (y ∷ xs) ys (inr h) = elim (one_cases x xs ys h) as (λ _. IsOneOf x (y ∷ xs) ⊎ IsOneOf x ys) [ inl l ↦ inl (inr l) | inr r ↦ inr r ]

pub one_mapped : {X Y : Type 0} (g : X → Y) (x : X) (xs : List X) → IsOneOf x xs → IsOneOf (g x) (map g xs)
one_mapped g x [] h = absurd h
one_mapped g x (y ∷ xs) (inl e) = inl (ap g e)
one_mapped g x (y ∷ xs) (inr h) = inr (one_mapped g x xs h)

pub one_from : {X Y : Type 0} (g : X → Y) (y : Y) (xs : List X) → IsOneOf y (map g xs) → (x : X) × (y ≡ g x) × IsOneOf x xs
one_from g y [] h = absurd h
one_from g y (x ∷ xs) (inl e) = (x, e, inl refl)
one_from g y (x ∷ xs) (inr h) = let more = one_from g y xs h in (more.0, more.1, inr more.2)

-- what begins with one of the tokens and goes on as told
pub sprouts : {T : Type 0} (g : T → List (List T)) (t : T) (w : List T) (ts : List T) → IsOneOf t ts → IsOneOf w (g t) → IsOneOf (t ∷ w) (sprout g ts)
sprouts g t w [] h k = absurd h
sprouts {T} g t w (u ∷ ts) (inl e) k =
    one_left (t ∷ w) (map (λ v. u ∷ v) (g u)) (sprout g ts)
    (subst (λ (x : T). IsOneOf (t ∷ w) (map (λ v. x ∷ v) (g x))) e (one_mapped (λ v. t ∷ v) w (g t) k))
sprouts g t w (u ∷ ts) (inr h) k = one_right (t ∷ w) (map (λ v. u ∷ v) (g u)) (sprout g ts) (sprouts g t w ts h k)

pub record Sprouted {T : Type 0} (g : T → List (List T)) (w : List T) (ts : List T) : Type 0 where
  pub first : T
  pub rest : List T
  pub is : w ≡ first ∷ rest
  pub among : IsOneOf first ts
  pub goes : IsOneOf rest (g first)

pub sprouted : {T : Type 0} (g : T → List (List T)) (w : List T) (ts : List T) → IsOneOf w (sprout g ts) → Sprouted g w ts
sprouted g w [] h = absurd h
sprouted g w (u ∷ ts) h =
    elim (one_cases w (map (λ v. u ∷ v) (g u)) (sprout g ts) h) as (λ _. Sprouted g w (u ∷ ts)) [
      | inl l ↦ (let from = one_from (λ v. u ∷ v) w (g u) l in record { first = u; rest = from.0; is = from.1; among = inl refl; goes = from.2 })
      | inr r ↦ (let more = sprouted g w ts r in record { first = more.first; rest = more.rest; is = more.is; among = inr more.among; goes = more.goes })
    ]

-- every word is accepted
found_open : {S T : Type 0} (m : Machine S T) (f : ℕ) (s : S) (w : List T) (b : Bool) → m.done s ≡ b
    → ((t : T) (v : List T) → IsOneOf v (words m f (m.step s t)) → Accepts m (m.step s t) v)
    → IsOneOf w (if b then [] ∷ [] else sprout (λ t. words m f (m.step s t)) (m.allowed s)) → Accepts m s w
found_open m f s w true e more (inl h) = subst (λ (v : List _). Accepts m s v) (sym h) e
found_open m f s w true e more (inr h) = absurd h
found_open m f s w false e more h =
    let o = sprouted (λ t. words m f (m.step s t)) w (m.allowed s) h in
    subst (λ (v : List _). Accepts m s v) (sym o.is) (e, o.among, more o.first o.rest o.goes)

found_shut : {S T : Type 0} (m : Machine S T) (s : S) (w : List T) (b : Bool) → m.done s ≡ b → IsOneOf w (if b then [] ∷ [] else []) → Accepts m s w
found_shut m s w true e (inl h) = subst (λ (v : List _). Accepts m s v) (sym h) e
found_shut m s w true e (inr h) = absurd h
found_shut m s w false e h = absurd h

pub word_accepted : {S T : Type 0} (m : Machine S T) (f : ℕ) (s : S) (w : List T) → IsOneOf w (words m f s) → Accepts m s w
word_accepted m zero s w h = found_shut m s w (m.done s) refl h
word_accepted m (suc f) s w h = found_open m f s w (m.done s) refl (λ t v k. word_accepted m f (m.step s t) v k) h

-- every accepted list that isn't too long is a word
ended : {S T : Type 0} (m : Machine S T) (f : ℕ) (s : S) → m.done s ≡ true → IsOneOf [] (words m f s)
ended m zero s h = rw h (inl refl)
ended m (suc f) s h = rw h (inl refl)

pub accepted_word : {S T : Type 0} (m : Machine S T) (f : ℕ) (s : S) (w : List T) → Accepts m s w → length w ≤ f → IsOneOf w (words m f s)
accepted_word m f s [] a h = ended m f s a
accepted_word m zero s (t ∷ w) a h = absurd (omega arith)
accepted_word m (suc f) s (t ∷ w) a h =
    rw a.0 (sprouts (λ u. words m f (m.step s u)) t w (m.allowed s) a.1 (accepted_word m f (m.step s t) w a.2 (omega arith)))

-- the words ascend
pub ascend_joined : {X : Type 0} (less : X → X → Type 0) (xs ys : List X) → Ascends less xs → Ascends less ys
    → ((x y : X) → IsOneOf x xs → IsOneOf y ys → less x y) → Ascends less (xs ++ ys)
ascend_joined less [] ys a b c = b
ascend_joined less (x ∷ xs) ys a b c = (
  λ v h. elim (one_cases v xs ys h) as (λ _. less x v) [ inl l ↦ a.0 v l | inr r ↦ c x v (inl refl) r ],
  ascend_joined less xs ys a.1 b (λ u v p q. c u v (inr p) q),
)

ascend_behind : {T : Type 0} (less : T → T → Type 0) (t : T) (ws : List (List T)) → Ascends (IsLess less) ws → Ascends (IsLess less) (map (λ w. t ∷ w) ws)
ascend_behind less t [] a = tt
ascend_behind less t (w ∷ ws) a = (
  λ v h.
      let from = one_from (λ u. t ∷ u) v ws h in
      subst (λ (u : List _). IsLess less (t ∷ w) u) (sym from.1) (inr (refl, a.0 from.0 from.2)),
  ascend_behind less t ws a.1,
)

less_by_first : {T : Type 0} (less : T → T → Type 0) (t u : T) (v w x y : List T) → x ≡ t ∷ v → y ≡ u ∷ w → less t u → IsLess less x y
less_by_first less t u v w x y e f h = rw (e, f) (inl h)

pub ascend_sprout : {T : Type 0} (less : T → T → Type 0) (g : T → List (List T)) (ts : List T) → Ascends less ts → ((t : T) → Ascends (IsLess less) (g t)) → Ascends (IsLess less) (sprout g ts)
ascend_sprout less g [] a b = tt
ascend_sprout less g (t ∷ ts) a b =
    ascend_joined (IsLess less) (map (λ w. t ∷ w) (g t)) (sprout g ts) (ascend_behind less t (g t) (b t)) (ascend_sprout less g ts a.1 b)
    (λ x y p q.
    let from = one_from (λ u. t ∷ u) x (g t) p in
    let other = sprouted g y ts q in
    less_by_first less t other.first from.0 other.rest x y from.1 other.is (a.0 other.first other.among))

ascend_if : {T : Type 0} (less : T → T → Type 0) (b : Bool) (ws : List (List T)) → Ascends (IsLess less) ws → Ascends (IsLess less) (if b then [] ∷ [] else ws)
ascend_if less true ws a = (λ v h. absurd h, tt)
ascend_if less false ws a = a

pub words_ascend : {S T : Type 0} (less : T → T → Type 0) (m : Machine S T) (sound : S → Type 0) → AscendsFrom less m sound → (f : ℕ) (s : S) → sound s → Ascends (IsLess less) (words m f s)
words_ascend less m sound laws zero s h = ascend_if less (m.done s) [] tt
words_ascend less m sound laws (suc f) s h =
    ascend_if less (m.done s) (sprout (λ t. words m f (m.step s t)) (m.allowed s))
    (ascend_sprout less (λ t. words m f (m.step s t)) (m.allowed s) (laws.ascends s h) (λ t. words_ascend less m sound laws f (m.step s t) (laws.keeps s t h)))
