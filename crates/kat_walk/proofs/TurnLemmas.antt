-- What one turn of a walk does to the lists that are still to come.
use Rattle.std.proofs.Common.{◌≡◌, ℕ, zero, suc, ◌-◌, ◌<◌, ◌≤◌, true, false, List, [], ◌∷◌, ◌++◌, map, length, refl, ◌∙◌, ap, arith, append_assoc}
use Rattle.std.proofs.lemmas.List.{map-append}
use Rattle.kat_walk.specs.Machines.{Held, Machine, coming, heft, path, sprout, unroll, weight, words}

abbrev pub turned : {S T : Type 0} → S → T → List T → Held S T
turned s t ts = record { state = s; chosen = t; left = ts }

words_done : {S T : Type 0} (m : Machine S T) (f : ℕ) (s : S) → m.done s ≡ true → words m f s ≡ [] ∷ []
words_done m zero s h = rw h refl
words_done m (suc f) s h = rw h refl

words_open : {S T : Type 0} (m : Machine S T) (f : ℕ) (s : S) → m.done s ≡ false → words m (suc f) s ≡ sprout (λ t. words m f (m.step s t)) (m.allowed s)
words_open m f s h = rw h refl

words_shut : {S T : Type 0} (m : Machine S T) (s : S) → m.done s ≡ false → words m zero s ≡ []
words_shut m s h = rw h refl

map_map : {X Y Z : Type 0} (g : Y → Z) (h : X → Y) (xs : List X) → map g (map h xs) ≡ map (λ x. g (h x)) xs
map_map g h [] = refl
map_map g h (x ∷ xs) = ap (λ l. g (h x) ∷ l) (map_map g h xs)

-- the first token of those left is taken
taken : {S T : Type 0} (m : Machine S T) (most : ℕ) (s : S) (c t : T) (ts : List T) (below : List (Held S T))
    → coming m most (turned s c (t ∷ ts) ∷ below)
    ≡ map (λ w. unroll (path below) (t ∷ w)) (words m (most - suc (length below)) (m.step s t)) ++ coming m most (turned s t ts ∷ below)
taken {S} {T} m most s c t ts below =
    let g = λ (u : T). words m (most - suc (length below)) (m.step s u) in
    ap (λ l. l ++ coming m most below) (map-append (unroll (path below)) (map (λ w. t ∷ w) (g t)) (sprout g ts))
    ∙ append_assoc (map (unroll (path below)) (map (λ w. t ∷ w) (g t))) (map (unroll (path below)) (sprout g ts)) (coming m most below)
    ∙ ap (λ l. l ++ coming m most (turned s t ts ∷ below)) (map_map (unroll (path below)) (λ w. t ∷ w) (g t))

pub turn_word : {S T : Type 0} (m : Machine S T) (most : ℕ) (s : S) (c t : T) (ts : List T) (below : List (Held S T)) → m.done (m.step s t) ≡ true
    → coming m most (turned s c (t ∷ ts) ∷ below) ≡ unroll (path (turned s t ts ∷ below)) [] ∷ coming m most (turned s t ts ∷ below)
turn_word m most s c t ts below h =
    taken m most s c t ts below
    ∙ ap (λ l. map (λ w. unroll (path below) (t ∷ w)) l ++ coming m most (turned s t ts ∷ below)) (words_done m (most - suc (length below)) (m.step s t) h)

pub turn_dead : {S T : Type 0} (m : Machine S T) (most : ℕ) (s : S) (c t : T) (ts : List T) (below : List (Held S T)) → m.done (m.step s t) ≡ false
    → most ≤ suc (length below) → coming m most (turned s c (t ∷ ts) ∷ below) ≡ coming m most (turned s t ts ∷ below)
turn_dead m most s c t ts below h k =
    let none : most - suc (length below) ≡ zero = omega arith in
    taken m most s c t ts below
    ∙ ap (λ l. map (λ w. unroll (path below) (t ∷ w)) l ++ coming m most (turned s t ts ∷ below))
    (ap (λ f. words m f (m.step s t)) none ∙ words_shut m (m.step s t) h)

pub turn_deeper : {S T : Type 0} (m : Machine S T) (most : ℕ) (s : S) (c d t : T) (ts : List T) (below : List (Held S T)) → m.done (m.step s t) ≡ false
    → suc (length below) < most
    → coming m most (turned s c (t ∷ ts) ∷ below) ≡ coming m most (turned (m.step s t) d (m.allowed (m.step s t)) ∷ turned s t ts ∷ below)
turn_deeper m most s c d t ts below h k =
    let some : most - suc (length below) ≡ suc (most - suc (suc (length below))) = omega arith in
    taken m most s c t ts below
    ∙ ap (λ l. map (λ w. unroll (path below) (t ∷ w)) l ++ coming m most (turned s t ts ∷ below))
    (ap (λ f. words m f (m.step s t)) some ∙ words_open m (most - suc (suc (length below))) (m.step s t) h)

-- each turn makes a walk lighter
pub lighter_taken : {S T : Type 0} (m : Machine S T) (most : ℕ) (s : S) (c t : T) (ts : List T) (below : List (Held S T))
    → weight m most (turned s t ts ∷ below) < weight m most (turned s c (t ∷ ts) ∷ below)
lighter_taken m most s c t ts below = omega arith

pub lighter_deeper : {S T : Type 0} (m : Machine S T) (most : ℕ) (s : S) (c d t : T) (ts : List T) (below : List (Held S T)) → suc (length below) < most
    → weight m most (turned (m.step s t) d (m.allowed (m.step s t)) ∷ turned s t ts ∷ below) < weight m most (turned s c (t ∷ ts) ∷ below)
lighter_deeper m most s c d t ts below k =
    let some : most - suc (length below) ≡ suc (most - suc (suc (length below))) = omega arith in
    let e : heft m (most - suc (length below)) (m.step s t) ≡ heft m (suc (most - suc (suc (length below)))) (m.step s t) = ap (λ f. heft m f (m.step s t)) some in
    omega arith
