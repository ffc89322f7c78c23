-- What a taken token does to the lists that are still to come.
use Rattle.std.proofs.Common.{◌≡◌, ℕ, suc, ◌<◌, ◌≤◌, true, false, List, [], ◌∷◌, length, drop, refl, sym, subst, arith}
use Rattle.kat_walk.specs.Machines.{Held, Machine}
use Rattle.kat_walk.specs.Walks.{IsBehind, IsReady, Moves, opened, top_left, with_taken, without_top}
use Rattle.kat_walk.proofs.TurnLemmas.{lighter_deeper, lighter_taken, turn_dead, turn_deeper, turn_word, turned}

dead_at : {S T : Type 0} (m : Machine S T) (most : ℕ) (s b : S) (c t u : T) (us : List T) (below : List (Held S T)) → t ≡ u → b ≡ m.step s t → m.done b ≡ false
    → most ≤ suc (length below) → Moves m most (turned s c (u ∷ us) ∷ below) (turned s t us ∷ below)
dead_at m most s b c t u us below e is d k =
    subst (λ (x : _). Moves m most (turned s c (x ∷ us) ∷ below) (turned s t us ∷ below)) e
    (record { same = turn_dead m most s c t us below (subst (λ (x : _). m.done x ≡ false) is d) k; lighter = lighter_taken m most s c t us below })

deeper_at : {S T : Type 0} (m : Machine S T) (most : ℕ) (s b : S) (c t u : T) (us : List T) (below : List (Held S T)) → t ≡ u → b ≡ m.step s t → m.done b ≡ false
    → suc (length below) < most → Moves m most (turned s c (u ∷ us) ∷ below) (opened m b t ∷ turned s t us ∷ below)
deeper_at m most s b c t u us below e is d k =
    subst (λ (x : _). Moves m most (turned s c (x ∷ us) ∷ below) (opened m b t ∷ turned s t us ∷ below)) e
    (subst (λ (x : _). Moves m most (turned s c (t ∷ us) ∷ below) (opened m x t ∷ turned s t us ∷ below)) (sym is)
    (record { same = turn_deeper m most s c t t us below (subst (λ (x : _). m.done x ≡ false) is d) k; lighter = lighter_deeper m most s c t t us below k }))

ready_at : {S T : Type 0} (m : Machine S T) (most : ℕ) (s b : S) (c t u : T) (us : List T) (below : List (Held S T)) → t ≡ u → b ≡ m.step s t → m.done b ≡ true
    → IsReady m most (turned s c (u ∷ us) ∷ below) t
ready_at m most s b c t u us below e is d =
    subst (λ (x : _). IsReady m most (turned s c (x ∷ us) ∷ below) t) e
    (record { some = omega arith; left = omega arith; first = (us, refl); next = turn_word m most s c t us below (subst (λ (x : _). m.done x ≡ true) is d) })

ready_from : {S T : Type 0} (m : Machine S T) (most : ℕ) (s : S) (c : T) (l : List T) (below : List (Held S T)) (b : S) (t : T) (ts : List T) → b ≡ m.step s t → l ≡ t ∷ ts
    → m.done b ≡ true → IsReady m most (turned s c l ∷ below) t
ready_from m most s c [] below b t ts is e d = absurd cc
ready_from m most s c (u ∷ us) below b t ts is e d = let f : t ≡ u = cc in ready_at m most s b c t u us below f is d

pub is_ready : {S T : Type 0} (m : Machine S T) (most : ℕ) (old : List (Held S T)) (b : S) (t : T) (ts : List T) → 0 < length old → IsBehind m t old b → top_left old ≡ t ∷ ts
    → m.done b ≡ true → IsReady m most old t
is_ready m most [] b t ts k is e d = absurd (omega arith)
is_ready m most (h ∷ below) b t ts k is e d = ready_from m most h.state h.chosen h.left below b t ts is e d

dead_from : {S T : Type 0} (m : Machine S T) (most : ℕ) (s : S) (c : T) (l : List T) (below : List (Held S T)) (b : S) (t : T) (ts : List T) → b ≡ m.step s t → l ≡ t ∷ ts
    → m.done b ≡ false → most ≤ suc (length below) → Moves m most (turned s c l ∷ below) (turned s t (drop 1 l) ∷ below)
dead_from m most s c [] below b t ts is e d k = absurd cc
dead_from m most s c (u ∷ us) below b t ts is e d k = let f : t ≡ u = cc in dead_at m most s b c t u us below f is d k

pub dead_taken : {S T : Type 0} (m : Machine S T) (most : ℕ) (old new : List (Held S T)) (b : S) (t : T) (ts : List T) → IsBehind m t old b → top_left old ≡ t ∷ ts
    → m.done b ≡ false → most ≤ length old → new ≡ with_taken t old → Moves m most old new
dead_taken m most [] new b t ts is e d k n = absurd cc
dead_taken m most (h ∷ below) new b t ts is e d k n =
    subst (λ (l : _). Moves m most (h ∷ below) l) (sym n) (dead_from m most h.state h.chosen h.left below b t ts is e d k)

deeper_from : {S T : Type 0} (m : Machine S T) (most : ℕ) (s : S) (c : T) (l : List T) (below : List (Held S T)) (b : S) (t : T) (ts : List T) → b ≡ m.step s t → l ≡ t ∷ ts
    → m.done b ≡ false → suc (length below) < most → Moves m most (turned s c l ∷ below) (opened m b t ∷ turned s t (drop 1 l) ∷ below)
deeper_from m most s c [] below b t ts is e d k = absurd cc
deeper_from m most s c (u ∷ us) below b t ts is e d k = let f : t ≡ u = cc in deeper_at m most s b c t u us below f is d k

pub deeper_taken : {S T : Type 0} (m : Machine S T) (most : ℕ) (old new : List (Held S T)) (b : S) (t : T) (ts : List T) → IsBehind m t old b → top_left old ≡ t ∷ ts
    → m.done b ≡ false → length old < most → new ≡ opened m b t ∷ with_taken t old → Moves m most old new
deeper_taken m most [] new b t ts is e d k n = absurd cc
deeper_taken m most (h ∷ below) new b t ts is e d k n =
    subst (λ (l : _). Moves m most (h ∷ below) l) (sym n) (deeper_from m most h.state h.chosen h.left below b t ts is e d k)

up_from : {S T : Type 0} (m : Machine S T) (most : ℕ) (s : S) (c : T) (l : List T) (below : List (Held S T)) → l ≡ [] → Moves m most (turned s c l ∷ below) below
up_from m most s c [] below e = record { same = refl; lighter = omega arith }
up_from m most s c (u ∷ us) below e = absurd cc

pub given_up : {S T : Type 0} (m : Machine S T) (most : ℕ) (old new : List (Held S T)) → 0 < length old → top_left old ≡ [] → new ≡ without_top old → Moves m most old new
given_up m most [] new k e n = absurd (omega arith)
given_up m most (h ∷ below) new k e n = subst (λ (l : _). Moves m most (h ∷ below) l) (sym n) (up_from m most h.state h.chosen h.left below e)
