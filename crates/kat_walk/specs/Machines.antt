-- Machines over tokens, the lists that they accept, and the walk over these lists.
use Rattle.std.specs.Prelude.{◌≡◌, ℕ, zero, suc, ◌+◌, ◌-◌, ◌⊎◌, Bool, true, false, List, [], ◌∷◌, ◌++◌, map, length, if◌then◌else◌}

-- a machine that reads tokens: which may follow, what each leads to, and whether a list ends here
pub record Machine (S T : Type 0) : Type 0 where
  pub allowed : S → List T
  pub step : S → T → S
  pub done : S → Bool

-- the lists that begin with one of the tokens and go on as told
abbrev pub sprout : {T : Type 0} → (T → List (List T)) → List T → List (List T)
sprout g [] = []
sprout g (t ∷ ts) = map (λ w. t ∷ w) (g t) ++ sprout g ts

-- the lists of at most so many tokens that the machine accepts, in their order
abbrev pub words : {S T : Type 0} → Machine S T → ℕ → S → List (List T)
words m zero s = if m.done s then [] ∷ [] else []
words m (suc f) s = if m.done s then [] ∷ [] else sprout (λ t. words m f (m.step s t)) (m.allowed s)

abbrev pub IsOneOf : {X : Type 0} → X → List X → Type 0
IsOneOf x [] = ⊥
IsOneOf x (y ∷ ys) = (x ≡ y) ⊎ IsOneOf x ys

-- the machine reads the list, and ends at its end and not before
abbrev pub Accepts : {S T : Type 0} → Machine S T → S → List T → Type 0
Accepts m s [] = m.done s ≡ true
Accepts m s (t ∷ w) = (m.done s ≡ false) × IsOneOf t (m.allowed s) × Accepts m (m.step s t) w

-- lists are compared at the first place where they differ
abbrev pub IsLess : {T : Type 0} → (T → T → Type 0) → List T → List T → Type 0
IsLess less [] [] = ⊥
IsLess less [] (b ∷ v) = Unit {0}
IsLess less (a ∷ u) [] = ⊥
IsLess less (a ∷ u) (b ∷ v) = less a b ⊎ ((a ≡ b) × IsLess less u v)

abbrev pub Ascends : {X : Type 0} → (X → X → Type 0) → List X → Type 0
Ascends less [] = Unit {0}
Ascends less (w ∷ ws) = ((v : _) → IsOneOf v ws → less w v) × Ascends less ws

-- one open place of a walk: where the machine is, the token taken from there, and those still to be taken
pub record Held (S T : Type 0) : Type 0 where
  pub state : S
  pub chosen : T
  pub left : List T

-- the tokens taken, the last one first
abbrev pub path : {S T : Type 0} → List (Held S T) → List T
path [] = []
path (h ∷ below) = h.chosen ∷ path below

abbrev pub unroll : {T : Type 0} → List T → List T → List T
unroll [] w = w
unroll (t ∷ back) w = unroll back (t ∷ w)

-- the lists that are still to come, in their order
abbrev pub coming : {S T : Type 0} → Machine S T → ℕ → List (Held S T) → List (List T)
coming m most [] = []
coming m most (h ∷ below) = map (unroll (path below)) (sprout (λ t. words m (most - suc (length below)) (m.step h.state t)) h.left) ++ coming m most below

-- how many turns a walk can still take, at most
abbrev pub load : {T : Type 0} → (T → ℕ) → List T → ℕ
load g [] = 1
load g (t ∷ ts) = suc (g t + load g ts)

abbrev pub heft : {S T : Type 0} → Machine S T → ℕ → S → ℕ
heft m zero s = 0
heft m (suc f) s = load (λ t. heft m f (m.step s t)) (m.allowed s)

abbrev pub weight : {S T : Type 0} → Machine S T → ℕ → List (Held S T) → ℕ
weight m most [] = 0
weight m most (h ∷ below) = load (λ t. heft m (most - suc (length below)) (m.step h.state t)) h.left + weight m most below

-- the machine's states from here on are sound, and the tokens that may follow a sound one ascend
pub record AscendsFrom {S T : Type 0} (less : T → T → Type 0) (m : Machine S T) (sound : S → Type 0) : Type 0 where
  pub keeps : (s : S) (t : T) → sound s → sound (m.step s t)
  pub ascends : (s : S) → sound s → Ascends less (m.allowed s)
