-- Used inside only.
-- Where a walk is, told by how many tokens are left at each of its open places.
use Rattle.std.specs.Prelude.{◌≡◌, ℕ, List, [], ◌∷◌, ◌++◌, map, reverse, length}
use Rattle.kat_walk.specs.Machines.{Held, Machine}

-- the state at which the next place opens
abbrev pub state_on : {S T : Type 0} → Machine S T → S → List (Held S T) → S
state_on m s [] = s
state_on m s (h ∷ below) = m.step h.state h.chosen

-- of the tokens that may follow some were taken, the last of them is the one that was chosen, and the others are left
pub record IsTaken {S T : Type 0} (m : Machine S T) (s : S) (h : Held S T) : Type 0 where
  pub state : h.state ≡ s
  pub earlier : List T
  pub all : m.allowed s ≡ earlier ++ h.chosen ∷ h.left

-- so at each open place of a walk from a state, the last one first
abbrev pub AreTaken : {S T : Type 0} → Machine S T → S → List (Held S T) → Type 0
AreTaken m s [] = Unit {0}
AreTaken m s (h ∷ below) = IsTaken m (state_on m s below) h × AreTaken m s below

-- the same, if nothing need be taken at the last place
abbrev pub AreOpen : {S T : Type 0} → Machine S T → S → List (Held S T) → Type 0
AreOpen m s [] = Unit {0}
AreOpen {S} {T} m s (h ∷ below) = (h.state ≡ state_on m s below) × ((earlier : List T) × (m.allowed h.state ≡ earlier ++ h.left)) × AreTaken m s below

-- a walk from a state stays one, and has then just given a list
abbrev pub KeepsOpen : {S T : Type 0} → Machine S T → List (Held S T) → List (Held S T) → Type 0
KeepsOpen {S} m old new = (s : S) → AreOpen m s old → AreOpen m s new

abbrev pub EndsTaken : {S T : Type 0} → Machine S T → List (Held S T) → List (Held S T) → Type 0
EndsTaken {S} m old new = (s : S) → AreOpen m s old → AreTaken m s new

-- how many tokens are left at each place, the first one first
abbrev pub count_left : {S T : Type 0} → Held S T → ℕ
count_left h = length h.left

abbrev pub counts_left : {S T : Type 0} → List (Held S T) → List ℕ
counts_left stack = reverse (map count_left stack)

-- these numbers say where a walk from a state is that has just given a list
pub record IsMark {S T : Type 0} (m : Machine S T) (s : S) (places : List ℕ) (stack : List (Held S T)) : Type 0 where
  pub taken : AreTaken m s stack
  pub counts : places ≡ counts_left stack

-- used inside only: the further places on top of others
abbrev pub LeadsTo : {S T : Type 0} → Machine S T → S → List ℕ → List (Held S T) → List (Held S T) → Type 0
LeadsTo m s [] below stack = below ≡ stack
LeadsTo {S} {T} m s (n ∷ places) below stack = (h : Held S T) × IsTaken m s h × (count_left h ≡ n) × LeadsTo m (m.step s h.chosen) places (h ∷ below) stack
