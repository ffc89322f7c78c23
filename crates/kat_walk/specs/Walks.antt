-- Used inside only.
-- What a walk's code does, over the list of its open places, the last one first.
use Rattle.std.specs.Prelude.{◌≡◌, ℕ, ◌<◌, List, [], ◌∷◌, map, reverse, drop, length, Result, Ok, Err, Option, None, Some}
use Rattle.kat_walk.specs.Machines.{Held, Machine, coming, path, unroll, weight}
use Rattle.kat_walk.specs.declared.turns.Frame.{Frame}
use Rattle.kat_walk.specs.declared.turns.Turn.{Turn}
use Rattle.kat_walk.specs.declared.turns.Turn.TheVariants.{Ended, Moved, Word}

abbrev pub held : {S T : Type 0} → Frame S T → Held S T
held f = record { state = f.state; chosen = f.chosen; left = drop f.at f.tokens.items }

abbrev pub stack_of : {S T : Type 0} → List (Frame S T) → List (Held S T)
stack_of frames = reverse (map held frames)

abbrev pub top_left : {S T : Type 0} → List (Held S T) → List T
top_left [] = []
top_left (h ∷ below) = h.left

abbrev pub without_top : {S T : Type 0} → List (Held S T) → List (Held S T)
without_top [] = []
without_top (h ∷ below) = below

-- the first token left on top is taken
abbrev pub with_taken : {S T : Type 0} → T → List (Held S T) → List (Held S T)
with_taken t [] = []
with_taken t (h ∷ below) = record { state = h.state; chosen = t; left = drop 1 h.left } ∷ below

-- the same below the top
abbrev pub below_taken : {S T : Type 0} → T → List (Held S T) → List (Held S T)
below_taken t [] = []
below_taken t (h ∷ below) = h ∷ with_taken t below

-- the state is what the token leads to on top
abbrev pub IsBehind : {S T : Type 0} → Machine S T → T → List (Held S T) → S → Type 0
IsBehind m t [] s = Unit {0}
IsBehind m t (h ∷ below) s = s ≡ m.step h.state t

pub record Moves {S T : Type 0} (m : Machine S T) (most : ℕ) (old new : List (Held S T)) : Type 0 where
  pub same : coming m most old ≡ coming m most new
  pub lighter : weight m most new < weight m most old

-- the token is the first one left on top, and the next list ends with it
pub record IsReady {S T : Type 0} (m : Machine S T) (most : ℕ) (stack : List (Held S T)) (t : T) : Type 0 where
  pub some : 0 < length stack
  pub left : 0 < length (top_left stack)
  pub first : (rest : List T) × (top_left stack ≡ t ∷ rest)
  pub next : coming m most stack ≡ unroll (path (with_taken t stack)) [] ∷ coming m most (with_taken t stack)

abbrev pub Turns : {S T E : Type 0} → Machine S T → ℕ → List (Held S T) → List (Held S T) → Result (Turn T) E → Type 0
Turns m most old new (Ok Ended) = (old ≡ []) × (new ≡ [])
Turns m most old new (Ok Moved) = Moves m most old new
Turns m most old new (Ok (Word t)) = (coming m most old ≡ coming m most new) × IsReady m most new t
Turns m most old new (Err e) = coming m most old ≡ coming m most new

-- the place after a state, at which no token was taken yet
abbrev pub opened : {S T : Type 0} → Machine S T → S → T → Held S T
opened m s t = record { state = s; chosen = t; left = m.allowed s }

-- nothing is lost: the token is the last one of the next list, or no list is to come
abbrev pub Advances : {S T E : Type 0} → Machine S T → ℕ → List (Held S T) → List (Held S T) → Result (Option T) E → Type 0
Advances m most old new (Ok None) = (coming m most old ≡ []) × (coming m most new ≡ [])
Advances m most old new (Ok (Some t)) = (coming m most old ≡ coming m most new) × IsReady m most new t
Advances m most old new (Err e) = coming m most old ≡ coming m most new

-- a walk as contracts see it: how long a list may be, and the open places, the last one first
pub record Pending (S T : Type 0) : Type 0 where
  pub most : ℕ
  pub stack : List (Held S T)

abbrev pub pending : {S T : Type 0} → ℕ → List (Frame S T) → Pending S T
pending most frames = record { most = most; stack = stack_of frames }

-- the lists that a walk still has to give, in their order
abbrev pub to_come : {S T : Type 0} → Machine S T → Pending S T → List (List T)
to_come m walk = coming m walk.most walk.stack

-- the only open place is that state, with all tokens that may follow still to be taken
abbrev pub IsFirst : {S T : Type 0} → Machine S T → S → List (Held S T) → Type 0
IsFirst m s [] = m.allowed s ≡ []
IsFirst m s (h ∷ below) = (h.state ≡ s) × (h.left ≡ m.allowed s) × (below ≡ [])

-- the first of the lists was given, and the others are still to come; nothing is given only at the end
abbrev pub Hands : {T : Type 0} → List (List T) → List (List T) → Option (List T) → Type 0
Hands old new None = (old ≡ []) × (new ≡ [])
Hands old new (Some w) = old ≡ w ∷ new
