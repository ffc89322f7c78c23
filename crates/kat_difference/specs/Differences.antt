-- Used inside only.
-- What a value has that isn't known: the least value that, joined to what is known, gives what the value itself gives there (Enes,
-- Almeida, Baquero and Leitão 2019).
use Rattle.std.specs.Prelude.{◌≡◌, Option, Some, None}
use Rattle.kat_join.specs.JoinLaws.{IsBelow}

-- the value is at or above the start
pub record IsFrom {L : Type 0} (kin : L → L → Type 0) (joined : L → L → L) (start value : L) : Type 0 where
  pub goes : kin start value
  pub own : joined start value ≡ value

-- the difference is at or above the start; joined to what is known it gives what the value gives; and it isn't known
pub record Tells {L : Type 0} (kin : L → L → Type 0) (joined : L → L → L) (start known value difference : L) : Type 0 where
  pub from : IsFrom kin joined start difference
  pub same : joined known difference ≡ joined known value
  pub new : IsBelow joined difference known → ⊥

-- the difference is at or below each value that does as much
pub record IsLeast {L : Type 0} (kin : L → L → Type 0) (joined : L → L → L) (start known value difference : L) : Type 0 where
  pub below : (other : L) → IsFrom kin joined start other → joined known other ≡ joined known value → IsBelow joined difference other

-- What the value has that isn't known: nothing, if it is at or below what is known; else a difference that tells it, which is the
-- least one if that is promised.
abbrev pub Lacks : {L : Type 0} → (L → L → Type 0) → (L → L → L) → Type 0 → L → L → L → Option L → Type 0
Lacks kin joined exact start known value None = IsBelow joined value known
Lacks kin joined exact start known value (Some difference) =
    Tells kin joined start known value difference × (exact → IsLeast kin joined start known value difference)

-- What is told, or the start if nothing is, serves in place of the value: it is at or above the start; joined to what is known it
-- gives what the value gives; it is the start if the value is known; and it is the least that does so, if that is promised.
pub record Serves {L : Type 0} (kin : L → L → Type 0) (joined : L → L → L) (exact : Type 0) (start known value told : L) : Type 0 where
  pub from : IsFrom kin joined start told
  pub same : joined known told ≡ joined known value
  pub nothing : IsBelow joined value known → told ≡ start
  pub least : exact → IsLeast kin joined start known value told

-- nothing is told of a value that is known
abbrev pub TellsNothing : {L : Type 0} → (L → L → Type 0) → (L → L → L) → (L → Type 0) → Type 0
TellsNothing {L} kin joined exact = (start known value : L) (told : Option L) → IsFrom kin joined start known → IsFrom kin joined start value
    → Lacks kin joined (exact start) start known value told → IsBelow joined value known → told ≡ None

-- what serves beside a known value serves beside each value above it
abbrev pub ServesAbove : {L : Type 0} → (L → L → Type 0) → (L → L → L) → Type 0
ServesAbove {L} kin joined = (known value told above : L) → kin known told → kin known value → kin above known → IsBelow joined known above
    → joined known told ≡ joined known value → joined above told ≡ joined above value

-- used inside only: the value whole, or nothing if it is at or below what is known
abbrev pub IsWholeOrNone : {L : Type 0} → (L → L → L) → L → L → Option L → Type 0
IsWholeOrNone joined known value None = IsBelow joined value known
IsWholeOrNone joined known value (Some whole) = (whole ≡ value) × (IsBelow joined value known → ⊥)

-- used inside only: what was told, or the start if nothing was
abbrev pub IsFilled : {L : Type 0} → L → Option L → L → Type 0
IsFilled start None value = value ≡ start
IsFilled start (Some told) value = value ≡ told
