-- Used inside only.
-- What is open of a clause.
use Rattle.std.specs.Prelude.{◌≢◌, ℕ, ◌<◌, ℤ, pos, neg_ℤ, List, length, Bool, slice_index_or}
use Rattle.kat_clause.specs.declared.opens.Open.{Open}
use Rattle.kat_clause.specs.declared.opens.Open.TheVariants.{Nothing, One, Several}
use Rattle.kat_clause.specs.Literals.{code_of}
use Rattle.kat_clause.specs.Tables.{IsMarked}

-- the opposite of the literal at a place is marked
abbrev pub IsDeniedAt : List ℤ → List Bool → ℕ → Type 0
IsDeniedAt clause marks j = IsMarked marks (code_of (neg_ℤ (slice_index_or clause j (pos 0))))

-- the first literal that is open is at a place
abbrev pub IsFirstOpen : List ℤ → List Bool → ℕ → Type 0
IsFirstOpen clause marks i = (i < length clause) × (IsDeniedAt clause marks i → ⊥) × ((j : ℕ) → j < i → IsDeniedAt clause marks j)

-- after a place no other literal than the one there is open
abbrev pub IsAlone : List ℤ → List Bool → ℕ → Type 0
IsAlone clause marks i =
    (j : ℕ) → i < j → j < length clause → slice_index_or clause j (pos 0) ≢ slice_index_or clause i (pos 0) → IsDeniedAt clause marks j

-- no literal is open; one is, at its first place; or two different ones
abbrev pub Opens : List ℤ → List Bool → Open → Type 0
Opens clause marks Nothing = (j : ℕ) → j < length clause → IsDeniedAt clause marks j
Opens clause marks (One i) = IsFirstOpen clause marks i × IsAlone clause marks i
Opens clause marks Several = (i : ℕ) × IsFirstOpen clause marks i × (IsAlone clause marks i → ⊥)
