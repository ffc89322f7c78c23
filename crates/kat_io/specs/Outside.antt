-- What a program knows of the outside: files that it reads, and a sink that it writes to.
use Rattle.std.specs.Prelude.{◌≡◌, ℕ, ◌+◌, ◌-◌, ◌^◌, ◌≤◌, ◌<◌, Bool, List, ◌++◌, length, min, Option, None, Some, Result, Ok, Err, IfSome}
use Rattle.kat_io.specs.declared.outside.ReadEnd.{ReadEnd}
use Rattle.kat_io.specs.declared.outside.ReadEnd.TheVariants.{Whole, Longer}
use Rattle.kat_io.specs.declared.outside.ReadError.{ReadError}
use Rattle.kat_io.specs.declared.outside.WriteError.{WriteError}
use Rattle.kat_io.specs.declared.outside.WriteError.TheVariants.{Failed, Memory}

-- a count of faults rose: it is greater than before, or had its greatest value already
abbrev pub Rose : ℕ → ℕ → Type 0
Rose before now = min (before + 1) (2 ^ 64 - 1) ≤ now

-- these are the file's bytes, if they are told
abbrev pub Tells : Option (List ℕ) → List ℕ → Type 0
Tells None bytes = Unit {0}
Tells (Some told) bytes = told ≡ bytes

-- what a read leaves in the buffer: the whole file at its end, or what was there
abbrev pub Reads : Option (List ℕ) → ℕ → List ℕ → List ℕ → Result ReadEnd ReadError → Type 0
Reads told limit old new (Ok Whole) =
    (bytes : List ℕ) × (new ≡ old ++ bytes) × (length bytes ≤ limit) × Tells told bytes
Reads told limit old new (Ok Longer) = (new ≡ old) × IfSome told (λ bytes. limit < length bytes)
Reads told limit old new (Err e) = new ≡ old

-- a read changes neither what the outside tells of a path, nor which paths are sure
pub record IsSame (held held' : List ℕ → Option (List ℕ)) (sure sure' : List ℕ → Bool) : Type 0 where
  pub held_too : (path : List ℕ) → held' path ≡ held path
  pub sure_too : (path : List ℕ) → sure' path ≡ sure path

-- what was written, if it is told, with these bytes at its end
abbrev pub grown : Option (List ℕ) → List ℕ → Option (List ℕ)
grown None bytes = None
grown (Some told) bytes = Some (told ++ bytes)

-- the first of some bytes
abbrev pub IsFront : List ℕ → List ℕ → Type 0
IsFront front bytes = (rest : List ℕ) × (front ++ rest ≡ bytes)

-- what a write leaves: all bytes were appended, or a prefix of them, or none
abbrev pub Writes : Option (List ℕ) → Option (List ℕ) → List ℕ → Result (Unit {0}) WriteError → Type 0
Writes old new bytes (Ok done) = new ≡ grown old bytes
Writes old new bytes (Err Failed) = (front : List ℕ) × IsFront front bytes × (new ≡ grown old front)
Writes old new bytes (Err Memory) = new ≡ old
