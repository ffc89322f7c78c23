-- What a sink has when a text wasn't all written.
use Rattle.std.specs.Prelude.{◌≡◌, ℕ, List, Option}
use Rattle.kat_io.specs.Outside.{IsFront, grown}

-- a prefix of the text was written
abbrev pub IsCutShort : Option (List ℕ) → Option (List ℕ) → List ℕ → Type 0
IsCutShort old new text = (front : List ℕ) × IsFront front text × (new ≡ grown old front)
