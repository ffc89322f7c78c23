-- Used inside only.
-- What the steps of encoding leave.
use Rattle.std.specs.Prelude.{◌≡◌, ◌<◌, ◌^◌, ℤ, unsigned_abs, List, Result, Ok, Err, Vec}
use Rattle.std.specs.Global.{Global}
use Rattle.kat_form.specs.Encodings.{Encoding}

-- the answer and the encoding that are left are the given ones
abbrev pub Gives : {E : Type 0} → ℤ × Encoding → Result ℤ E → Encoding → Type 0
Gives {E} given (Ok literal) left = (literal ≡ given.0) × (left ≡ given.1)
Gives {E} given (Err e) left = Unit {0}

abbrev pub GivesAll : {E : Type 0} → List ℤ × Encoding → Result (Vec ℤ Global) E → Encoding → Type 0
GivesAll {E} given (Ok literals) left = (literals.items ≡ given.0) × (left ≡ given.1)
GivesAll {E} given (Err e) left = Unit {0}

-- a literal whose opposite is a number of 32 bits too
abbrev pub IsShort : ℤ → Type 0
IsShort literal = unsigned_abs literal < 2 ^ 31
