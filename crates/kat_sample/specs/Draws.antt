-- The numbers by which a script is drawn.
use Rattle.std.specs.Prelude.{ℕ, zero, suc, ◌+◌, ◌*◌, ◌/◌, ◌%◌, ◌^◌, List, [], ◌∷◌}

-- the number after this one, by a linear congruential generator
abbrev pub next : ℕ → ℕ
next x = (1103515245 * x + 12345) % 2 ^ 31

-- what is drawn with a number: its high bits
abbrev pub drawn : ℕ → ℕ
drawn x = x / 65536

-- this many draws, from a number on
abbrev pub draws : ℕ → ℕ → List ℕ
draws x zero = []
draws x (suc count) = drawn (next x) ∷ draws (next x) count
