-- Used inside only.
-- What the marks of a line begin with.
use Rattle.std.specs.Prelude.{◌≡◌, ℕ, List, ◌∷◌, ◌++◌, Option}
use Rattle.kat_script.specs.Grammar.{constant_marks, line_marks, time_marks}
use Rattle.kat_script.specs.declared.marks.Mark.{Mark}
use Rattle.kat_script.specs.declared.marks.Mark.TheVariants.{Word, Number}
use Rattle.kat_script.specs.declared.said.Constant.{Constant}
use Rattle.kat_script.specs.declared.said.Said.{Said}

-- the line doesn't begin with a constant
abbrev pub Stops : List Mark → Type 0
Stops marks = (constant : Constant) (rest : List Mark) → marks ≡ constant_marks constant ++ rest → ⊥

-- the marks are those of a line that says this
abbrev pub IsWritten : List Mark → Said → Type 0
IsWritten marks said = marks ≡ line_marks said

-- the line doesn't begin with a replica that has a name
abbrev pub HasNoCallee : List Mark → Type 0
HasNoCallee marks = (replica name : ℕ) (rest : List Mark) → marks ≡ Number replica ∷ Word name ∷ rest → ⊥

-- the marks are those of a time at the end of an operation
abbrev pub IsTime : List Mark → Option ℕ → Type 0
IsTime marks time = marks ≡ time_marks time
