-- The grammar of a line of a script with deltas: the lines of scripts, and one that makes a delta.
use Rattle.std.specs.Prelude.{◌≡◌, ℕ, List, [], ◌∷◌, codes, Option, None, Some}
use Rattle.kat_num.specs.Names.{code_of}
use Rattle.kat_lex.specs.declared.lexer.Token.{Token}
use Rattle.kat_script.specs.Grammar.{Says}
use Rattle.kat_script.specs.Marks.{marks_of}
use Rattle.kat_script.specs.declared.marks.Mark.{Mark}
use Rattle.kat_script.specs.declared.marks.Mark.TheVariants.{Word, Number}
use Rattle.kat_script.specs.declared.said.Said.{Said}
use Rattle.kat_script.specs.declared.said.Said.TheVariants.{Ships}
use Rattle.kat_delta_script.specs.declared.statement.Statement.{Statement}

-- `delta R WORD from C`
abbrev pub delta_marks : ℕ → ℕ → ℕ → List Mark
delta_marks r packet from =
    Word (code_of (codes "delta")) ∷ Number r ∷ Word packet ∷ Word (code_of (codes "from")) ∷ Number from ∷ []

abbrev pub AreDeltaMarks : List Mark → Said → Option ℕ → Type 0
AreDeltaMarks marks (Ships r packet) (Some from) = marks ≡ delta_marks r packet from
AreDeltaMarks marks said from = ⊥

-- the marks are those of a line that makes this delta
abbrev pub IsDelta : List Mark → Statement → Type 0
IsDelta marks statement = AreDeltaMarks marks statement.said statement.from

abbrev pub SaysEither : List Token → Said → Option ℕ → Type 0
SaysEither tokens said None = Says tokens said
SaysEither tokens said (Some from) = AreDeltaMarks (marks_of tokens) said (Some from)

-- the tokens of a line say this: a line of scripts, or that a delta is made
abbrev pub SaysSo : List Token → Statement → Type 0
SaysSo tokens statement = SaysEither tokens statement.said statement.from
