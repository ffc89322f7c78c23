-- The grammar of a line, as its printer: what each line says, and the marks that it is written with.
use Rattle.std.specs.Prelude.{◌≡◌, ℕ, true, false, List, [], ◌∷◌, ◌++◌, codes, Option, None, Some}
use Rattle.std.specs.List.{flat_map}
use Rattle.kat_num.specs.Names.{code_of}
use Rattle.kat_lex.specs.declared.lexer.Token.{Token}
use Rattle.kat_script.specs.Marks.{marks_of, some_touch}
use Rattle.kat_script.specs.declared.marks.Mark.{Mark}
use Rattle.kat_script.specs.declared.marks.Mark.TheVariants.{Word, Number, Name, True, False, At, Minus}
use Rattle.kat_script.specs.declared.said.Constant.{Constant}
use Rattle.kat_script.specs.declared.said.Constant.TheVariants.{Natural, Negated, Named, Truth}
use Rattle.kat_script.specs.declared.said.Said.{Said}
use Rattle.kat_script.specs.declared.said.Said.TheVariants.{Replicas, Does, Ships, Delivers, Asks, Shows}

-- how a constant is written
abbrev pub constant_marks : Constant → List Mark
constant_marks (Natural n) = Number n ∷ []
constant_marks (Negated n) = Minus ∷ Number n ∷ []
constant_marks (Named name) = Name name ∷ []
constant_marks (Truth true) = True ∷ []
constant_marks (Truth false) = False ∷ []

-- how constants are written, one after the other
abbrev pub constants_marks : List Constant → List Mark
constants_marks constants = flat_map constant_marks constants

-- how the time of an operation is written, if it is given
abbrev pub time_marks : Option ℕ → List Mark
time_marks None = []
time_marks (Some time) = At ∷ Number time ∷ []

-- how a line is written
abbrev pub line_marks : Said → List Mark
line_marks (Replicas n) = Word (code_of (codes "replicas")) ∷ Number n ∷ []
line_marks (Does r op args time) =
    Word (code_of (codes "do")) ∷ Number r ∷ Word op ∷ constants_marks args ++ time_marks time
line_marks (Ships r packet) = Word (code_of (codes "ship")) ∷ Number r ∷ Word packet ∷ []
line_marks (Delivers packet r) = Word (code_of (codes "deliver")) ∷ Word packet ∷ Number r ∷ []
line_marks (Asks r query args) = Word (code_of (codes "ask")) ∷ Number r ∷ Word query ∷ constants_marks args
line_marks (Shows r) = Word (code_of (codes "show")) ∷ Number r ∷ []

-- the tokens of a line say this: they are written so, with a blank between each two constants
pub record Says (tokens : List Token) (said : Said) : Type 0 where
  pub written : marks_of tokens ≡ line_marks said
  pub apart : some_touch tokens ≡ false
