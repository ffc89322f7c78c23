-- The grammar of a line, as its printer: what it calls, and the marks that it is written with.
use Rattle.std.specs.Prelude.{◌≡◌, ℕ, false, List, ◌∷◌, codes, Option, None, Some}
use Rattle.kat_num.specs.Names.{code_of}
use Rattle.kat_num.specs.One.{IsTheOne}
use Rattle.kat_lex.specs.declared.lexer.Token.{Token}
use Rattle.kat_script.specs.Grammar.{constants_marks}
use Rattle.kat_script.specs.Marks.{marks_of, some_touch}
use Rattle.kat_script.specs.declared.marks.Mark.{Mark}
use Rattle.kat_script.specs.declared.marks.Mark.TheVariants.{Word}
use Rattle.kat_script.specs.declared.said.Said.{Said}
use Rattle.kat_script.specs.declared.said.Said.TheVariants.{Does, Asks}
use Rattle.kat_actions.specs.declared.calls.Called.{Called}
use Rattle.kat_actions.specs.declared.calls.Verb.{Verb}
use Rattle.kat_actions.specs.declared.calls.Verb.TheVariants.{Do, Ask}

-- the first word of a line
abbrev pub head_of : Verb → ℕ
head_of Do = code_of (codes "do")
head_of Ask = code_of (codes "ask")

-- how a line is written: its first word, the name of the operation or query, and the arguments
abbrev pub called_marks : Verb → Called → List Mark
called_marks verb called = Word (head_of verb) ∷ Word called.name ∷ constants_marks called.args

-- the tokens of a line call this: they are written so, with a blank between each two constants
pub record Calls (verb : Verb) (tokens : List Token) (called : Called) : Type 0 where
  pub written : marks_of tokens ≡ called_marks verb called
  pub apart : some_touch tokens ≡ false

-- used inside only: what a line is read as calls this, and nothing else; or it calls nothing
abbrev pub Gives : Verb → List Token → Option Called → Type 0
Gives verb tokens called = IsTheOne (Calls verb tokens) called

-- used inside only: what a line of a script calls without a time
abbrev pub called_by : Verb → Option Said → Option Called
called_by Do (Some (Does r op args None)) = Some (record { name = op; args = args })
called_by Ask (Some (Asks r query args)) = Some (record { name = query; args = args })
called_by verb said = None
