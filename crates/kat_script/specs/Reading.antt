-- Used inside only.
-- Used by kat_actions, kat_delta_script, kat_picture and inside only: what the reader does with one line of a text.
use Rattle.std.specs.Prelude.{◌≡◌, ℕ, ◌+◌, ◌⊎◌, List, [], ◌∷◌, ◌++◌, None, Some}
use Rattle.kat_lex.specs.Tokens.{Lexes}
use Rattle.kat_lex.specs.declared.lexer.LexError.{LexError}
use Rattle.kat_lex.specs.declared.lexer.LexError.TheVariants as lex
use Rattle.kat_lex.specs.declared.lexer.Token.{Token}
use Rattle.kat_script.specs.Script.{Ending, Place, Reads, refused}
use Rattle.kat_script.specs.Faults.{refusal_of_fault}
use Rattle.kat_script.specs.Ledger.{Matches}
use Rattle.kat_script.specs.declared.error.ScriptError.{ScriptError}
use Rattle.kat_script.specs.declared.error.ScriptError.TheVariants as refusal
use Rattle.kat_script.specs.declared.reader.Reader.{Reader}
use Rattle.kat_script.specs.declared.script.Line.{Line}
use Rattle.kat_type.specs.declared.signatures.Signature.{Signature}

-- the reader took in the line of the text at this place: whatever the rest is read as, the text from this
-- place on is read as, with the lines that this one gave before it
pub record Taken (sig : Signature) (place : Place) (tokens : List Token) (old new : Reader) : Type 0 where
  pub behind : Place
  pub number : behind.number ≡ place.number + 1
  pub matches : Matches new.ledger behind
  pub more : List Line
  pub lines : new.lines.items ≡ old.lines.items ++ more
  pub reads : (rest : List (List Token)) (lines : List Line) (end : Ending) → Reads sig behind rest lines end
      → Reads sig place (tokens ∷ rest) (more ++ lines) end

-- the same, at every place that the reader may be at
abbrev pub Takes : Signature → ℕ → List Token → Reader → Reader → Type 0
Takes sig number tokens old new =
    (place : Place) → place.number ≡ number → Matches old.ledger place → Taken sig place tokens old new

-- the line is refused so, whatever comes after it
abbrev pub Refuses : Signature → ℕ → List Token → Reader → ScriptError → Type 0
Refuses sig number tokens old refusal.Memory = Unit {0}
Refuses sig number tokens old error =
    (place : Place) → place.number ≡ number → Matches old.ledger place → (rest : List (List Token)) → Reads sig place (tokens ∷ rest) [] (refused error)

-- from a place on, the text has this fault, and none before it; out of memory says nothing
abbrev pub TellsFaultFrom : List ℕ → ℕ → LexError → Type 0
TellsFaultFrom text at lex.Memory = Unit {0}
TellsFaultFrom text at fault = (tokens : List Token) × Lexes text at tokens (Some fault)

-- a text in which a line is refused is refused so: by a fault of tokens after the line, or, if the
-- rest of the text has tokens, as the line
abbrev pub FaultsFirst : List ℕ → ℕ → ScriptError → ScriptError → Type 0
FaultsFirst text from error refusal.Memory = Unit {0}
FaultsFirst text from error result =
    ((fault : LexError) × (result ≡ refusal_of_fault fault) × TellsFaultFrom text from fault)
    ⊎ ((result ≡ error) × ((tokens : List Token) × Lexes text from tokens None))
