-- Used inside only.
-- What the reader does with one line of a text.
use Rattle.std.specs.Prelude.{◌≡◌, ℕ, ◌+◌, ◌⊎◌, List, [], ◌∷◌, ◌++◌, None}
use Rattle.kat_lex.specs.Tokens.{Lexes}
use Rattle.kat_lex.specs.declared.lexer.LexError.{LexError}
use Rattle.kat_lex.specs.declared.lexer.Token.{Token}
use Rattle.kat_script.specs.Faults.{refusal_of_fault}
use Rattle.kat_script.specs.Ledger.{Matches}
use Rattle.kat_script.specs.Reading.{TellsFaultFrom}
use Rattle.kat_script.specs.declared.error.ScriptError.TheVariants as refusal
use Rattle.kat_script.specs.declared.ledger.Ledger.{Ledger}
use Rattle.kat_type.specs.declared.signatures.Signature.{Signature}
use Rattle.kat_delta.specs.declared.script.DeltaLine.{DeltaLine}
use Rattle.kat_delta_script.specs.Counted.{Counts, counted}
use Rattle.kat_delta_script.specs.Refusals.{DeltaPlace, plain_place}
use Rattle.kat_delta_script.specs.Scripts.{DeltaEnding, ReadsDeltas, refused}
use Rattle.kat_delta_script.specs.declared.counts.Tally.{Tally}
use Rattle.kat_delta_script.specs.declared.error.DeltaScriptError.{DeltaScriptError}
use Rattle.kat_delta_script.specs.declared.error.DeltaScriptError.TheVariants.{Script}
use Rattle.kat_delta_script.specs.declared.reader.Reader.{Reader}

-- what the reader keeps says what the world at this place says
pub record Stands (ledger : Ledger) (tally : Tally) (place : DeltaPlace) : Type 0 where
  pub matches : Matches ledger (plain_place place)
  pub counts : Counts (counted tally) place.lines place.w

-- the reader took in the line of the text at this place: whatever the rest is read as, the text from this
-- place on is read as, with the lines that this one gave before it
pub record Taken (sig : Signature) (place : DeltaPlace) (tokens : List Token) (old new : Reader) : Type 0 where
  pub behind : DeltaPlace
  pub number : behind.number ≡ place.number + 1
  pub stands : Stands new.ledger new.tally behind
  pub more : List DeltaLine
  pub lines : new.lines.items ≡ old.lines.items ++ more
  pub reads : (rest : List (List Token)) (lines : List DeltaLine) (end : DeltaEnding) → ReadsDeltas sig behind rest lines end
      → ReadsDeltas sig place (tokens ∷ rest) (more ++ lines) end

-- the same, at every place that the reader may be at
abbrev pub Takes : Signature → ℕ → List Token → Reader → Reader → Type 0
Takes sig number tokens old new =
    (place : DeltaPlace) → place.number ≡ number → Stands old.ledger old.tally place → Taken sig place tokens old new

-- the line is refused so, whatever comes after it
abbrev pub Refuses : Signature → ℕ → List Token → Reader → DeltaScriptError → Type 0
Refuses sig number tokens old (Script refusal.Memory) = Unit {0}
Refuses sig number tokens old error =
    (place : DeltaPlace) → place.number ≡ number → Stands old.ledger old.tally place → (rest : List (List Token)) → ReadsDeltas sig place (tokens ∷ rest) [] (refused error)

-- a text in which a line is refused is refused so: by a fault of tokens after the line, or, if the
-- rest of the text has tokens, as the line
abbrev pub FaultsFirst : List ℕ → ℕ → DeltaScriptError → DeltaScriptError → Type 0
FaultsFirst text from error (Script refusal.Memory) = Unit {0}
FaultsFirst text from error result =
    ((fault : LexError) × (result ≡ Script (refusal_of_fault fault)) × TellsFaultFrom text from fault)
    ⊎ ((result ≡ error) × ((tokens : List Token) × Lexes text from tokens None))
