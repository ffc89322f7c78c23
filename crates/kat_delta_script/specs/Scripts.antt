-- Texts of scripts with deltas: which script a text is, or how it is refused.
use Rattle.std.specs.Prelude.{◌≡◌, ℕ, ◌+◌, ◌<◌, List, [], ◌∷◌, ◌++◌, length, Option, None, Some, option_to_list}
use Rattle.kat_lex.specs.Tokens.{TokensOf, FaultOf}
use Rattle.kat_lex.specs.declared.lexer.Token.{Token}
use Rattle.kat_lex.specs.declared.lexer.LexError.{LexError}
use Rattle.kat_script.specs.Faults.{refusal_of_fault}
use Rattle.kat_script.specs.Rules.{Known, line_of}
use Rattle.kat_script.specs.Script.{text_lines, words_after}
use Rattle.kat_script.specs.World.{opened}
use Rattle.kat_script.specs.declared.error.ScriptError.TheVariants as refusal
use Rattle.kat_script.specs.declared.said.Said.{Said}
use Rattle.kat_script.specs.declared.said.Said.TheVariants.{Replicas}
use Rattle.kat_script.specs.declared.script.Line.{Line}
use Rattle.kat_script.specs.declared.script.Line.TheVariants.{Ship}
use Rattle.kat_type.specs.declared.signatures.Signature.{Signature}
use Rattle.kat_delta.specs.Worlds.{DeltaWorld, delta_after, first_delta_world}
use Rattle.kat_delta.specs.declared.script.DeltaLine.{DeltaLine}
use Rattle.kat_delta.specs.declared.script.DeltaLine.TheVariants.{Plain, Delta}
use Rattle.kat_delta.specs.declared.script.DeltaScript.{DeltaScript}
use Rattle.kat_delta_script.specs.Grammar.{SaysSo}
use Rattle.kat_delta_script.specs.Refusals.{DeltaPlace, first_refusal, known_there, plain_place}
use Rattle.kat_delta_script.specs.declared.error.DeltaScriptError.{DeltaScriptError}
use Rattle.kat_delta_script.specs.declared.error.DeltaScriptError.TheVariants.{Script}
use Rattle.kat_delta_script.specs.declared.statement.Statement.{Statement}

abbrev pub first_place : DeltaPlace
first_place = record { number = 1; lines = 0; words = []; w = first_delta_world 0 }

-- the place after a blank line
abbrev pub place_below : DeltaPlace → DeltaPlace
place_below place = record place { number = place.number + 1 }

-- a line that ships makes a delta, if a count is given
abbrev pub with_count : Option ℕ → Line → DeltaLine
with_count (Some from) (Ship r p) = Delta r p from
with_count from line = Plain line

abbrev pub counted_line : Option ℕ → Option Line → Option DeltaLine
counted_line from None = None
counted_line from (Some line) = Some (with_count from line)

-- the line that is said, or none if it says how many replicas there are
abbrev pub delta_line_of : Signature → Known → Statement → Option DeltaLine
delta_line_of sig known statement = counted_line statement.from (line_of sig known statement.said)

-- the world after a line
abbrev pub delta_world_behind : DeltaWorld → Said → Option DeltaLine → DeltaWorld
delta_world_behind w said (Some line) = delta_after w line
delta_world_behind w (Replicas n) None = record w { world = opened w.world n }
delta_world_behind w said None = w

-- the place after a line that keeps the rules
abbrev pub delta_behind : Signature → DeltaPlace → Statement → DeltaPlace
delta_behind sig place statement = record {
  number = place.number + 1;
  lines = place.lines + 1;
  words = words_after (plain_place place) statement.said;
  w = delta_world_behind place.w statement.said (delta_line_of sig (known_there place) statement);
}

-- how a text ends: its last place, or the refusal of a line
pub data DeltaEnding : Type 0 where
  good : DeltaPlace → DeltaEnding
  refused : DeltaScriptError → DeltaEnding

-- the lines of a text from a place on are these lines of a script with deltas, up to this ending
pub data ReadsDeltas (sig : Signature) : DeltaPlace → List (List Token) → List DeltaLine → DeltaEnding → Type 0 where
  ends : {place : DeltaPlace} → 0 < place.lines → ReadsDeltas sig place [] [] (good place)
  never_opens : {place : DeltaPlace} → place.lines ≡ 0 → ReadsDeltas sig place [] [] (refused (Script (refusal.Line 10 1)))
  blank : {place : DeltaPlace} {rest : List (List Token)} {lines : List DeltaLine} {end : DeltaEnding}
      → ReadsDeltas sig (place_below place) rest lines end → ReadsDeltas sig place ([] ∷ rest) lines end
  unreadable : {place : DeltaPlace} {tokens : List Token} {rest : List (List Token)} → 0 < length tokens
      → ((statement : Statement) → SaysSo tokens statement → ⊥)
      → ReadsDeltas sig place (tokens ∷ rest) [] (refused (Script (refusal.Line 10 place.number)))
  breaks : {place : DeltaPlace} {tokens : List Token} {rest : List (List Token)} (statement : Statement) (error : DeltaScriptError)
      → SaysSo tokens statement → first_refusal sig place statement ≡ Some error
      → ReadsDeltas sig place (tokens ∷ rest) [] (refused error)
  keeps : {place : DeltaPlace} {tokens : List Token} {rest : List (List Token)} {lines : List DeltaLine} {end : DeltaEnding} (statement : Statement)
      → SaysSo tokens statement → first_refusal sig place statement ≡ None
      → ReadsDeltas sig (delta_behind sig place statement) rest lines end
      → ReadsDeltas sig place (tokens ∷ rest) (option_to_list (delta_line_of sig (known_there place) statement) ++ lines) end

-- the lines of a text are those of the script
pub record IsDeltaScript (sig : Signature) (lines : List (List Token)) (script : DeltaScript) : Type 0 where
  pub last : DeltaPlace
  pub read : ReadsDeltas sig first_place lines script.lines (good last)
  pub replicas : script.replicas ≡ length last.w.world.replicas
  pub packets : script.packets ≡ length last.words

-- the bytes are a text of the script, judged good for the signature
pub record IsDeltaScriptText (sig : Signature) (bytes : List ℕ) (script : DeltaScript) : Type 0 where
  pub tokens : List Token
  pub lexed : TokensOf bytes tokens
  pub judged : IsDeltaScript sig (text_lines tokens) script

-- some line of a text is refused so, and those before it keep the rules
pub record IsDeltaLineRefused (sig : Signature) (lines : List (List Token)) (error : DeltaScriptError) : Type 0 where
  pub before : List DeltaLine
  pub read : ReadsDeltas sig first_place lines before (refused error)

-- the bytes are refused so: by the first fault of their tokens, or else by the first line that breaks a rule
pub data IsDeltaRefused (sig : Signature) (bytes : List ℕ) : DeltaScriptError → Type 0 where
  at_byte : (fault : LexError) → FaultOf bytes fault → IsDeltaRefused sig bytes (Script (refusal_of_fault fault))
  at_line : {error : DeltaScriptError} (tokens : List Token) → TokensOf bytes tokens
      → IsDeltaLineRefused sig (text_lines tokens) error → IsDeltaRefused sig bytes error

-- what an error of a reader says: nothing if memory ran out, and otherwise how the text is refused
abbrev pub TellsDeltaRefusal : Signature → List ℕ → DeltaScriptError → Type 0
TellsDeltaRefusal sig bytes (Script refusal.Memory) = Unit {0}
TellsDeltaRefusal sig bytes error = IsDeltaRefused sig bytes error
