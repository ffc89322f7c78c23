-- Script texts: which script a text is, or how it is refused.
use Rattle.std.specs.Prelude.{◌≡◌, ℕ, ◌+◌, ◌<◌, true, List, [], ◌∷◌, ◌++◌, length, map, Option, None, Some, option_to_list}
use Rattle.std.specs.List.{slice_split}
use Rattle.kat_lex.specs.TextLines.{is_newline}
use Rattle.kat_lex.specs.Tokens.{TokensOf, FaultOf}
use Rattle.kat_lex.specs.declared.lexer.Token.{Token}
use Rattle.kat_lex.specs.declared.lexer.LexError.{LexError}
use Rattle.kat_script.specs.Faults.{refusal_of_fault}
use Rattle.kat_script.specs.Grammar.{Says}
use Rattle.kat_script.specs.World.{Holder, World, after, first_world, opened, put}
use Rattle.kat_script.specs.Rules.{Known, first_broken, line_of, packet_of, clock_of, is_kept}
use Rattle.kat_script.specs.declared.said.Said.{Said}
use Rattle.kat_script.specs.declared.said.Said.TheVariants.{Replicas, Does, Ships}
use Rattle.kat_type.specs.declared.signatures.Signature.{Signature}
use Rattle.kat_script.specs.declared.script.Line.{Line}
use Rattle.kat_script.specs.declared.script.Script.{Script}
use Rattle.kat_script.specs.declared.rules.Rule.{Rule}
use Rattle.kat_script.specs.declared.rules.TheConstants.{LINE_LIMIT}
use Rattle.kat_script.specs.declared.rules.Rule.TheVariants as rule
use Rattle.kat_script.specs.declared.error.ScriptError.{ScriptError}
use Rattle.kat_script.specs.declared.error.ScriptError.TheVariants as refusal

-- a place in a script: the number of the line there, counted over all lines of the text from 1; how many
-- lines before it weren't blank; the words of the packets so far; and the world before it
pub record Place : Type 0 where
  pub number : ℕ
  pub lines : ℕ
  pub words : List ℕ
  pub world : World

-- the place before all lines: no replica, no packet
abbrev pub start : Place
start = record { number = 1; lines = 0; words = []; world = first_world 0 }

-- what is settled at a place: the clocks of its world, and its words and lines
abbrev pub known_at : Place → Known
known_at place = record { clocks = map (λ (holder : Holder). holder.clock) place.world.replicas; words = place.words; lines = place.lines }

-- the place after a blank line
abbrev pub below : Place → Place
below place = record place { number = place.number + 1 }

-- the words of the packets after a line
abbrev pub words_after : Place → Said → List ℕ
words_after place (Ships r packet) = put place.words (packet_of (known_at place) packet) packet
words_after place said = place.words

-- the world after a line
abbrev pub world_behind : Place → Said → Option Line → World
world_behind place said (Some line) = after place.world line
world_behind place (Replicas n) None = opened place.world n
world_behind place said None = place.world

-- the place after a line that keeps the rules
abbrev pub behind : Signature → Place → Said → Place
behind sig place said = record {
  number = place.number + 1;
  lines = place.lines + 1;
  words = words_after place said;
  world = world_behind place said (line_of sig (known_at place) said);
}

-- the refusal of a line by the first rule that it breaks; one for lateness carries the replica's clock
abbrev pub refusal_of : ℕ → Known → Said → Rule → ScriptError
refusal_of number known (Does r op args time) rule.Late = refusal.Late number (clock_of known r)
refusal_of number known said rule.Syntax = refusal.Line 10 number
refusal_of number known said rule.NoReplica = refusal.Line 11 number
refusal_of number known said rule.NoPacket = refusal.Line 12 number
refusal_of number known said rule.Late = refusal.Late number 0
refusal_of number known said rule.BadCall = refusal.Line 14 number
refusal_of number known said rule.TooLarge = refusal.Line 15 number

-- how a text ends: its last place, or the refusal of a line
pub data Ending : Type 0 where
  good : Place → Ending
  refused : ScriptError → Ending

-- the lines of a text from a place on are these lines of a script, up to this ending
pub data Reads (sig : Signature) : Place → List (List Token) → List Line → Ending → Type 0 where
  ends : {place : Place} → 0 < place.lines → Reads sig place [] [] (good place)
  never_opens : {place : Place} → place.lines ≡ 0 → Reads sig place [] [] (refused (refusal.Line 10 1))
  blank : {place : Place} {rest : List (List Token)} {lines : List Line} {end : Ending}
      → Reads sig (below place) rest lines end → Reads sig place ([] ∷ rest) lines end
  unreadable : {place : Place} {tokens : List Token} {rest : List (List Token)} → 0 < length tokens
      → ((said : Said) → Says tokens said → ⊥)
      → Reads sig place (tokens ∷ rest) [] (refused (refusal.Line 10 place.number))
  breaks : {place : Place} {tokens : List Token} {rest : List (List Token)} (said : Said) (rule : Rule)
      → Says tokens said → first_broken sig (known_at place) said ≡ Some rule
      → Reads sig place (tokens ∷ rest) [] (refused (refusal_of place.number (known_at place) said rule))
  keeps : {place : Place} {tokens : List Token} {rest : List (List Token)} {lines : List Line} {end : Ending} (said : Said)
      → Says tokens said → first_broken sig (known_at place) said ≡ None
      → Reads sig (behind sig place said) rest lines end
      → Reads sig place (tokens ∷ rest) (option_to_list (line_of sig (known_at place) said) ++ lines) end

-- the lines of a text by their tokens
abbrev pub text_lines : List Token → List (List Token)
text_lines tokens = slice_split is_newline tokens

-- the lines of a text from a place on keep the rules, and are these lines of a script, up to a last place
pub data Follows (sig : Signature) : Place → List (List Token) → List Line → Place → Type 0 where
  stops : {place : Place} → Follows sig place [] [] place
  skips : {place last : Place} {rest : List (List Token)} {lines : List Line}
      → Follows sig (below place) rest lines last → Follows sig place ([] ∷ rest) lines last
  goes : {place last : Place} {tokens : List Token} {rest : List (List Token)} {lines : List Line} (said : Said)
      → Says tokens said → is_kept sig (known_at place) said ≡ true → place.lines < LINE_LIMIT → Follows sig (behind sig place said) rest lines last
      → Follows sig place (tokens ∷ rest) (option_to_list (line_of sig (known_at place) said) ++ lines) last

-- the lines of a text are those of the script, of which there is at least the first
pub record IsScript (sig : Signature) (lines : List (List Token)) (script : Script) : Type 0 where
  pub last : Place
  pub follows : Follows sig start lines script.lines last
  pub some : 0 < last.lines
  pub replicas : script.replicas ≡ length last.world.replicas
  pub packets : script.packets ≡ length last.words

-- the bytes are a text of the script, judged good for the signature
pub record IsScriptText (sig : Signature) (bytes : List ℕ) (script : Script) : Type 0 where
  pub tokens : List Token
  pub lexed : TokensOf bytes tokens
  pub judged : IsScript sig (text_lines tokens) script

-- some line of a text is refused so, and those before it keep the rules
pub record IsLineRefused (sig : Signature) (lines : List (List Token)) (error : ScriptError) : Type 0 where
  pub before : List Line
  pub read : Reads sig start lines before (refused error)

-- the bytes are refused so: by the first fault of their tokens, or else by the first line that breaks a rule
pub data IsRefused (sig : Signature) (bytes : List ℕ) : ScriptError → Type 0 where
  at_byte : (fault : LexError) → FaultOf bytes fault → IsRefused sig bytes (refusal_of_fault fault)
  at_line : {error : ScriptError} (tokens : List Token) → TokensOf bytes tokens
      → IsLineRefused sig (text_lines tokens) error → IsRefused sig bytes error

-- what an error of a reader says: nothing if memory ran out, and otherwise how the text is refused
abbrev pub TellsRefusal : Signature → List ℕ → ScriptError → Type 0
TellsRefusal sig bytes refusal.Memory = Unit {0}
TellsRefusal sig bytes error = IsRefused sig bytes error
