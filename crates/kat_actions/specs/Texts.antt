-- Texts of calls: which calls a text has, or how it is refused.
use Rattle.std.specs.Prelude.{◌≡◌, ℕ, ◌+◌, ◌<◌, ◌≤◌, nat_le, List, [], ◌∷◌, length, map, Option, None, Some, Result, Ok, Err, if◌then◌else◌}
use Rattle.std.specs.List.{AllByRecursion}
use Rattle.kat_lex.specs.Tokens.{TokensOf, FaultOf}
use Rattle.kat_lex.specs.declared.lexer.Token.{Token}
use Rattle.kat_lex.specs.declared.lexer.LexError.{LexError}
use Rattle.kat_script.specs.Faults.{refusal_of_fault}
use Rattle.kat_script.specs.Judged.{HasOp, HasQuery}
use Rattle.kat_script.specs.Rules.{op_of, query_of, value_of}
use Rattle.kat_script.specs.Script.{text_lines}
use Rattle.kat_script.specs.declared.error.ScriptError.{ScriptError}
use Rattle.kat_script.specs.declared.error.ScriptError.TheVariants as refusal
use Rattle.kat_script.specs.declared.rules.TheConstants.{LINE_LIMIT}
use Rattle.kat_type.specs.declared.signatures.Signature.{Signature}
use Rattle.kat_actions.specs.Grammar.{Calls}
use Rattle.kat_actions.specs.declared.calls.Call.{Call}
use Rattle.kat_actions.specs.declared.calls.Called.{Called}
use Rattle.kat_actions.specs.declared.calls.Verb.{Verb}
use Rattle.kat_actions.specs.declared.calls.Verb.TheVariants.{Do, Ask}

-- the number of the operation or query of this name, which takes these arguments
abbrev pub item_of : Verb → Signature → Called → Option ℕ
item_of Do sig called = op_of sig called.name called.args
item_of Ask sig called = query_of sig called.name called.args

-- The number of what a line calls that comes after this many others, or the number of its refusal: 14, if the signature has no such
-- operation or query, or it takes other arguments; else 15, if it comes after as many lines as there may be.
abbrev pub judged_item : ℕ → Option ℕ → Result ℕ ℕ
judged_item count None = Err 14
judged_item count (Some item) = if nat_le LINE_LIMIT count then Err 15 else Ok item

abbrev pub judged : Verb → Signature → ℕ → Called → Result ℕ ℕ
judged verb sig count called = judged_item count (item_of verb sig called)

-- the call of the line of this number
abbrev pub call_of : ℕ → ℕ → Called → Call
call_of line item called = record { line = line; item = item; args = map value_of called.args }

-- The lines of a text from the line of this number on, after this many that weren't blank, have these calls. Then the text ends,
-- or a line is refused so.
pub data Reads (verb : Verb) (sig : Signature) : ℕ → ℕ → List (List Token) → List Call → Option ScriptError → Type 0 where
  ends : {number count : ℕ} → Reads verb sig number count [] [] None
  blank : {number count : ℕ} {rest : List (List Token)} {calls : List Call} {end : Option ScriptError}
      → Reads verb sig (number + 1) count rest calls end → Reads verb sig number count ([] ∷ rest) calls end
  unreadable : {number count : ℕ} {tokens : List Token} {rest : List (List Token)} → 0 < length tokens
      → ((called : Called) → Calls verb tokens called → ⊥)
      → Reads verb sig number count (tokens ∷ rest) [] (Some (refusal.Line 10 number))
  breaks : {number count : ℕ} {tokens : List Token} {rest : List (List Token)} (called : Called) (rule : ℕ)
      → Calls verb tokens called → judged verb sig count called ≡ Err rule
      → Reads verb sig number count (tokens ∷ rest) [] (Some (refusal.Line rule number))
  keeps : {number count : ℕ} {tokens : List Token} {rest : List (List Token)} {calls : List Call} {end : Option ScriptError} (called : Called) (item : ℕ)
      → Calls verb tokens called → judged verb sig count called ≡ Ok item
      → Reads verb sig (number + 1) (count + 1) rest calls end
      → Reads verb sig number count (tokens ∷ rest) (call_of number item called ∷ calls) end

-- the bytes are a text of these calls, judged good for the signature
pub record AreCallsOf (verb : Verb) (sig : Signature) (bytes : List ℕ) (calls : List Call) : Type 0 where
  pub tokens : List Token
  pub lexed : TokensOf bytes tokens
  pub read : Reads verb sig 1 0 (text_lines tokens) calls None

-- the bytes are refused so: by the first fault of their tokens, or else by the first line that breaks a rule
pub data IsRefused (verb : Verb) (sig : Signature) (bytes : List ℕ) : ScriptError → Type 0 where
  at_byte : (fault : LexError) → FaultOf bytes fault → IsRefused verb sig bytes (refusal_of_fault fault)
  at_line : {error : ScriptError} (tokens : List Token) (before : List Call) → TokensOf bytes tokens
      → Reads verb sig 1 0 (text_lines tokens) before (Some error) → IsRefused verb sig bytes error

-- what an error of a reader says: nothing if memory ran out, and otherwise how the text is refused
abbrev pub TellsRefusal : Verb → Signature → List ℕ → ScriptError → Type 0
TellsRefusal verb sig bytes refusal.Memory = Unit {0}
TellsRefusal verb sig bytes error = IsRefused verb sig bytes error

-- the signature has what is called, and it takes these arguments
abbrev pub FitsSignature : Verb → Signature → Call → Type 0
FitsSignature Do sig call = HasOp sig call.item call.args
FitsSignature Ask sig call = HasQuery sig call.item call.args

-- at most as many calls as a text may have, each of the signature
pub record FitSignature (verb : Verb) (sig : Signature) (calls : List Call) : Type 0 where
  pub few : length calls ≤ LINE_LIMIT
  pub each : AllByRecursion (FitsSignature verb sig) calls
