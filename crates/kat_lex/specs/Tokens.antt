-- The tokens of a text, or its first fault.
use Rattle.std.specs.Prelude.{◌≡◌, ◌≢◌, ℕ, ◌+◌, ◌<◌, ◌≤◌, ◌⊎◌, List, [], ◌∷◌, length, slice_range, Option, Some, None}
use Rattle.std.specs.Str.Parse.{digits_value}
use Rattle.kat_num.specs.Names.{code_of}
use Rattle.kat_num.specs.Values.{IsNumber}
use Rattle.kat_num.specs.declared.names.TheConstants.{NAME_LIMIT}
use Rattle.kat_num.specs.declared.values.TheConstants.{NUMBER_LIMIT}
use Rattle.kat_lex.specs.Classes.{byte_at, class_of}
use Rattle.kat_lex.specs.Pieces.{IsWord, IsDigits, IsOpened, IsSign, IsLineEnd, IsGap}
use Rattle.kat_lex.specs.declared.classes.Class.TheVariants.{Other}
use Rattle.kat_lex.specs.declared.lexer.TokenKind.{TokenKind}
use Rattle.kat_lex.specs.declared.lexer.TokenKind.TheVariants.{Word, Name, Number, Sign, Newline}
use Rattle.kat_lex.specs.declared.lexer.Token.{Token}
use Rattle.kat_lex.specs.declared.lexer.LexError.{LexError}
use Rattle.kat_lex.specs.declared.lexer.LexError.TheVariants.{BadByte, LongName, LongNumber, Memory}

-- a name literal: an opened one of at most 15 bytes that ends at its closing quote
pub record IsLiteral (text : List ℕ) (from to code : ℕ) : Type 0 where
  pub end : ℕ
  pub opened : IsOpened text from end
  pub closed : byte_at text end ≡ 34
  pub short : end ≤ from + 1 + NAME_LIMIT
  pub coded : code ≡ code_of (slice_range text (from + 1) end)
  pub behind : to ≡ end + 1

-- a piece of the text is a token of this kind
abbrev pub IsKind : List ℕ → ℕ → ℕ → TokenKind → Type 0
IsKind text from to (Word code) = IsWord text from to × (to ≤ from + NAME_LIMIT) × (code ≡ code_of (slice_range text from to))
IsKind text from to (Name code) = IsLiteral text from to code
IsKind text from to (Number n) = IsDigits text from to × IsNumber (slice_range text from to) n
IsKind text from to (Sign first second) = IsSign text from to first second
IsKind text from to Newline = IsLineEnd text from to

-- the token is at this place of the text
pub record IsToken (text : List ℕ) (at : ℕ) (token : Token) : Type 0 where
  pub from : token.from ≡ at
  pub kind : IsKind text at token.to token.kind

-- what is at this place of the text is no token, but this fault: a byte with which nothing begins,
-- or that a name literal meets in place of its closing quote (the end of the text has its length as
-- place); a word or a name of more than 15 bytes, at its first byte; or digits past the limit
abbrev pub IsFault : List ℕ → ℕ → LexError → Type 0
IsFault text at (BadByte place) = ((class_of (byte_at text at) ≡ Other) × (place ≡ at)) ⊎ (IsOpened text at place × (byte_at text place ≢ 34))
IsFault text at (LongName place) = (place ≡ at) × ((end : ℕ) × ((IsWord text at end × (at + NAME_LIMIT < end)) ⊎ (IsOpened text at end × (byte_at text end ≡ 34) × (at + 1 + NAME_LIMIT < end))))
IsFault text at (LongNumber place) = (place ≡ at) × ((end : ℕ) × IsDigits text at end × (NUMBER_LIMIT < digits_value 10 (slice_range text at end)))
IsFault text at Memory = ⊥

-- from a place on, the text has these tokens, and then its end or this fault
pub data Lexes (text : List ℕ) : ℕ → List Token → Option LexError → Type 0 where
  ends : {at : ℕ} → length text ≤ at → Lexes text at [] None
  stops : {at : ℕ} {fault : LexError} → at < length text → IsFault text at fault → Lexes text at [] (Some fault)
  gap : {at : ℕ} {tokens : List Token} {end : Option LexError} (to : ℕ) → at < length text → IsGap text at to
      → Lexes text to tokens end → Lexes text at tokens end
  token : {at : ℕ} {tokens : List Token} {end : Option LexError} (first : Token) → at < length text → IsToken text at first
      → Lexes text first.to tokens end → Lexes text at (first ∷ tokens) end

-- the whole text has these tokens and no fault
abbrev pub TokensOf : List ℕ → List Token → Type 0
TokensOf text tokens = Lexes text 0 tokens None

-- the text has this fault, and none before it
abbrev pub FaultOf : List ℕ → LexError → Type 0
FaultOf text fault = (tokens : List Token) × Lexes text 0 tokens (Some fault)

-- what a reader's error says of the text: its fault, and nothing if memory runs out
abbrev pub TellsFault : List ℕ → LexError → Type 0
TellsFault text Memory = Unit {0}
TellsFault text fault = FaultOf text fault

-- the tokens are one after the other between these places, and none is empty
abbrev pub Ascend : ℕ → ℕ → List Token → Type 0
Ascend from to [] = from ≤ to
Ascend from to (first ∷ tokens) = (from ≤ first.from) × (first.from < first.to) × Ascend first.to to tokens
