-- The tokens of one line of a text.
use Rattle.std.specs.Prelude.{◌≡◌, ℕ, ◌<◌, ◌≤◌, Bool, true, false, List, [], ◌∷◌, ◌++◌, length, Option, None, Some}
use Rattle.kat_lex.specs.Pieces.{IsGap, IsLineEnd}
use Rattle.kat_lex.specs.Tokens.{IsFault, IsToken}
use Rattle.kat_lex.specs.declared.lexer.TokenKind.{TokenKind}
use Rattle.kat_lex.specs.declared.lexer.TokenKind.TheVariants as kind
use Rattle.kat_lex.specs.declared.lexer.LexError.{LexError}
use Rattle.kat_lex.specs.declared.lexer.LexError.TheVariants.{Memory}
use Rattle.kat_lex.specs.declared.lexer.Token.{Token}

abbrev pub is_newline_kind : TokenKind → Bool
is_newline_kind kind.Newline = true
is_newline_kind other = false

abbrev pub is_newline : Token → Bool
is_newline token = is_newline_kind token.kind

-- from a place up to another the text has these tokens, none of them a newline, and otherwise only gaps
pub data HasInLine (text : List ℕ) : ℕ → List Token → ℕ → Type 0 where
  done : {at : ℕ} → HasInLine text at [] at
  past_gap : {at end : ℕ} {line : List Token} (to : ℕ) → at < length text → IsGap text at to
      → HasInLine text to line end → HasInLine text at line end
  past_token : {at end : ℕ} {line : List Token} (first : Token) → at < length text → IsToken text at first → is_newline first ≡ false
      → HasInLine text first.to line end → HasInLine text at (first ∷ line) end

-- a line ends at the end of the text, or at a newline, and the next line begins where the newline ends
abbrev pub EndsLine : List ℕ → ℕ → Option ℕ → Type 0
EndsLine text end None = length text ≤ end
EndsLine text end (Some next) = (end < length text) × IsLineEnd text end next

-- from a place on, the text has these tokens up to the end of the line, and there the next line begins, or none
pub record IsTextLine (text : List ℕ) (at : ℕ) (line : List Token) (next : Option ℕ) : Type 0 where
  pub end : ℕ
  pub has : HasInLine text at line end
  pub ends : EndsLine text end next

-- the tokens of the line at the place were put after the others
pub record IsLineAdded (text : List ℕ) (at : ℕ) (old new : List Token) (next : Option ℕ) : Type 0 where
  pub line : List Token
  pub added : new ≡ old ++ line
  pub is_line : IsTextLine text at line next

-- what is in the line after some of its tokens, where the next one would begin, is this fault
pub record IsFaultInLine (text : List ℕ) (at : ℕ) (fault : LexError) : Type 0 where
  pub before : List Token
  pub place : ℕ
  pub has : HasInLine text at before place
  pub within : place < length text
  pub is_fault : IsFault text place fault

-- what an error tells of a line: its fault, and nothing if memory runs out
abbrev pub TellsLineFault : List ℕ → ℕ → LexError → Type 0
TellsLineFault text at Memory = Unit {0}
TellsLineFault text at fault = IsFaultInLine text at fault
