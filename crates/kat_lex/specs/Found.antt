-- Used inside only.
-- What the reading functions say of one piece.
use Rattle.std.specs.Prelude.{◌≡◌, ℕ, ◌+◌, ◌<◌, ◌⊎◌, false, List, Result, Ok, Err}
use Rattle.kat_num.specs.declared.values.TheConstants.{NUMBER_LIMIT}
use Rattle.kat_num.specs.Bytes.{is_word_byte}
use Rattle.kat_num.specs.declared.names.TheConstants.{NAME_LIMIT}
use Rattle.kat_lex.specs.Pieces.{IsGap, IsRun}
use Rattle.kat_lex.specs.Tokens.{IsToken, IsFault}
use Rattle.kat_lex.specs.TextLines.{is_newline}
use Rattle.kat_lex.specs.declared.lexer.Token as lexer
use Rattle.kat_lex.specs.declared.pieces.Piece.{Piece}
use Rattle.kat_lex.specs.declared.pieces.Piece.TheVariants.{Gap, Token}
use Rattle.kat_lex.specs.declared.lexer.LexError.{LexError}

-- the piece at a place of the text: a gap, a token, or a fault
abbrev pub IsPiece : List ℕ → ℕ → Result Piece LexError → Type 0
IsPiece text at (Ok (Gap to)) = IsGap text at to
IsPiece text at (Ok (Token token)) = IsToken text at token
IsPiece text at (Err fault) = IsFault text at fault

-- what is at a place of the text: a token that is no newline, or a fault
abbrev pub IsTokenAt : List ℕ → ℕ → Result lexer.Token LexError → Type 0
IsTokenAt text at (Ok token) = IsToken text at token × (is_newline token ≡ false)
IsTokenAt text at (Err fault) = IsFault text at fault

-- the value is exact, or both are past the limit
abbrev pub IsCapped : ℕ → ℕ → Type 0
IsCapped exact value = (value ≡ exact) ⊎ ((NUMBER_LIMIT < value) × (NUMBER_LIMIT < exact))

-- a run of more bytes of words than a word has
abbrev pub IsLongRun : List ℕ → ℕ → Type 0
IsLongRun text from = (end : ℕ) × IsRun is_word_byte text from end × (from + NAME_LIMIT < end)
