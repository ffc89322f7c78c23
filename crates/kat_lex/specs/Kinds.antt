-- Used inside only.
-- Words for those who read tokens.
use Rattle.std.specs.Prelude.{ℕ, ◌≤◌, List, map}
use Rattle.kat_num.specs.Names.{code_of, IsNameCode}
use Rattle.kat_num.specs.declared.values.TheConstants.{NUMBER_LIMIT}
use Rattle.kat_lex.specs.declared.lexer.TokenKind.{TokenKind}
use Rattle.kat_lex.specs.declared.lexer.TokenKind.TheVariants.{Word, Name, Number, Sign, Newline}
use Rattle.kat_lex.specs.declared.lexer.Token.{Token}

-- what the tokens say, without their places
abbrev pub token_kinds_of : List Token → List TokenKind
token_kinds_of tokens = map (λ (token : Token). token.kind) tokens

-- the kind of a word, as `word (codes "state")`
abbrev pub word : List ℕ → TokenKind
word bytes = Word (code_of bytes)

-- the kind of a sign of one byte, as `sign 40`, and of two, as `sign_pair 58 61`
abbrev pub sign : ℕ → TokenKind
sign byte = Sign byte 0

-- what is known of every token that is read: words and names have the codes of names, and numbers are
-- within the limit
abbrev pub IsKindRead : TokenKind → Type 0
IsKindRead (Word code) = IsNameCode code
IsKindRead (Name code) = IsNameCode code
IsKindRead (Number n) = n ≤ NUMBER_LIMIT
IsKindRead (Sign _ _) = Unit {0}
IsKindRead Newline = Unit {0}
