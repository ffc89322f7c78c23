-- The tokens of a type file, and the first at which it is refused.
use Rattle.std.specs.Prelude.{◌≡◌, ℕ, suc, ◌<◌, ◌≤◌, ◌⊎◌, false, not, List, [], ◌∷◌, ◌++◌, length, map, take, filter, if◌then◌else◌}
use Rattle.std.specs.List.{slice_index_or}
use Rattle.kat_lex.specs.Tokens.{FaultOf, TokensOf}
use Rattle.kat_lex.specs.declared.lexer.LexError.{LexError}
use Rattle.kat_lex.specs.declared.lexer.LexError.TheVariants as fault
use Rattle.kat_lex.specs.declared.lexer.Token.{Token}
use Rattle.kat_grammar.specs.Forms.{TypeForm}
use Rattle.kat_grammar.specs.Lines.{IsType, lines_of}
use Rattle.kat_grammar.specs.Marks.{is_newline, placed}
use Rattle.kat_grammar.specs.Sizes.{Load, loads_of, other}
use Rattle.kat_grammar.specs.declared.marks.Mark.TheVariants as mark
use Rattle.kat_grammar.specs.declared.marks.Placed.{Placed}
use Rattle.kat_grammar.specs.declared.errors.GrammarError.{GrammarError}
use Rattle.kat_grammar.specs.declared.errors.GrammarError.TheVariants.{BadByte, LongName, LongNumber, Syntax, TooLarge, Memory}

-- how deep an expression may be, and how many nodes the expressions of a type may have
abbrev pub depth_limit : ℕ
depth_limit = 24

abbrev pub node_limit : ℕ
node_limit = 400

-- a line, if it isn't blank, before other lines
abbrev pub with_line : List Placed → List (List Placed) → List (List Placed)
with_line [] lines = lines
with_line (first ∷ line) lines = (first ∷ line) ∷ lines

-- the lines of tokens that aren't blank, of which this one has begun; the end of the text ends its last line
abbrev pub lines_from : List Placed → List Placed → List (List Placed)
lines_from line [] = with_line line []
lines_from line (t ∷ tokens) = if is_newline t.mark then with_line line (lines_from [] tokens) else lines_from (line ++ t ∷ []) tokens

abbrev pub text_lines : List Placed → List (List Placed)
text_lines tokens = lines_from [] tokens

-- the tokens are those of this type
pub record Says (tokens : List Placed) (t : TypeForm) : Type 0 where
  pub written : text_lines tokens ≡ lines_of t
  pub formed : IsType t

abbrev pub node_count : List Load → ℕ
node_count loads = length (filter (λ (load : Load). load.node) loads)

-- after this token there are too many levels, or too many nodes
abbrev pub Exceeds : List Load → ℕ → Type 0
Exceeds loads n = (depth_limit < (slice_index_or loads n (other 0)).depth) ⊎ (node_limit < node_count (take (suc n) loads))

-- the first token after which there are too many, newlines left out
pub record IsFirstExcess (loads : List Load) (n : ℕ) : Type 0 where
  pub here : Exceeds loads n
  pub first : (m : ℕ) → m < n → Exceeds loads m → ⊥

-- some type begins with these tokens
pub record GoesOn (front : List Placed) : Type 0 where
  pub more : List Placed
  pub whole : TypeForm
  pub says : Says (front ++ more) whole

-- the first token at which no type goes on; at the end, the tokens begin one and aren't one
pub record SyntaxAt (tokens : List Placed) (k : ℕ) : Type 0 where
  pub within : k ≤ length tokens
  pub before : GoesOn (take k tokens)
  pub stops : k < length tokens → GoesOn (take (suc k) tokens) → ⊥
  pub ends : k ≡ length tokens → (t : TypeForm) → Says tokens t → ⊥

-- how many of the tokens are no newlines
abbrev pub count_words : List Placed → ℕ
count_words tokens = length (filter (λ (t : Placed). not (is_newline t.mark)) tokens)

-- the first token, of those with which some type begins, after which an expression is too deep or too large
pub record TooLargeAt (tokens : List Placed) (k : ℕ) : Type 0 where
  pub within : k < length tokens
  pub word : is_newline (slice_index_or tokens k (record { mark = mark.Newline; at = 0 })).mark ≡ false
  pub goes : GoesOn (take (suc k) tokens)
  pub excess : IsFirstExcess (loads_of goes.whole) (count_words (take k tokens))

-- the byte at which a token is, or the length of the text
abbrev pub place_in : List ℕ → List Placed → ℕ → ℕ
place_in text tokens k = slice_index_or (map (λ (t : Placed). t.at) tokens) k (length text)

-- the text is that of this type, and no expression is too deep or too large
pub record IsTextOf (text : List ℕ) (t : TypeForm) : Type 0 where
  pub tokens : List Token
  pub lexed : TokensOf text tokens
  pub says : Says (placed tokens) t
  pub small : (k : ℕ) → TooLargeAt (placed tokens) k → ⊥

-- the refusal of a fault of tokens
abbrev pub refusal_of_fault : LexError → GrammarError
refusal_of_fault (fault.BadByte at) = BadByte at
refusal_of_fault (fault.LongName at) = LongName at
refusal_of_fault (fault.LongNumber at) = LongNumber at
refusal_of_fault fault.Memory = Memory

-- the first refusal of a text: a fault of tokens, for the whole text; or else a token after which an expression is too
-- deep or too large; or else a token at which no type goes on
pub data IsRefused (text : List ℕ) : GrammarError → Type 0 where
  at_byte : (fault : LexError) → FaultOf text fault → IsRefused text (refusal_of_fault fault)
  too_large : (tokens : List Token) (k : ℕ) → TokensOf text tokens → TooLargeAt (placed tokens) k
      → IsRefused text (TooLarge (place_in text (placed tokens) k))
  no_type : (tokens : List Token) (k : ℕ) → TokensOf text tokens → SyntaxAt (placed tokens) k → ((j : ℕ) → TooLargeAt (placed tokens) j → ⊥)
      → IsRefused text (Syntax (place_in text (placed tokens) k))

-- what a reader's error says of the text: its first refusal, and nothing if memory runs out
abbrev pub TellsRefusal : List ℕ → GrammarError → Type 0
TellsRefusal text Memory = Unit {0}
TellsRefusal text refusal = IsRefused text refusal
