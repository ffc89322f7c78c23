-- What the tokens of a type file say.
use Rattle.std.specs.Prelude.{ℕ, Bool, ◌&&◌, ◌==◌, true, false, List, [], ◌∷◌, map, codes, if◌then◌else◌}
use Rattle.kat_num.specs.Names.{code_of}
use Rattle.kat_num.specs.declared.values.Sort.TheVariants as sort
use Rattle.kat_lex.specs.Words.{is_reserved}
use Rattle.kat_lex.specs.declared.lexer.Token.{Token}
use Rattle.kat_lex.specs.declared.lexer.TokenKind.{TokenKind}
use Rattle.kat_lex.specs.declared.lexer.TokenKind.TheVariants as kind
use Rattle.kat_grammar.specs.declared.marks.Extreme.TheVariants as extreme
use Rattle.kat_grammar.specs.declared.marks.Operator.TheVariants as operator
use Rattle.kat_grammar.specs.declared.marks.Mark.{Mark}
use Rattle.kat_grammar.specs.declared.marks.Mark.TheVariants as mark
use Rattle.kat_grammar.specs.declared.marks.Placed.{Placed}

-- a reserved word by what it is for, or a word that names something
abbrev pub mark_of_word : ℕ → Mark
mark_of_word word =
    if word == code_of (codes "type") then mark.TypeLine
    else if word == code_of (codes "state") then mark.StateLine
    else if word == code_of (codes "op") then mark.OpLine
    else if word == code_of (codes "query") then mark.QueryLine
    else if word == code_of (codes "table") then mark.Table
    else if word == code_of (codes "rank") then mark.Rank
    else if word == code_of (codes "time") then mark.Time
    else if word == code_of (codes "replica") then mark.Replica
    else if word == code_of (codes "if") then mark.If
    else if word == code_of (codes "then") then mark.Then
    else if word == code_of (codes "else") then mark.Else
    else if word == code_of (codes "not") then mark.Not
    else if word == code_of (codes "or") then mark.Operator operator.Or
    else if word == code_of (codes "and") then mark.Operator operator.And
    else if word == code_of (codes "max") then mark.Extreme extreme.Greatest
    else if word == code_of (codes "min") then mark.Extreme extreme.Least
    else if word == code_of (codes "true") then mark.Truth true
    else if word == code_of (codes "false") then mark.Truth false
    else if word == code_of (codes "bool") then mark.Sort sort.Bool
    else if word == code_of (codes "int") then mark.Sort sort.Int
    else if word == code_of (codes "nat") then mark.Sort sort.Nat
    else if word == code_of (codes "name") then mark.Sort sort.Name
    else if is_reserved word then mark.Other
    else mark.Word word

-- a sign by its bytes: ( ) [ ] , : ; = < + - and the pairs <= := ->
abbrev pub mark_of_sign : ℕ → ℕ → Mark
mark_of_sign first second =
    if first == 40 then mark.Open
    else if first == 41 then mark.Close
    else if first == 91 then mark.OpenBracket
    else if first == 93 then mark.CloseBracket
    else if first == 44 then mark.Comma
    else if first == 59 then mark.Semicolon
    else if first == 61 then mark.Operator operator.Same
    else if first == 43 then mark.Operator operator.Plus
    else if (first == 58) && (second == 61) then mark.Assign
    else if first == 58 then mark.Colon
    else if (first == 60) && (second == 61) then mark.Operator operator.AtMost
    else if first == 60 then mark.Operator operator.Less
    else if (first == 45) && (second == 62) then mark.Arrow
    else if first == 45 then mark.Operator operator.Minus
    else mark.Other

abbrev pub mark_of : TokenKind → Mark
mark_of (kind.Word word) = mark_of_word word
mark_of (kind.Name name) = mark.Literal name
mark_of (kind.Number number) = mark.Number number
mark_of (kind.Sign first second) = mark_of_sign first second
mark_of kind.Newline = mark.Newline

abbrev pub is_newline : Mark → Bool
is_newline mark.Newline = true
is_newline other_mark = false

-- in format 2 the word `clear` names nothing
abbrev pub in_format : Bool → Mark → Mark
in_format second (mark.Word word) = if second && (word == code_of (codes "clear")) then mark.Clear else mark.Word word
in_format second m = m

-- the first line of a text of format 2: `type`, a word, and the number 2
abbrev pub says_second : Mark → Mark → Mark → Bool
says_second mark.TypeLine (mark.Word word) (mark.Number n) = n == 2
says_second first name format = false

abbrev pub begins_second : List Token → Bool
begins_second (first ∷ (name ∷ (format ∷ tokens))) = says_second (mark_of first.kind) (mark_of name.kind) (mark_of format.kind)
begins_second tokens = false

-- the tokens are those of a text of format 2, whose first line may come after blank ones
abbrev pub is_second : List Token → Bool
is_second [] = false
is_second (token ∷ tokens) = if is_newline (mark_of token.kind) then is_second tokens else begins_second (token ∷ tokens)

-- a token's mark in its format, with the byte at which the token begins
abbrev pub token_placed : Bool → Token → Placed
token_placed second token = record { mark = in_format second (mark_of token.kind); at = token.from }

-- the marks of tokens, as they are in the format of the text
abbrev pub placed : List Token → List Placed
placed tokens = map (token_placed (is_second tokens)) tokens
