-- The tokens of a line, as far as lines tell them apart.
use Rattle.std.specs.Prelude.{ℕ, Bool, true, false, ◌&&◌, ◌||◌, ◌==◌, List, [], ◌∷◌, map, codes, if◌then◌else◌}
use Rattle.kat_num.specs.Names.{code_of}
use Rattle.kat_lex.specs.Words.{is_reserved}
use Rattle.kat_lex.specs.declared.lexer.TokenKind.{TokenKind}
use Rattle.kat_lex.specs.declared.lexer.TokenKind.TheVariants as kind
use Rattle.kat_lex.specs.declared.lexer.Token.{Token}
use Rattle.kat_script.specs.declared.marks.Mark.{Mark}
use Rattle.kat_script.specs.declared.marks.Mark.TheVariants.{Word, Number, Name, True, False, At, Minus, Other}

-- a word that names something, or one of the three reserved words that scripts have
abbrev pub mark_of_word : ℕ → Mark
mark_of_word word =
    if word == code_of (codes "true") then True
    else if word == code_of (codes "false") then False
    else if word == code_of (codes "at") then At
    else if is_reserved word then Other
    else Word word

-- what a token is for a line: of the signs only `-` is one of its marks
abbrev pub mark_of : TokenKind → Mark
mark_of (kind.Word word) = mark_of_word word
mark_of (kind.Name name) = Name name
mark_of (kind.Number n) = Number n
mark_of (kind.Sign first second) = if (first == 45) && (second == 0) then Minus else Other
mark_of kind.Newline = Other

-- the marks of a line of tokens
abbrev pub marks_of : List Token → List Mark
marks_of tokens = map (λ (token : Token). mark_of token.kind) tokens

-- a constant ends with such a token
abbrev pub ends_constant : Mark → Bool
ends_constant (Number n) = true
ends_constant (Name name) = true
ends_constant True = true
ends_constant False = true
ends_constant mark = false

-- a constant begins with such a token
abbrev pub begins_constant : Mark → Bool
begins_constant Minus = true
begins_constant mark = ends_constant mark

-- one constant ends where the next one begins, with no blank between them
abbrev pub touches : Token → Token → Bool
touches left right =
    ends_constant (mark_of left.kind) && begins_constant (mark_of right.kind) && (left.to == right.from)

-- a token touches the next one of a list, or that one touches the one after it, and so on
abbrev pub touches_next : Token → List Token → Bool
touches_next left [] = false
touches_next left (right ∷ tokens) = touches left right || touches_next right tokens

-- some two neighbours touch
abbrev pub some_touch : List Token → Bool
some_touch [] = false
some_touch (left ∷ tokens) = touches_next left tokens
