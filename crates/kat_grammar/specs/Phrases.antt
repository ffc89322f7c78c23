-- Expressions: what they are written with, and how they bind.
use Rattle.std.specs.Prelude.{ℕ, ◌+◌, ◌≤◌, List, [], ◌∷◌, ◌++◌}
use Rattle.kat_grammar.specs.declared.marks.Extreme.{Extreme}
use Rattle.kat_grammar.specs.declared.marks.Operator.{Operator}
use Rattle.kat_grammar.specs.declared.marks.Operator.TheVariants as operator
use Rattle.kat_grammar.specs.declared.marks.Mark.{Mark}
use Rattle.kat_grammar.specs.declared.marks.Mark.TheVariants as mark
use Rattle.kat_grammar.specs.declared.marks.Placed.{Placed}
use Rattle.kat_grammar.specs.declared.phrases.Constant.{Constant}
use Rattle.kat_grammar.specs.declared.phrases.Constant.TheVariants.{Natural, Negative, Literal, Truth}
use Rattle.kat_grammar.specs.declared.phrases.Phrase.{Phrase}
use Rattle.kat_grammar.specs.declared.phrases.Phrase.TheVariants as tree
use Rattle.kat_grammar.specs.declared.phrases.Word.{Word}

-- an expression as plain data, without the places at which a program keeps its parts; each part has the
-- place of each of its tokens
pub data Form : Type 0 where
  constant : Constant → Form
  word : Word → Form
  entry : (table : Word) (open_at : ℕ) (key : Word) (close_at : ℕ) → Form
  negation : (at : ℕ) → Form → Form
  joined : Operator → (at : ℕ) → (left right : Form) → Form
  chosen : Extreme → (at open_at : ℕ) → (left : Form) → (comma : ℕ) → (right : Form) → (close_at : ℕ) → Form
  branches : (at : ℕ) → (condition : Form) → (then_at : ℕ) → (left : Form) → (else_at : ℕ) → (right : Form) → Form
  parens : (open_at : ℕ) → (inner : Form) → (close_at : ℕ) → Form

-- what an expression of the program says
abbrev pub form_of : Phrase → Form
form_of (tree.Constant c) = constant c
form_of (tree.Word w) = word w
form_of (tree.Entry table open_at key close_at) = entry table open_at key close_at
form_of (tree.Not' at _ a) = negation at (form_of a)
form_of (tree.Binary' op at _ a _ b) = joined op at (form_of a) (form_of b)
form_of (tree.Extreme' e at open_at _ a comma _ b close_at) = chosen e at open_at (form_of a) comma (form_of b) close_at
form_of (tree.If' at _ c then_at _ a else_at _ b) = branches at (form_of c) then_at (form_of a) else_at (form_of b)
form_of (tree.Parens' open_at _ a close_at) = parens open_at (form_of a) close_at

-- a token as it is written
abbrev pub token : Mark → ℕ → Placed
token mark at = record { mark = mark; at = at }

abbrev pub word_token : Word → Placed
word_token w = token (mark.Word w.code) w.at

-- how a constant is written
abbrev pub constant_tokens : Constant → List Placed
constant_tokens (Natural at n) = token (mark.Number n) at ∷ []
constant_tokens (Negative at number_at n) = token (mark.Operator operator.Minus) at ∷ token (mark.Number n) number_at ∷ []
constant_tokens (Literal at name) = token (mark.Literal name) at ∷ []
constant_tokens (Truth at b) = token (mark.Truth b) at ∷ []

-- how an expression is written: the grammar is this printer
abbrev pub form_tokens : Form → List Placed
form_tokens (constant c) = constant_tokens c
form_tokens (word w) = word_token w ∷ []
form_tokens (entry table open_at key close_at) =
    word_token table ∷ token mark.OpenBracket open_at ∷ word_token key ∷ token mark.CloseBracket close_at ∷ []
form_tokens (negation at a) = token mark.Not at ∷ form_tokens a
form_tokens (joined op at a b) = form_tokens a ++ token (mark.Operator op) at ∷ form_tokens b
form_tokens (chosen e at open_at a comma b close_at) =
    token (mark.Extreme e) at ∷ token mark.Open open_at ∷ form_tokens a ++ token mark.Comma comma ∷ form_tokens b ++ token mark.Close close_at ∷ []
form_tokens (branches at c then_at a else_at b) =
    token mark.If at ∷ form_tokens c ++ token mark.Then then_at ∷ form_tokens a ++ token mark.Else else_at ∷ form_tokens b
form_tokens (parens open_at a close_at) = token mark.Open open_at ∷ form_tokens a ++ token mark.Close close_at ∷ []

-- how tightly an operator binds: `or` the least, then `and`, (`not`), comparisons, sums
abbrev pub level_of_operator : Operator → ℕ
level_of_operator operator.Or = 1
level_of_operator operator.And = 2
level_of_operator operator.Less = 4
level_of_operator operator.AtMost = 4
level_of_operator operator.Same = 4
level_of_operator operator.Plus = 5
level_of_operator operator.Minus = 5

-- how tightly the left and the right operand have to bind: all are left associative, but comparisons aren't chained
abbrev pub left_level : Operator → ℕ
left_level operator.Or = 1
left_level operator.And = 2
left_level operator.Less = 5
left_level operator.AtMost = 5
left_level operator.Same = 5
left_level operator.Plus = 5
left_level operator.Minus = 5

abbrev pub right_level : Operator → ℕ
right_level op = level_of_operator op + 1

-- how tightly an expression binds: `if` the least, and what ends with its own last token the most
abbrev pub level_of : Form → ℕ
level_of (branches at c then_at a else_at b) = 0
level_of (joined op at a b) = level_of_operator op
level_of (negation at a) = 3
level_of form = 6

-- each operand binds tightly enough to be where it is
abbrev pub IsFormed : Form → Type 0
IsFormed (negation at a) = IsFormed a × (3 ≤ level_of a)
IsFormed (joined op at a b) = IsFormed a × IsFormed b × (left_level op ≤ level_of a) × (right_level op ≤ level_of b)
IsFormed (chosen e at open_at a comma b close_at) = IsFormed a × IsFormed b
IsFormed (branches at c then_at a else_at b) = IsFormed c × IsFormed a × IsFormed b
IsFormed (parens open_at a close_at) = IsFormed a
IsFormed form = Unit {0}
