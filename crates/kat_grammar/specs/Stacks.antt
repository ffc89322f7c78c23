-- Used inside only.
-- How an expression is read, one token at a time.
use Rattle.std.specs.Prelude.{ℕ, ◌+◌, nat_le, Bool, true, false, List, [], ◌∷◌, Option, None, Some, if◌then◌else◌}
use Rattle.kat_grammar.specs.Phrases.{Form, left_level, level_of, level_of_operator, right_level}
use Rattle.kat_grammar.specs.Phrases.Form.{constant, word, entry, negation, joined, chosen, branches, parens}
use Rattle.kat_grammar.specs.Sizes.{Load}
use Rattle.kat_grammar.specs.declared.marks.Extreme.{Extreme}
use Rattle.kat_grammar.specs.declared.marks.Operator.{Operator}
use Rattle.kat_grammar.specs.declared.marks.Operator.TheVariants as operator
use Rattle.kat_grammar.specs.declared.marks.Mark.{Mark}
use Rattle.kat_grammar.specs.declared.marks.Mark.TheVariants as mark
use Rattle.kat_grammar.specs.declared.phrases.Constant.{Constant}
use Rattle.kat_grammar.specs.declared.phrases.Constant.TheVariants.{Natural, Negative, Literal, Truth}
use Rattle.kat_grammar.specs.declared.phrases.Word.{Word}

-- what is open around an operand, up to it: in a stack the innermost comes first
pub data Part : Type 0 where
  left_part : Operator → (at : ℕ) → (left : Form) → Part
  not_part : (at : ℕ) → Part
  open_part : (open_at : ℕ) → Part
  first_part : Extreme → (at open_at : ℕ) → Part
  second_part : Extreme → (at open_at : ℕ) → (left : Form) → (comma : ℕ) → Part
  if_part : (at : ℕ) → Part
  then_part : (at : ℕ) → (condition : Form) → (then_at : ℕ) → Part
  else_part : (at : ℕ) → (condition : Form) → (then_at : ℕ) → (left : Form) → (else_at : ℕ) → Part

-- what was read of an expression: an operand is wanted, or begun, or there is one
pub data Reading : Type 0 where
  want : List Part → Reading
  minus_read : (at : ℕ) → List Part → Reading
  extreme_read : Extreme → (at : ℕ) → List Part → Reading
  table_read : Word → (open_at : ℕ) → List Part → Reading
  key_read : Word → (open_at : ℕ) → Word → List Part → Reading
  have : Form → List Part → Reading

-- how tightly the operand has to bind
abbrev pub wanted : List Part → ℕ
wanted (left_part op at a ∷ s) = right_level op
wanted (not_part at ∷ s) = 3
wanted s = 0

-- how many levels are open
abbrev pub depth : List Part → ℕ
depth [] = 0
depth (left_part op at a ∷ s) = depth s
depth (part ∷ s) = depth s + 1

abbrev pub word_at : ℕ → ℕ → Word
word_at code at = record { at = at; code = code }

-- a token where an operand is expected
abbrev pub begin_operand : List Part → Mark → ℕ → Option Reading
begin_operand s (mark.Number n) at = Some (have (constant (Natural at n)) s)
begin_operand s (mark.Literal name) at = Some (have (constant (Literal at name)) s)
begin_operand s (mark.Truth b) at = Some (have (constant (Truth at b)) s)
begin_operand s (mark.Word code) at = Some (have (word (word_at code at)) s)
begin_operand s (mark.Operator operator.Minus) at = Some (minus_read at s)
begin_operand s (mark.Extreme e) at = Some (extreme_read e at s)
begin_operand s mark.If at = if nat_le (wanted s) 0 then Some (want (if_part at ∷ s)) else None
begin_operand s mark.Not at = if nat_le (wanted s) 3 then Some (want (not_part at ∷ s)) else None
begin_operand s mark.Open at = Some (want (open_part at ∷ s))
begin_operand s other_mark at = None

-- the operand ends with this one, and so do all that end with it
abbrev pub ended : Form → List Part → Form
ended f (left_part op at a ∷ s) = ended (joined op at a f) s
ended f (not_part at ∷ s) = ended (negation at f) s
ended f (else_part at c then_at a else_at ∷ s) = ended (branches at c then_at a else_at f) s
ended f s = f

-- what is open around it
abbrev pub around : List Part → List Part
around (left_part op at a ∷ s) = around s
around (not_part at ∷ s) = around s
around (else_part at c then_at a else_at ∷ s) = around s
around s = s

-- an operator after the operand: it takes as much to its left as binds more tightly
abbrev pub place : Operator → ℕ → Form → List Part → Option Reading
place op at f s = if nat_le (left_level op) (level_of f) then Some (want (left_part op at f ∷ s)) else None

abbrev pub attach : Operator → ℕ → Form → List Part → Option Reading
attach op at f (left_part other other_at a ∷ s) =
    if nat_le (right_level other) (level_of_operator op) then place op at f (left_part other other_at a ∷ s) else attach op at (joined other other_at a f) s
attach op at f (not_part not_at ∷ s) =
    if nat_le 3 (level_of_operator op) then place op at f (not_part not_at ∷ s) else attach op at (negation not_at f) s
attach op at f s = place op at f s

abbrev pub open_entry : Form → List Part → ℕ → Option Reading
open_entry (word w) s at = Some (table_read w at s)
open_entry f s at = None

abbrev pub close : Form → List Part → ℕ → Option Reading
close f (open_part open_at ∷ s) at = Some (have (parens open_at f at) s)
close f (second_part e e_at open_at a comma ∷ s) at = Some (have (chosen e e_at open_at a comma f at) s)
close f s at = None

abbrev pub go_second : Form → List Part → ℕ → Option Reading
go_second f (first_part e e_at open_at ∷ s) at = Some (want (second_part e e_at open_at f at ∷ s))
go_second f s at = None

abbrev pub go_then : Form → List Part → ℕ → Option Reading
go_then f (if_part if_at ∷ s) at = Some (want (then_part if_at f at ∷ s))
go_then f s at = None

abbrev pub go_else : Form → List Part → ℕ → Option Reading
go_else f (then_part if_at c then_at ∷ s) at = Some (want (else_part if_at c then_at f at ∷ s))
go_else f s at = None

-- a token after an operand
abbrev pub after_operand : Form → List Part → Mark → ℕ → Option Reading
after_operand f s (mark.Operator op) at = attach op at f s
after_operand f s mark.OpenBracket at = open_entry f s at
after_operand f s mark.Close at = close (ended f s) (around s) at
after_operand f s mark.Comma at = go_second (ended f s) (around s) at
after_operand f s mark.Then at = go_then (ended f s) (around s) at
after_operand f s mark.Else at = go_else (ended f s) (around s) at
after_operand f s other_mark at = None

abbrev pub after_minus : ℕ → List Part → Mark → ℕ → Option Reading
after_minus minus_at s (mark.Number n) at = Some (have (constant (Negative minus_at at n)) s)
after_minus minus_at s other_mark at = None

abbrev pub after_extreme : Extreme → ℕ → List Part → Mark → ℕ → Option Reading
after_extreme e e_at s mark.Open at = Some (want (first_part e e_at at ∷ s))
after_extreme e e_at s other_mark at = None

abbrev pub after_table : Word → ℕ → List Part → Mark → ℕ → Option Reading
after_table table open_at s (mark.Word code) at = Some (key_read table open_at (word_at code at) s)
after_table table open_at s other_mark at = None

abbrev pub after_key : Word → ℕ → Word → List Part → Mark → ℕ → Option Reading
after_key table open_at key s mark.CloseBracket at = Some (have (entry table open_at key at) s)
after_key table open_at key s other_mark at = None

-- an expression reads on by a token, if one goes on so
abbrev pub read_on : Reading → Mark → ℕ → Option Reading
read_on (want s) m at = begin_operand s m at
read_on (minus_read minus_at s) m at = after_minus minus_at s m at
read_on (extreme_read e e_at s) m at = after_extreme e e_at s m at
read_on (table_read table open_at s) m at = after_table table open_at s m at
read_on (key_read table open_at key s) m at = after_key table open_at key s m at
read_on (have f s) m at = after_operand f s m at

-- whether the token read last is a node's own
abbrev pub opens_node : List Part → Bool
opens_node (left_part op at a ∷ s) = true
opens_node (not_part at ∷ s) = true
opens_node (if_part at ∷ s) = true
opens_node s = false

abbrev pub is_positive : Constant → Bool
is_positive (Negative at number_at n) = false
is_positive c = true

abbrev pub is_leaf : Form → Bool
is_leaf (constant c) = is_positive c
is_leaf (word w) = true
is_leaf f = false

abbrev pub is_node_read : Reading → Bool
is_node_read (want s) = opens_node s
is_node_read (minus_read at s) = true
is_node_read (extreme_read e at s) = true
is_node_read (table_read table open_at s) = false
is_node_read (key_read table open_at key s) = false
is_node_read (have f s) = is_leaf f

abbrev pub stack_of_reading : Reading → List Part
stack_of_reading (want s) = s
stack_of_reading (minus_read at s) = s
stack_of_reading (extreme_read e at s) = s
stack_of_reading (table_read table open_at s) = s
stack_of_reading (key_read table open_at key s) = s
stack_of_reading (have f s) = s

-- what the token read last adds
abbrev pub load_read : Reading → Load
load_read r = record { depth = depth (stack_of_reading r); node = is_node_read r }
