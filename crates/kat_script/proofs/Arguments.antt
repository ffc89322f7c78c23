-- The constants of a text that is read are within the limits of arguments.
use Rattle.std.proofs.Common.{◌≡◌, ℕ, ◌≤◌, Bool, true, false, List, [], ◌∷◌, ◌++◌, refl, sym, subst, cond, arith, append_assoc, append-nil, Option}
use Rattle.std.specs.Prelude.{◌==◌, ◌&&◌, map, pos, neg_ℤ, unsigned_abs, ◌≤ℤ◌, codes}
use Rattle.std.specs.List.{AllByRecursion, onto_first}
use Rattle.std.proofs.lemmas.Int.{ints}
use Rattle.kat_num.specs.Names.{IsNameCode, code_of}
use Rattle.kat_num.specs.Values.{IsArgument}
use Rattle.kat_num.specs.declared.values.Sort.{Sort}
use Rattle.kat_num.specs.declared.values.Sort.TheVariants as sort
use Rattle.kat_num.specs.declared.values.TheConstants.{NUMBER_LIMIT}
use Rattle.kat_lex.specs.Kinds.{IsKindRead}
use Rattle.kat_lex.specs.TextLines.{is_newline}
use Rattle.kat_lex.specs.Tokens.{Lexes}
use Rattle.kat_lex.specs.Tokens.Lexes.{ends, stops, gap, token}
use Rattle.kat_lex.specs.Words.{is_reserved}
use Rattle.kat_lex.specs.declared.lexer.LexError.{LexError}
use Rattle.kat_lex.specs.declared.lexer.Token.{Token}
use Rattle.kat_lex.specs.declared.lexer.TokenKind.{TokenKind}
use Rattle.kat_lex.specs.declared.lexer.TokenKind.TheVariants as kind
use Rattle.kat_lex.proofs.PieceLemmas.{kind_known}
use Rattle.kat_script.specs.Grammar.{Says, constant_marks, constants_marks, line_marks, time_marks}
use Rattle.kat_script.specs.Judged.{AreArguments}
use Rattle.kat_script.specs.Marks.{mark_of, marks_of}
use Rattle.kat_script.specs.Rules.{fit, has_sort, value_of}
use Rattle.kat_script.specs.Script.{text_lines}
use Rattle.kat_script.specs.declared.marks.Mark.{Mark}
use Rattle.kat_script.specs.declared.marks.Mark.TheVariants.{Word, Number, Name, True, False, At, Minus, Other}
use Rattle.kat_script.specs.declared.said.Constant.{Constant}
use Rattle.kat_script.specs.declared.said.Constant.TheVariants.{Natural, Negated, Named, Truth}
use Rattle.kat_script.specs.declared.said.Said.{Said}
use Rattle.kat_script.specs.declared.said.Said.TheVariants.{Replicas, Does, Ships, Delivers, Asks, Shows}

-- the tokens are within the limits of words, names and numbers
abbrev pub AreRead : List Token → Type 0
AreRead [] = Unit {0}
AreRead (first ∷ tokens) = IsKindRead first.kind × AreRead tokens

pub tokens_read : (text : List ℕ) (at : ℕ) (tokens : List Token) (end : Option LexError) → Lexes text at tokens end → AreRead tokens
tokens_read text at _ _ (ends past) = tt
tokens_read text at _ _ (stops inside is) = tt
tokens_read text at _ _ (gap {tokens = tokens} {end = end} to inside is more) = tokens_read text to tokens end more
tokens_read text at _ _ (token {tokens = tokens} {end = end} first inside is more) =
    (kind_known text at first.to first.kind is.kind, tokens_read text first.to tokens end more)

-- and so are the tokens of each line
abbrev pub AreReadLines : List (List Token) → Type 0
AreReadLines lines = AllByRecursion AreRead lines

onto_read : (first : Token) (lines : List (List Token)) → IsKindRead first.kind → AreReadLines lines → AreReadLines (onto_first first lines)
onto_read first [] h all = ((h, tt), tt)
onto_read first (line ∷ lines) h all = ((h, all.0), all.1)

cut_read : (b : Bool) (first : Token) (lines : List (List Token)) → IsKindRead first.kind → AreReadLines lines
    → AreReadLines (cond b ([] ∷ lines) (onto_first first lines))
cut_read true first lines h all = (tt, all)
cut_read false first lines h all = onto_read first lines h all

pub lines_read : (tokens : List Token) → AreRead tokens → AreReadLines (text_lines tokens)
lines_read [] h = (tt, tt)
lines_read (first ∷ tokens) h = cut_read (is_newline first) first (text_lines tokens) h.0 (lines_read tokens h.1)

abbrev IsMarkRead : Mark → Type 0
IsMarkRead (Number n) = n ≤ NUMBER_LIMIT
IsMarkRead (Name code) = IsNameCode code
IsMarkRead (Word w) = Unit {0}
IsMarkRead True = Unit {0}
IsMarkRead False = Unit {0}
IsMarkRead At = Unit {0}
IsMarkRead Minus = Unit {0}
IsMarkRead Other = Unit {0}

abbrev AreMarksRead : List Mark → Type 0
AreMarksRead [] = Unit {0}
AreMarksRead (mark ∷ marks) = IsMarkRead mark × AreMarksRead marks

word_read : (a b c d : Bool) (w : ℕ) → IsMarkRead (cond a True (cond b False (cond c At (cond d Other (Word w)))))
word_read true b c d w = tt
word_read false true c d w = tt
word_read false false true d w = tt
word_read false false false true w = tt
word_read false false false false w = tt

sign_read : (b : Bool) → IsMarkRead (cond b Minus Other)
sign_read true = tt
sign_read false = tt

mark_read : (k : TokenKind) → IsKindRead k → IsMarkRead (mark_of k)
mark_read (kind.Word w) h = word_read (w == code_of (codes "true")) (w == code_of (codes "false")) (w == code_of (codes "at")) (is_reserved w) w
mark_read (kind.Name name) h = h
mark_read (kind.Number n) h = h
mark_read (kind.Sign first second) h = sign_read ((first == 45) && (second == 0))
mark_read kind.Newline h = tt

marks_read : (tokens : List Token) → AreRead tokens → AreMarksRead (marks_of tokens)
marks_read [] h = tt
marks_read (first ∷ tokens) h = (mark_read first.kind h.0, marks_read tokens h.1)

abbrev IsConstantRead : Constant → Type 0
IsConstantRead (Natural n) = n ≤ NUMBER_LIMIT
IsConstantRead (Negated n) = n ≤ NUMBER_LIMIT
IsConstantRead (Named name) = IsNameCode name
IsConstantRead (Truth truth) = Unit {0}

abbrev pub AreConstantsRead : List Constant → Type 0
AreConstantsRead [] = Unit {0}
AreConstantsRead (constant ∷ constants) = IsConstantRead constant × AreConstantsRead constants

front_read : (constant : Constant) (marks : List Mark) → AreMarksRead (constant_marks constant ++ marks) → IsConstantRead constant × AreMarksRead marks
front_read (Natural n) marks h = h
front_read (Negated n) marks h = (h.1.0, h.1.1)
front_read (Named name) marks h = h
front_read (Truth true) marks h = (tt, h.1)
front_read (Truth false) marks h = (tt, h.1)

constants_read : (constants : List Constant) (marks : List Mark) → AreMarksRead (constants_marks constants ++ marks) → AreConstantsRead constants
constants_read [] marks h = tt
constants_read (constant ∷ constants) marks h =
    let more : AreMarksRead (constant_marks constant ++ (constants_marks constants ++ marks)) =
    subst AreMarksRead (append_assoc (constant_marks constant) (constants_marks constants) marks) h in
    let front = front_read constant (constants_marks constants ++ marks) more in
    (front.0, constants_read constants marks front.1)

-- the arguments of what a line says
abbrev pub args_of : Said → List Constant
args_of (Does r op args time) = args
args_of (Asks r query args) = args
args_of said = []

args_read : (said : Said) → AreMarksRead (line_marks said) → AreConstantsRead (args_of said)
args_read (Replicas n) h = tt
args_read (Does r op args time) h = constants_read args (time_marks time) h.1.1.1
args_read (Ships r packet) h = tt
args_read (Delivers packet r) h = tt
args_read (Asks r query args) h = constants_read args [] (subst AreMarksRead (sym (append-nil (constants_marks args))) h.1.1.1)
args_read (Shows r) h = tt

pub said_read : (tokens : List Token) (said : Said) → AreRead tokens → Says tokens said → AreConstantsRead (args_of said)
said_read tokens said h says = args_read said (subst AreMarksRead says.written (marks_read tokens h))

negated_within : (n : ℕ) → n ≤ NUMBER_LIMIT → unsigned_abs (neg_ℤ (pos n)) ≤ NUMBER_LIMIT
negated_within n h = omega (arith, ints)

not_below : (n : ℕ) → pos 0 ≤ℤ pos n
not_below n = omega (arith, ints)

is_argument : (constant : Constant) (s : Sort) → has_sort constant s ≡ true → IsConstantRead constant → IsArgument s (value_of constant)
is_argument (Natural n) sort.Nat e h = record { fits = not_below n; named = tt; within = h }
is_argument (Natural n) sort.Int e h = record { fits = tt; named = tt; within = h }
is_argument (Natural n) sort.Bool e h = absurd cc
is_argument (Natural n) sort.Name e h = absurd cc
is_argument (Negated n) sort.Int e h = record { fits = tt; named = tt; within = negated_within n h }
is_argument (Negated n) sort.Nat e h = absurd cc
is_argument (Negated n) sort.Bool e h = absurd cc
is_argument (Negated n) sort.Name e h = absurd cc
is_argument (Named name) sort.Name e h = record { fits = tt; named = h; within = tt }
is_argument (Named name) sort.Int e h = absurd cc
is_argument (Named name) sort.Nat e h = absurd cc
is_argument (Named name) sort.Bool e h = absurd cc
is_argument (Truth truth) sort.Bool e h = record { fits = tt; named = tt; within = tt }
is_argument (Truth truth) sort.Int e h = absurd cc
is_argument (Truth truth) sort.Nat e h = absurd cc
is_argument (Truth truth) sort.Name e h = absurd cc

both_true : (a b : Bool) → (a && b) ≡ true → (a ≡ true) × (b ≡ true)
both_true true true e = (refl, refl)
both_true true false e = absurd cc
both_true false b e = absurd cc

pub are_arguments : (args : List Constant) (sorts : List Sort) → fit args sorts ≡ true → AreConstantsRead args → AreArguments sorts (map value_of args)
are_arguments [] [] e h = tt
are_arguments [] (s ∷ sorts) e h = absurd cc
are_arguments (arg ∷ args) [] e h = absurd cc
are_arguments (arg ∷ args) (s ∷ sorts) e h =
    let b = both_true (has_sort arg s) (fit args sorts) e in
    (is_argument arg s b.0 h.0, are_arguments args sorts b.1 h.1)
