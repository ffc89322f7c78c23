-- A line of calls is the line of a script at replica 1.
use Rattle.std.proofs.Common.{◌≡◌, ℕ, ◌<◌, true, false, List, [], ◌∷◌, length, refl, sym, ◌∙◌, ap, subst, append-nil, arith, Option, None, Some}
use Rattle.std.specs.Prelude.{◌&&◌, ◌||◌, ◌==◌, insert}
use Rattle.kat_num.specs.One.{IsTheOne}
use Rattle.kat_lex.specs.declared.lexer.Token.{Token}
use Rattle.kat_lex.specs.declared.lexer.TokenKind.TheVariants as kind
use Rattle.kat_script.specs.Grammar.{Says, constants_marks, line_marks}
use Rattle.kat_script.specs.Marks.{begins_constant, ends_constant, mark_of, marks_of, some_touch, touches, touches_next}
use Rattle.kat_script.specs.declared.marks.Mark.{Mark}
use Rattle.kat_script.specs.declared.marks.Mark.TheVariants.{Word, Number}
use Rattle.kat_script.specs.declared.said.Said.{Said}
use Rattle.kat_script.specs.declared.said.Said.TheVariants.{Replicas, Does, Ships, Delivers, Asks, Shows}
use Rattle.kat_script.proofs.Saying.{SaysOrNot, nothing, one_said, says_or_not, something}
use Rattle.kat_actions.specs.Grammar.{Calls, Gives, called_by, head_of}
use Rattle.kat_actions.specs.declared.calls.Called.{Called}
use Rattle.kat_actions.specs.declared.calls.Verb.{Verb}
use Rattle.kat_actions.specs.declared.calls.Verb.TheVariants.{Do, Ask}

abbrev pub replica : Token
replica = record { kind = kind.Number 1; from = 0; to = 0 }

abbrev pub at_replica : List Token → List Token
at_replica [] = []
at_replica (head ∷ tokens) = head ∷ replica ∷ tokens

pub inserted : (tokens : List Token) → 0 < length tokens → insert tokens 1 replica ≡ at_replica tokens
inserted [] some = absurd (omega arith)
inserted (head ∷ tokens) some = refl

abbrev script_said : Verb → Called → Said
script_said Do called = Does 1 called.name called.args None
script_said Ask called = Asks 1 called.name called.args

script_marks : (verb : Verb) (called : Called) → line_marks (script_said verb called) ≡ Word (head_of verb) ∷ Number 1 ∷ Word called.name ∷ constants_marks called.args
script_marks Do called = ap (λ marks. Word (head_of Do) ∷ Number 1 ∷ Word called.name ∷ marks) (append-nil (constants_marks called.args))
script_marks Ask called = refl

called_back : (verb : Verb) (called : Called) → called_by verb (Some (script_said verb called)) ≡ Some called
called_back Do called = refl
called_back Ask called = refl

-- words touch nothing
word_left : (left right : Token) (word : ℕ) → mark_of left.kind ≡ Word word → touches left right ≡ false
word_left left right word is = ap (λ (m : Mark). ends_constant m && begins_constant (mark_of right.kind) && (left.to == right.from)) is

word_right : (right : Token) (word : ℕ) → mark_of right.kind ≡ Word word → touches replica right ≡ false
word_right right word is = ap (λ (m : Mark). true && begins_constant m && (0 == right.from)) is

touch_same : (head name : Token) (rest : List Token) (first second : ℕ) → mark_of head.kind ≡ Word first → mark_of name.kind ≡ Word second
    → some_touch (head ∷ replica ∷ name ∷ rest) ≡ some_touch (head ∷ name ∷ rest)
touch_same head name rest first second e f =
    let p = word_left head replica first e in
    let q = word_right name second f in
    let r = word_left head name first e in
    (λ i. p i || (q i || touches_next name rest)) ∙ sym (λ i. r i || touches_next name rest)

to_script : (verb : Verb) (tokens : List Token) (called : Called) → Calls verb tokens called → Says (at_replica tokens) (script_said verb called)
to_script verb [] called c = let e = c.written in absurd cc
to_script verb (head ∷ []) called c = let e = c.written in absurd cc
to_script verb (head ∷ name ∷ rest) called c =
    let e = c.written in
    let first : mark_of head.kind ≡ Word (head_of verb) = cc in
    let second : mark_of name.kind ≡ Word called.name = cc in
    let others : marks_of rest ≡ constants_marks called.args = cc in
    record {
      written = (λ i. first i ∷ Number 1 ∷ second i ∷ others i) ∙ sym (script_marks verb called);
      apart = touch_same head name rest (head_of verb) called.name first second ∙ c.apart;
    }

from_marks : (verb : Verb) (tokens : List Token) (called : Called) (r : ℕ) → marks_of (at_replica tokens) ≡ Word (head_of verb) ∷ Number r ∷ Word called.name ∷ constants_marks called.args
    → some_touch (at_replica tokens) ≡ false → Calls verb tokens called
from_marks verb [] called r e apart = absurd cc
from_marks verb (head ∷ []) called r e apart = absurd cc
from_marks verb (head ∷ name ∷ rest) called r e apart =
    let first : mark_of head.kind ≡ Word (head_of verb) = cc in
    let second : mark_of name.kind ≡ Word called.name = cc in
    let others : marks_of rest ≡ constants_marks called.args = cc in
    record {
      written = λ i. first i ∷ second i ∷ others i;
      apart = sym (touch_same head name rest (head_of verb) called.name first second) ∙ apart;
    }

same_called : (verb : Verb) (tokens : List Token) (some called : Called) → Some some ≡ Some called → Calls verb tokens some → Calls verb tokens called
same_called verb tokens some called e c = let same : some ≡ called = cc in subst (λ (it : Called). Calls verb tokens it) same c

from_script : (verb : Verb) (tokens : List Token) (said : Said) (called : Called) → Says (at_replica tokens) said → called_by verb (Some said) ≡ Some called → Calls verb tokens called
from_script Do tokens (Replicas n) called s e = absurd cc
from_script Do tokens (Does r op args None) called s e =
    same_called Do tokens (record { name = op; args = args }) called e
    (from_marks Do tokens (record { name = op; args = args }) r
    (s.written ∙ ap (λ marks. Word (head_of Do) ∷ Number r ∷ Word op ∷ marks) (append-nil (constants_marks args))) s.apart)
from_script Do tokens (Does r op args (Some time)) called s e = absurd cc
from_script Do tokens (Ships r packet) called s e = absurd cc
from_script Do tokens (Delivers packet r) called s e = absurd cc
from_script Do tokens (Asks r query args) called s e = absurd cc
from_script Do tokens (Shows r) called s e = absurd cc
from_script Ask tokens (Replicas n) called s e = absurd cc
from_script Ask tokens (Does r op args time) called s e = absurd cc
from_script Ask tokens (Ships r packet) called s e = absurd cc
from_script Ask tokens (Delivers packet r) called s e = absurd cc
from_script Ask tokens (Asks r query args) called s e =
    same_called Ask tokens (record { name = query; args = args }) called e (from_marks Ask tokens (record { name = query; args = args }) r s.written s.apart)
from_script Ask tokens (Shows r) called s e = absurd cc

by_said : (verb : Verb) (tokens : List Token) (said : Said) (found : Option Called) → called_by verb (Some said) ≡ found → IsTheOne (Says (at_replica tokens)) (Some said) → Gives verb tokens found
by_said verb tokens said None e one = λ called c.
    let same = one.1 (script_said verb called) (to_script verb tokens called c) in
    let g : Some called ≡ None = sym (called_back verb called) ∙ ap (λ s. called_by verb (Some s)) same ∙ e in
    cc
by_said verb tokens said (Some found) e one = (
  from_script verb tokens said found one.0 e,
  λ called c.
      let same = one.1 (script_said verb called) (to_script verb tokens called c) in
      let g : Some called ≡ Some found = sym (called_back verb called) ∙ ap (λ s. called_by verb (Some s)) same ∙ e in
      cc,
)

none_by : (verb : Verb) → called_by verb None ≡ None
none_by Do = refl
none_by Ask = refl

pub gives : (verb : Verb) (tokens : List Token) (said : Option Said) → IsTheOne (Says (at_replica tokens)) said → Gives verb tokens (called_by verb said)
gives verb tokens None none =
    subst (λ (found : Option Called). Gives verb tokens found) (sym (none_by verb)) (λ called c. none (script_said verb called) (to_script verb tokens called c))
gives verb tokens (Some said) one = by_said verb tokens said (called_by verb (Some said)) refl one

-- a line calls one thing, or nothing
pub one_called : (verb : Verb) (tokens : List Token) (some other : Called) → Calls verb tokens some → Calls verb tokens other → some ≡ other
one_called verb tokens some other a b =
    let same = one_said (at_replica tokens) (script_said verb some) (script_said verb other) (to_script verb tokens some a) (to_script verb tokens other b) in
    let g : Some some ≡ Some other = sym (called_back verb some) ∙ ap (λ s. called_by verb (Some s)) same ∙ called_back verb other in
    cc

either_way : (verb : Verb) (tokens : List Token) → SaysOrNot (at_replica tokens) → (found : Option Called) × Gives verb tokens found
either_way verb tokens (something said s) = (called_by verb (Some said), gives verb tokens (Some said) (s, λ other t. one_said (at_replica tokens) other said t s))
either_way verb tokens (nothing none) = (called_by verb None, gives verb tokens None none)

pub called_or_not : (verb : Verb) (tokens : List Token) → (found : Option Called) × Gives verb tokens found
called_or_not verb tokens = either_way verb tokens (says_or_not (at_replica tokens))

pub no_tokens : (verb : Verb) (called : Called) → Calls verb [] called → ⊥
no_tokens verb called c = let e = c.written in cc

-- what a line says at replica 1 has the arguments that it calls
pub read_there : (verb : Verb) (tokens : List Token) (called : Called) → Calls verb tokens called → (said : Said) × Says (at_replica tokens) said × (called_by verb (Some said) ≡ Some called)
read_there verb tokens called c = (script_said verb called, to_script verb tokens called c, called_back verb called)
