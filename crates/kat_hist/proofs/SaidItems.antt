-- What lines are printed with, and that they are read again as what they say.
use Rattle.std.proofs.Common.{◌≡◌, ℕ, ◌+◌, ◌<◌, ◌≤◌, ◌⊎◌, inl, inr, Bool, true, false, List, [], ◌∷◌, ◌++◌, length, refl, sym, ◌∙◌, ap, subst, arith, append_assoc, append-nil, Option, None, Some}
use Rattle.std.specs.Prelude.{◌&&◌, ◌||◌, ◌==◌, codes}
use Rattle.std.specs.Fmt.{decimal}
use Rattle.std.proofs.lemmas.Bool.{eqb-true}
use Rattle.std.proofs.lemmas.Bool.Decides.{nat_tests}
use Rattle.kat_num.specs.Bytes.{is_name_byte, is_word_byte}
use Rattle.std.specs.List.{list_all}
use Rattle.kat_num.specs.Names.{IsName, IsNameCode, code_of, name_of_code}
use Rattle.kat_num.specs.Values.{quoted, truth_text}
use Rattle.kat_num.specs.declared.values.TheConstants.{NUMBER_LIMIT}
use Rattle.kat_num.proofs.NameCodes.{and_parts, name_of_code-code_of}
use Rattle.kat_lex.specs.Words.{is_reserved}
use Rattle.kat_lex.specs.declared.lexer.Token.{Token}
use Rattle.kat_lex.specs.declared.lexer.TokenKind.TheVariants as kind
use Rattle.kat_script.specs.Grammar.{Says, constant_marks, constants_marks, line_marks, time_marks}
use Rattle.kat_script.specs.Marks.{begins_constant, ends_constant, mark_of, mark_of_word, marks_of, some_touch, touches, touches_next}
use Rattle.kat_script.specs.declared.marks.Mark.{Mark}
use Rattle.kat_script.specs.declared.marks.Mark.TheVariants.{Word, Number, Name, Minus, Other}
use Rattle.kat_script.specs.declared.said.Constant.{Constant}
use Rattle.kat_script.specs.declared.said.Constant.TheVariants.{Natural, Negated, Named, Truth}
use Rattle.kat_script.specs.declared.said.Said.{Said}
use Rattle.kat_script.specs.declared.said.Said.TheVariants.{Replicas, Does, Ships, Delivers, Asks, Shows}
use Rattle.kat_hist.specs.Words.{IsFreeWord, IsWordText}
use Rattle.kat_hist.proofs.Items.{Fine, IsApart, Item, gap, literal, minus, newline, number, token_with, tokens_from, word}

abbrev pub constant_items : Constant → List Item
constant_items (Natural n) = number n ∷ []
constant_items (Negated n) = minus ∷ number n ∷ []
constant_items (Named name) = literal (name_of_code name) ∷ []
constant_items (Truth b) = word (truth_text b) ∷ []

abbrev pub args_items : List Constant → List Item
args_items [] = []
args_items (c ∷ args) = gap ∷ (constant_items c ++ args_items args)

abbrev pub time_items : Option ℕ → List Item
time_items None = []
time_items (Some time) = gap ∷ word (codes "at") ∷ gap ∷ number time ∷ []

abbrev pub said_items : Said → List Item
said_items (Replicas n) = word (codes "replicas") ∷ gap ∷ number n ∷ []
said_items (Does r op args time) = word (codes "do") ∷ gap ∷ number r ∷ gap ∷ word (name_of_code op) ∷ (args_items args ++ time_items time)
said_items (Ships r packet) = word (codes "ship") ∷ gap ∷ number r ∷ gap ∷ word (name_of_code packet) ∷ []
said_items (Delivers packet r) = word (codes "deliver") ∷ gap ∷ word (name_of_code packet) ∷ gap ∷ number r ∷ []
said_items (Asks r query args) = word (codes "ask") ∷ gap ∷ number r ∷ gap ∷ word (name_of_code query) ∷ args_items args
said_items (Shows r) = word (codes "show") ∷ gap ∷ number r ∷ []

-- numbers are within the limit, and words are free
abbrev pub IsGoodConstant : Constant → Type 0
IsGoodConstant (Natural n) = n ≤ NUMBER_LIMIT
IsGoodConstant (Negated n) = n ≤ NUMBER_LIMIT
IsGoodConstant (Named name) = IsNameCode name
IsGoodConstant (Truth b) = Unit {0}

abbrev pub AreGood : List Constant → Type 0
AreGood [] = Unit {0}
AreGood (c ∷ args) = IsGoodConstant c × AreGood args

abbrev pub IsGoodTime : Option ℕ → Type 0
IsGoodTime None = Unit {0}
IsGoodTime (Some time) = time ≤ NUMBER_LIMIT

abbrev pub IsGoodSaid : Said → Type 0
IsGoodSaid (Replicas n) = n ≤ NUMBER_LIMIT
IsGoodSaid (Does r op args time) = (r ≤ NUMBER_LIMIT) × IsFreeWord op × AreGood args × IsGoodTime time
IsGoodSaid (Ships r packet) = (r ≤ NUMBER_LIMIT) × IsFreeWord packet
IsGoodSaid (Delivers packet r) = (r ≤ NUMBER_LIMIT) × IsFreeWord packet
IsGoodSaid (Asks r query args) = (r ≤ NUMBER_LIMIT) × IsFreeWord query × AreGood args
IsGoodSaid (Shows r) = r ≤ NUMBER_LIMIT

-- names and their codes
weaker_byte : (byte : ℕ) → is_word_byte byte ≡ true → is_name_byte byte ≡ true
weaker_byte byte h = rw h refl

weaker_all : (bytes : List ℕ) → list_all is_word_byte bytes ≡ true → list_all is_name_byte bytes ≡ true
weaker_all [] h = refl
weaker_all (b ∷ bytes) h =
    let parts = and_parts (is_word_byte b) (list_all is_word_byte bytes) h in
    rw (weaker_byte b parts.0) (weaker_all bytes parts.1)

word_is_name : (bytes : List ℕ) → IsWordText bytes → IsName bytes
word_is_name bytes w = record { short = w.short; each = weaker_all bytes w.each }

word_back : (code : ℕ) → (w : IsFreeWord code) → name_of_code code ≡ w.bytes
word_back code w = ap name_of_code (sym w.coded) ∙ name_of_code-code_of w.bytes (word_is_name w.bytes w.is_word)

word_text : (code : ℕ) → IsFreeWord code → IsWordText (name_of_code code)
word_text code w = subst (λ (l : List ℕ). IsWordText l) (sym (word_back code w)) w.is_word

word_code : (code : ℕ) → IsFreeWord code → code_of (name_of_code code) ≡ code
word_code code w = ap code_of (word_back code w) ∙ w.coded

name_text : (code : ℕ) → IsNameCode code → IsName (name_of_code code)
name_text code n = subst (λ (l : List ℕ). IsName l) (sym (ap name_of_code (sym n.coded) ∙ name_of_code-code_of n.name n.is_name)) n.is_name

name_code : (code : ℕ) → IsNameCode code → code_of (name_of_code code) ≡ code
name_code code n = ap code_of (ap name_of_code (sym n.coded) ∙ name_of_code-code_of n.name n.is_name) ∙ n.coded

-- a free word is none of the reserved ones
not_reserved : (w k : ℕ) (b : Bool) → (w == k) ≡ b → is_reserved w ≡ false → is_reserved k ≡ true → b ≡ false
not_reserved w k false e free is = refl
not_reserved w k true e free is =
    let f : is_reserved k ≡ false = subst (λ n. is_reserved n ≡ false) (eqb-true w k e) free in
    let g : true ≡ false = sym is ∙ f in absurd (cc g)

mark_free : (w : ℕ) → is_reserved w ≡ false → mark_of_word w ≡ Word w
mark_free w free =
    let a : (w == code_of (codes "true")) ≡ false = not_reserved w (code_of (codes "true")) _ refl free refl in
    let b : (w == code_of (codes "false")) ≡ false = not_reserved w (code_of (codes "false")) _ refl free refl in
    let c : (w == code_of (codes "at")) ≡ false = not_reserved w (code_of (codes "at")) _ refl free refl in
    rw (a, b, c, free) refl

-- the marks of items
abbrev pub item_marks : Item → List Mark
item_marks gap = []
item_marks newline = Other ∷ []
item_marks (word bytes) = mark_of_word (code_of bytes) ∷ []
item_marks (number n) = Number n ∷ []
item_marks (literal name) = Name (code_of name) ∷ []
item_marks minus = Minus ∷ []

abbrev pub items_marks : List Item → List Mark
items_marks [] = []
items_marks (item ∷ items) = item_marks item ++ items_marks items

pub tokens_marks : (at : ℕ) (items : List Item) → marks_of (tokens_from at items) ≡ items_marks items
tokens_marks at [] = refl
tokens_marks at (gap ∷ items) = tokens_marks (at + 1) items
tokens_marks at (newline ∷ items) = ap (λ (l : List Mark). Other ∷ l) (tokens_marks (at + 1) items)
tokens_marks at (word bytes ∷ items) = ap (λ (l : List Mark). mark_of_word (code_of bytes) ∷ l) (tokens_marks (at + length bytes) items)
tokens_marks at (number n ∷ items) = ap (λ (l : List Mark). Number n ∷ l) (tokens_marks (at + length (decimal n)) items)
tokens_marks at (literal name ∷ items) = ap (λ (l : List Mark). Name (code_of name) ∷ l) (tokens_marks (at + length (quoted name)) items)
tokens_marks at (minus ∷ items) = ap (λ (l : List Mark). Minus ∷ l) (tokens_marks (at + 1) items)

items_marks_append : (xs ys : List Item) → items_marks (xs ++ ys) ≡ items_marks xs ++ items_marks ys
items_marks_append [] ys = refl
items_marks_append (x ∷ xs) ys = ap (λ (l : List Mark). item_marks x ++ l) (items_marks_append xs ys) ∙ sym (append_assoc (item_marks x) (items_marks xs) (items_marks ys))

constant_marks_are : (c : Constant) → IsGoodConstant c → items_marks (constant_items c) ≡ constant_marks c
constant_marks_are (Natural n) h = refl
constant_marks_are (Negated n) h = refl
constant_marks_are (Named name) h = ap (λ k. Name k ∷ []) (name_code name h)
constant_marks_are (Truth true) h = refl
constant_marks_are (Truth false) h = refl

args_marks_are : (args : List Constant) → AreGood args → items_marks (args_items args) ≡ constants_marks args
args_marks_are [] h = refl
args_marks_are (c ∷ args) h =
    items_marks_append (constant_items c) (args_items args)
    ∙ ap (λ (l : List Mark). l ++ items_marks (args_items args)) (constant_marks_are c h.0)
    ∙ ap (λ (l : List Mark). constant_marks c ++ l) (args_marks_are args h.1)

time_marks_are : (time : Option ℕ) → items_marks (time_items time) ≡ time_marks time
time_marks_are None = refl
time_marks_are (Some time) = refl

name_mark : (code : ℕ) → IsFreeWord code → mark_of_word (code_of (name_of_code code)) ≡ Word code
name_mark code w = ap mark_of_word (word_code code w) ∙ mark_free code w.free

said_marks_are : (said : Said) → IsGoodSaid said → items_marks (said_items said) ≡ line_marks said
said_marks_are (Replicas n) h = refl
said_marks_are (Does r op args time) h =
    ap (λ (m : Mark). Word (code_of (codes "do")) ∷ Number r ∷ m ∷ items_marks (args_items args ++ time_items time)) (name_mark op h.1)
    ∙ ap (λ (l : List Mark). Word (code_of (codes "do")) ∷ Number r ∷ Word op ∷ l)
    (items_marks_append (args_items args) (time_items time) ∙ ap (λ (l : List Mark). l ++ items_marks (time_items time)) (args_marks_are args h.2)
    ∙ ap (λ (l : List Mark). constants_marks args ++ l) (time_marks_are time))
said_marks_are (Ships r packet) h = ap (λ (m : Mark). Word (code_of (codes "ship")) ∷ Number r ∷ m ∷ []) (name_mark packet h.1)
said_marks_are (Delivers packet r) h = ap (λ (m : Mark). Word (code_of (codes "deliver")) ∷ m ∷ Number r ∷ []) (name_mark packet h.1)
said_marks_are (Asks r query args) h =
    ap (λ (m : Mark). Word (code_of (codes "ask")) ∷ Number r ∷ m ∷ items_marks (args_items args)) (name_mark query h.1)
    ∙ ap (λ (l : List Mark). Word (code_of (codes "ask")) ∷ Number r ∷ Word query ∷ l) (args_marks_are args h.2)
said_marks_are (Shows r) h = refl

-- no two constants touch
abbrev Loose : Token → ℕ → List Item → Type 0
Loose left at items = (left.to < at) ⊎ ((ends_constant (mark_of left.kind) ≡ false) ⊎ IsApart items)

not_at : (a b : ℕ) → a < b → (a == b) ≡ false
not_at a b h = grind (arith, nat_tests)

none_last : (a b : Bool) → (a && b && false) ≡ false
none_last true true = refl
none_last true false = refl
none_last false b = refl

loose_touch : (left right : Token) (at : ℕ) (items : List Item) → right.from ≡ at → (IsApart items → ⊥) → Loose left at items → touches left right ≡ false
loose_touch left right at items e solid (inl h) =
    rw (not_at left.to right.from (subst (λ k. left.to < k) (sym e) h)) (none_last (ends_constant (mark_of left.kind)) (begins_constant (mark_of right.kind)))
loose_touch left right at items e solid (inr (inl h)) = rw (h) refl
loose_touch left right at items e solid (inr (inr h)) = absurd (solid h)

no_begin : (a b : Bool) → (a && false && b) ≡ false
no_begin true b = refl
no_begin false b = refl

both_none : (a b : Bool) → a ≡ false → b ≡ false → (a || b) ≡ false
both_none a b h k = rw (h, k) refl

loose_gap : (left : Token) (at : ℕ) (items : List Item) → left.to ≤ at → Loose left (at + 1) items
loose_gap left at items h = inl (omega (arith, h))

touch_none : (left : Token) (at : ℕ) (items : List Item) → left.to ≤ at → Loose left at items → Fine items → touches_next left (tokens_from at items) ≡ false
touch_none left at [] low loose f = refl
touch_none left at (gap ∷ items) low loose f = touch_none left (at + 1) items (omega (arith, low)) (loose_gap left at items low) f.2
touch_none left at (newline ∷ items) low loose f =
    let t : Token = token_with kind.Newline at (at + 1) in
    both_none (touches left t) (touches_next t (tokens_from (at + 1) items)) (no_begin (ends_constant (mark_of left.kind)) (left.to == at))
    (touch_none t (at + 1) items (omega arith) (inr (inl refl)) f.2)
touch_none left at (word bytes ∷ items) low loose f =
    let t : Token = token_with (kind.Word (code_of bytes)) at (at + length bytes) in
    both_none (touches left t) (touches_next t (tokens_from (at + length bytes) items)) (loose_touch left t at (word bytes ∷ items) refl (λ h. h) loose)
    (touch_none t (at + length bytes) items (omega arith) (inr (inr f.1)) f.2)
touch_none left at (number n ∷ items) low loose f =
    let t : Token = token_with (kind.Number n) at (at + length (decimal n)) in
    both_none (touches left t) (touches_next t (tokens_from (at + length (decimal n)) items)) (loose_touch left t at (number n ∷ items) refl (λ h. h) loose)
    (touch_none t (at + length (decimal n)) items (omega arith) (inr (inr f.1)) f.2)
touch_none left at (literal name ∷ items) low loose f =
    let t : Token = token_with (kind.Name (code_of name)) at (at + length (quoted name)) in
    both_none (touches left t) (touches_next t (tokens_from (at + length (quoted name)) items)) (loose_touch left t at (literal name ∷ items) refl (λ h. h) loose)
    (touch_none t (at + length (quoted name)) items (omega arith) (inr (inr f.1)) f.2)
touch_none left at (minus ∷ items) low loose f =
    let t : Token = token_with (kind.Sign 45 0) at (at + 1) in
    both_none (touches left t) (touches_next t (tokens_from (at + 1) items)) (loose_touch left t at (minus ∷ items) refl (λ h. h) loose)
    (touch_none t (at + 1) items (omega arith) (inr (inl refl)) f.2)

pub none_touch : (at : ℕ) (items : List Item) → Fine items → some_touch (tokens_from at items) ≡ false
none_touch at [] f = refl
none_touch at (gap ∷ items) f = none_touch (at + 1) items f.2
none_touch at (newline ∷ items) f = touch_none (token_with kind.Newline at (at + 1)) (at + 1) items (omega arith) (inr (inl refl)) f.2
none_touch at (word bytes ∷ items) f = touch_none (token_with (kind.Word (code_of bytes)) at (at + length bytes)) (at + length bytes) items (omega arith) (inr (inr f.1)) f.2
none_touch at (number n ∷ items) f = touch_none (token_with (kind.Number n) at (at + length (decimal n))) (at + length (decimal n)) items (omega arith) (inr (inr f.1)) f.2
none_touch at (literal name ∷ items) f = touch_none (token_with (kind.Name (code_of name)) at (at + length (quoted name))) (at + length (quoted name)) items (omega arith) (inr (inr f.1)) f.2
none_touch at (minus ∷ items) f = touch_none (token_with (kind.Sign 45 0) at (at + 1)) (at + 1) items (omega arith) (inr (inl refl)) f.2

-- the items of lines are fine
args_apart : (args : List Constant) (more : List Item) → IsApart more → IsApart (args_items args ++ more)
args_apart [] more h = h
args_apart (c ∷ args) more h = tt

truth_word : (b : Bool) → IsWordText (truth_text b)
truth_word true = record { first = refl; each = refl; short = omega arith }
truth_word false = record { first = refl; each = refl; short = omega arith }

constant_fine : (c : Constant) (more : List Item) → IsGoodConstant c → IsApart more → Fine more → Fine (constant_items c ++ more)
constant_fine (Natural n) more h apart f = (h, apart, f)
constant_fine (Negated n) more h apart f = (tt, h, (h, apart, f))
constant_fine (Named name) more h apart f = (name_text name h, apart, f)
constant_fine (Truth b) more h apart f = (truth_word b, apart, f)

args_fine : (args : List Constant) (more : List Item) → AreGood args → IsApart more → Fine more → Fine (args_items args ++ more)
args_fine [] more h apart f = f
args_fine (c ∷ args) more h apart f = (
  tt,
  tt,
  subst (λ (l : List Item). Fine l) (sym (append_assoc (constant_items c) (args_items args) more))
      (constant_fine c (args_items args ++ more) h.0 (args_apart args more apart) (args_fine args more h.1 apart f)),
)

time_apart : (time : Option ℕ) → IsApart (time_items time)
time_apart None = tt
time_apart (Some time) = tt

at_word : IsWordText (codes "at")
at_word = record { first = refl; each = refl; short = omega arith }

time_fine : (time : Option ℕ) → IsGoodTime time → Fine (time_items time)
time_fine None h = tt
time_fine (Some time) h = (tt, tt, (at_word, tt, (tt, tt, (h, tt, tt))))

replicas_word : IsWordText (codes "replicas")
replicas_word = record { first = refl; each = refl; short = omega arith }

do_word : IsWordText (codes "do")
do_word = record { first = refl; each = refl; short = omega arith }

ship_word : IsWordText (codes "ship")
ship_word = record { first = refl; each = refl; short = omega arith }

deliver_word : IsWordText (codes "deliver")
deliver_word = record { first = refl; each = refl; short = omega arith }

ask_word : IsWordText (codes "ask")
ask_word = record { first = refl; each = refl; short = omega arith }

show_word : IsWordText (codes "show")
show_word = record { first = refl; each = refl; short = omega arith }

pub said_fine : (said : Said) → IsGoodSaid said → Fine (said_items said)
said_fine (Replicas n) h = (replicas_word, tt, (tt, tt, (h, tt, tt)))
said_fine (Does r op args time) h =
    (do_word, tt, (tt, tt, (h.0, tt, (tt, tt, (word_text op h.1, args_apart args (time_items time) (time_apart time), args_fine args (time_items time) h.2 (time_apart time) (time_fine time h.3))))))
said_fine (Ships r packet) h = (ship_word, tt, (tt, tt, (h.0, tt, (tt, tt, (word_text packet h.1, tt, tt)))))
said_fine (Delivers packet r) h = (deliver_word, tt, (tt, tt, (word_text packet h.1, tt, (tt, tt, (h.0, tt, tt)))))
said_fine (Asks r query args) h = (
  ask_word,
  tt,
  (
    tt,
    tt,
    (
      h.0,
      tt,
      (
        tt,
        tt,
        (
          word_text query h.1,
          subst (λ (l : List Item). IsApart l) (append-nil (args_items args)) (args_apart args [] tt),
          subst (λ (l : List Item). Fine l) (append-nil (args_items args)) (args_fine args [] h.2 tt tt),
        ),
      ),
    ),
  ),
)
said_fine (Shows r) h = (show_word, tt, (tt, tt, (h, tt, tt)))

-- a printed line says what it was printed from
pub line_says : (at : ℕ) (said : Said) → IsGoodSaid said → Says (tokens_from at (said_items said)) said
line_says at said h = record {
  written = tokens_marks at (said_items said) ∙ said_marks_are said h;
  apart = none_touch at (said_items said) (said_fine said h);
}
