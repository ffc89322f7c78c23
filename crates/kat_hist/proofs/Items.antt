-- Printed items of a text, and the tokens that they are read as.
use Rattle.std.proofs.Common.{◌≡◌, ℕ, suc, ◌+◌, ◌<◌, ◌≤◌, true, false, List, [], ◌∷◌, ◌++◌, length, drop, get_or, refl, sym, ◌∙◌, ap, subst, arith, length-drop, length-append, append_assoc, None}
use Rattle.std.proofs.lemmas.List.{get_or_append_left}
use Rattle.std.proofs.lemmas.Bool.Decides.{nat_tests}
use Rattle.std.specs.Prelude.{◌==◌}
use Rattle.std.specs.Fmt.{decimal}
use Rattle.kat_num.specs.Bytes.{is_digit, is_name_byte, is_word_byte, is_word_start}
use Rattle.kat_num.specs.Names.{IsName, code_of}
use Rattle.kat_num.specs.Values.{IsNumber, quoted}
use Rattle.kat_num.specs.declared.values.TheConstants.{NUMBER_LIMIT}
use Rattle.kat_num.proofs.Decimals.{decimal-is_number}
use Rattle.kat_lex.specs.Classes.{byte_at, class_of, is_double}
use Rattle.kat_lex.specs.Pieces.IsGap.{blank}
use Rattle.kat_lex.specs.Pieces.IsSign.{single}
use Rattle.kat_lex.specs.Tokens.{IsKind, Lexes}
use Rattle.kat_lex.specs.Tokens.Lexes.{ends, gap as lex_gap, token as lex_token}
use Rattle.kat_lex.specs.declared.classes.Class.TheVariants as class
use Rattle.kat_lex.specs.declared.lexer.Token.{Token}
use Rattle.kat_lex.specs.declared.lexer.TokenKind.{TokenKind}
use Rattle.kat_lex.specs.declared.lexer.TokenKind.TheVariants as kind
use Rattle.kat_hist.specs.Words.{IsWordText}
use Rattle.kat_hist.proofs.ItemRuns.{byte_here, inside_text, next_left, next_within, passes_at, run_is, slice_is}

pub data Item : Type 0 where
  gap : Item
  newline : Item
  word : List ℕ → Item
  number : ℕ → Item
  literal : List ℕ → Item
  minus : Item

abbrev pub item_text : Item → List ℕ
item_text gap = 32 ∷ []
item_text newline = 10 ∷ []
item_text (word bytes) = bytes
item_text (number n) = decimal n
item_text (literal name) = quoted name
item_text minus = 45 ∷ []

abbrev pub items_text : List Item → List ℕ
items_text [] = []
items_text (item ∷ items) = item_text item ++ items_text items

abbrev pub IsGood : Item → Type 0
IsGood (word bytes) = IsWordText bytes
IsGood (number n) = n ≤ NUMBER_LIMIT
IsGood (literal name) = IsName name
IsGood gap = Unit {0}
IsGood newline = Unit {0}
IsGood minus = Unit {0}

-- there is nothing that touches
abbrev pub IsApart : List Item → Type 0
IsApart [] = Unit {0}
IsApart (gap ∷ items) = Unit {0}
IsApart (newline ∷ items) = Unit {0}
IsApart (item ∷ items) = ⊥

abbrev pub BeginsNumber : List Item → Type 0
BeginsNumber (number n ∷ items) = n ≤ NUMBER_LIMIT
BeginsNumber items = ⊥

abbrev pub Follows : Item → List Item → Type 0
Follows gap items = Unit {0}
Follows newline items = Unit {0}
Follows (word bytes) items = IsApart items
Follows (number n) items = IsApart items
Follows (literal name) items = IsApart items
Follows minus items = BeginsNumber items

abbrev pub Fine : List Item → Type 0
Fine [] = Unit {0}
Fine (item ∷ items) = IsGood item × Follows item items × Fine items

abbrev pub token_with : TokenKind → ℕ → ℕ → Token
token_with k from to = record { kind = k; from = from; to = to }

abbrev pub tokens_from : ℕ → List Item → List Token
tokens_from at [] = []
tokens_from at (gap ∷ items) = tokens_from (at + 1) items
tokens_from at (newline ∷ items) = token_with kind.Newline at (at + 1) ∷ tokens_from (at + 1) items
tokens_from at (word bytes ∷ items) = token_with (kind.Word (code_of bytes)) at (at + length bytes) ∷ tokens_from (at + length bytes) items
tokens_from at (number n ∷ items) = token_with (kind.Number n) at (at + length (decimal n)) ∷ tokens_from (at + length (decimal n)) items
tokens_from at (literal name ∷ items) = token_with (kind.Name (code_of name)) at (at + length (quoted name)) ∷ tokens_from (at + length (quoted name)) items
tokens_from at (minus ∷ items) = token_with (kind.Sign 45 0) at (at + 1) ∷ tokens_from (at + 1) items

-- what is apart begins with no byte of a word
apart_byte : (items : List Item) → IsApart items → is_word_byte (get_or (items_text items) 0 0) ≡ false
apart_byte [] h = refl
apart_byte (gap ∷ items) h = refl
apart_byte (newline ∷ items) h = refl
apart_byte (word bytes ∷ items) h = absurd h
apart_byte (number n ∷ items) h = absurd h
apart_byte (literal name ∷ items) h = absurd h
apart_byte (minus ∷ items) h = absurd h

no_digit : (byte : ℕ) → is_word_byte byte ≡ false → is_digit byte ≡ false
no_digit byte h = grind (arith, nat_tests)

digit_start : (byte : ℕ) → is_digit byte ≡ true → is_word_start byte ≡ false
digit_start byte h = grind (arith, nat_tests)

letter_class : (byte : ℕ) → is_word_start byte ≡ true → class_of byte ≡ class.Letter
letter_class byte h = rw h refl

digit_class : (byte : ℕ) → is_digit byte ≡ true → class_of byte ≡ class.Digit
digit_class byte h = rw (digit_start byte h, h) refl

first_byte : (xs rest : List ℕ) → 0 < length xs → get_or (xs ++ rest) 0 0 ≡ get_or xs 0 0
first_byte xs rest h = get_or_append_left xs rest 0 0 h

word_some : (bytes : List ℕ) → IsWordText bytes → 0 < length bytes
word_some [] w = let e = w.first in absurd (cc e)
word_some (b ∷ bytes) w = omega arith

word_kind : (text : List ℕ) (at : ℕ) (bytes : List ℕ) (items : List Item) → at ≤ length text → drop at text ≡ bytes ++ items_text items → IsWordText bytes → IsApart items
    → IsKind text at (at + length bytes) (kind.Word (code_of bytes))
word_kind text at bytes items within e w apart = (
  record {
    first = subst (λ byte. class_of byte ≡ class.Letter) (sym (byte_here text at (bytes ++ items_text items) e ∙ first_byte bytes (items_text items) (word_some bytes w)))
        (letter_class (get_or bytes 0 0) w.first);
    run = run_is is_word_byte text at bytes (items_text items) within e w.each (apart_byte items apart);
  },
  let s = w.short in omega (arith, s),
  ap code_of (sym (slice_is text at bytes (items_text items) e)),
)

number_kind : (text : List ℕ) (at n : ℕ) (items : List Item) → at ≤ length text → drop at text ≡ decimal n ++ items_text items → n ≤ NUMBER_LIMIT → IsApart items
    → IsKind text at (at + length (decimal n)) (kind.Number n)
number_kind text at n items within e small apart =
    let is : IsNumber (decimal n) n = decimal-is_number n small in (
      record {
        first = subst (λ byte. class_of byte ≡ class.Digit) (sym (byte_here text at (decimal n ++ items_text items) e ∙ first_byte (decimal n) (items_text items) is.some))
            (digit_class (get_or (decimal n) 0 0) (passes_at is_digit (decimal n) 0 is.each is.some));
        run = run_is is_digit text at (decimal n) (items_text items) within e is.each (no_digit (get_or (items_text items) 0 0) (apart_byte items apart));
      },
      subst (λ (l : List ℕ). IsNumber l n) (sym (slice_is text at (decimal n) (items_text items) e)) is,
    )

-- a name between double quotes
literal_kind : (text : List ℕ) (at : ℕ) (name rest : List ℕ) → at ≤ length text → drop at text ≡ quoted name ++ rest → IsName name
    → IsKind text at (at + length (quoted name)) (kind.Name (code_of name))
literal_kind text at name rest within e is =
    let split : drop at text ≡ (34 ∷ []) ++ (name ++ (34 ∷ rest)) = e ∙ ap (λ (l : List ℕ). 34 ∷ l) (append_assoc name (34 ∷ []) rest) in
    let later : at + 1 ≤ length text = next_within text at (34 ∷ []) (name ++ (34 ∷ rest)) within split in
    let left : drop (at + 1) text ≡ name ++ (34 ∷ rest) = next_left text at (34 ∷ []) (name ++ (34 ∷ rest)) within split in
    record {
      end = at + 1 + length name;
      opened = record {
        first = subst (λ byte. class_of byte ≡ class.Quote) (sym (byte_here text at (34 ∷ (name ++ (34 ∷ rest))) split)) refl;
        run = run_is is_name_byte text (at + 1) name (34 ∷ rest) later left is.each refl;
      };
      closed = byte_here text (at + 1 + length name) (34 ∷ rest) (next_left text (at + 1) name (34 ∷ rest) later left);
      short = let s = is.short in omega (arith, s);
      coded = ap code_of (sym (slice_is text (at + 1) name (34 ∷ rest) left));
      behind = let n = length-append name (34 ∷ []) in let m : length (name ++ 34 ∷ []) ≡ length name + 1 = n in places at (length (name ++ 34 ∷ [])) (length name) m;
    } where
      places : (a n m : ℕ) → n ≡ m + 1 → a + suc n ≡ a + 1 + m + 1
      places a n m h = omega (arith, h)

no_greater : (byte : ℕ) → is_digit byte ≡ true → (byte == 62) ≡ false
no_greater byte h = grind (arith, nat_tests)

number_first : (items : List Item) → BeginsNumber items → (get_or (items_text items) 0 0 == 62) ≡ false
number_first [] h = absurd h
number_first (number n ∷ items) h =
    let is : IsNumber (decimal n) n = decimal-is_number n h in
    subst (λ byte. (byte == 62) ≡ false) (sym (first_byte (decimal n) (items_text items) is.some))
    (no_greater (get_or (decimal n) 0 0) (passes_at is_digit (decimal n) 0 is.each is.some))
number_first (gap ∷ items) h = absurd h
number_first (newline ∷ items) h = absurd h
number_first (word bytes ∷ items) h = absurd h
number_first (literal name ∷ items) h = absurd h
number_first (minus ∷ items) h = absurd h

alone : (byte : ℕ) → (byte == 62) ≡ false → is_double 45 byte ≡ false
alone byte h = grind (arith, nat_tests)

minus_kind : (text : List ℕ) (at : ℕ) (items : List Item) → at ≤ length text → drop at text ≡ 45 ∷ items_text items → BeginsNumber items → IsKind text at (at + 1) (kind.Sign 45 0)
minus_kind text at items within e begins =
    let here : byte_at text at ≡ 45 = byte_here text at (45 ∷ items_text items) e in
    let left : drop (at + 1) text ≡ items_text items = next_left text at (45 ∷ []) (items_text items) within e in
    let next : byte_at text (at + 1) ≡ get_or (items_text items) 0 0 = byte_here text (at + 1) (items_text items) left in
    single (subst (λ byte. class_of byte ≡ class.Mark) (sym here) refl)
    (subst (λ byte. is_double byte (byte_at text (at + 1)) ≡ false) (sym here) (subst (λ byte. is_double 45 byte ≡ false) (sym next) (alone (get_or (items_text items) 0 0) (number_first items begins))))
    (sym here) refl refl

ended : (text : List ℕ) (at : ℕ) → drop at text ≡ [] → length text ≤ at
ended text at e =
    let n = length-drop at text in
    let m : length (drop at text) ≡ 0 = ap length e in
    omega (arith, n, m)

goes : (text : List ℕ) (at : ℕ) (k : TokenKind) (xs rest : List ℕ) (tokens : List Token) → at ≤ length text → drop at text ≡ xs ++ rest → 0 < length xs
    → IsKind text at (at + length xs) k → Lexes text (at + length xs) tokens None → Lexes text at (token_with k at (at + length xs) ∷ tokens) None
goes text at k xs rest tokens within e some is more =
    lex_token (token_with k at (at + length xs)) (inside_text text at xs rest within e some) (record { from = refl; kind = is }) more

quoted_some : (name : List ℕ) → 0 < length (quoted name)
quoted_some name = omega arith

-- printed items are read as their tokens
pub items_lex : (text : List ℕ) (at : ℕ) (items : List Item) → at ≤ length text → drop at text ≡ items_text items → Fine items → Lexes text at (tokens_from at items) None
items_lex text at [] within e f = ends (ended text at e)
items_lex text at (gap ∷ items) within e f =
    lex_gap (at + 1) (inside_text text at (32 ∷ []) (items_text items) within e (omega arith))
    (blank (subst (λ byte. class_of byte ≡ class.Blank) (sym (byte_here text at (32 ∷ items_text items) e)) refl) refl)
    (items_lex text (at + 1) items (next_within text at (32 ∷ []) (items_text items) within e) (next_left text at (32 ∷ []) (items_text items) within e) f.2)
items_lex text at (newline ∷ items) within e f =
    goes text at kind.Newline (10 ∷ []) (items_text items) (tokens_from (at + 1) items) within e (omega arith)
    (record { first = subst (λ byte. class_of byte ≡ class.LineEnd) (sym (byte_here text at (10 ∷ items_text items) e)) refl; one = refl })
    (items_lex text (at + 1) items (next_within text at (10 ∷ []) (items_text items) within e) (next_left text at (10 ∷ []) (items_text items) within e) f.2)
items_lex text at (word bytes ∷ items) within e f =
    goes text at (kind.Word (code_of bytes)) bytes (items_text items) (tokens_from (at + length bytes) items) within e (word_some bytes f.0) (word_kind text at bytes items within e f.0 f.1)
    (items_lex text (at + length bytes) items (next_within text at bytes (items_text items) within e) (next_left text at bytes (items_text items) within e) f.2)
items_lex text at (number n ∷ items) within e f =
    goes text at (kind.Number n) (decimal n) (items_text items) (tokens_from (at + length (decimal n)) items) within e (decimal-is_number n f.0).some (number_kind text at n items within e f.0 f.1)
    (items_lex text (at + length (decimal n)) items (next_within text at (decimal n) (items_text items) within e) (next_left text at (decimal n) (items_text items) within e) f.2)
items_lex text at (literal name ∷ items) within e f =
    goes text at (kind.Name (code_of name)) (quoted name) (items_text items) (tokens_from (at + length (quoted name)) items) within e (quoted_some name) (literal_kind text at name (items_text items) within e f.0)
    (items_lex text (at + length (quoted name)) items (next_within text at (quoted name) (items_text items) within e) (next_left text at (quoted name) (items_text items) within e) f.2)
items_lex text at (minus ∷ items) within e f =
    goes text at (kind.Sign 45 0) (45 ∷ []) (items_text items) (tokens_from (at + 1) items) within e (omega arith) (minus_kind text at items within e f.1)
    (items_lex text (at + 1) items (next_within text at (45 ∷ []) (items_text items) within e) (next_left text at (45 ∷ []) (items_text items) within e) f.2)
