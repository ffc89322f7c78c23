-- The compact text of a value without floats and objects is read as the value.
use Rattle.std.proofs.Common.{◌<◌, pos, negsuc, List, [], ◌∷◌, ◌≡◌, Some, refl, ap, option_map, suc, max, ap₂, ◌≤◌, ◌++◌, sym, ◌∙◌, subst, append-nil, option_and_then, ℕ, zero, arith, Bool, true, false}
use Rattle.std.specs.Prelude.{◌^◌, IsUtf8, decimal, slice_index}
use Rattle.std.proofs.lemmas.Fmt.{IsAscii-decimal}
use Rattle.std.proofs.lemmas.Str.{IsUtf8-from_ascii, IsUtf8-append}
use Rattle.serde_json.specs.Data.{Num, unsigned, negative, float, Data, null, boolean, number, string, array, object, Items, no_items, item, depth, items_depth}
use Rattle.serde_json.specs.View.{items_of}
use Rattle.kat_design.specs.Sorted.{EachHas}
use Rattle.serde_json.specs.Read.{number_of, of_items, of_json, max_depth, read}
use Rattle.serde_json.specs.Written.{number_text, items_outline, outline, compact_text, items_text}
use Rattle.serde_json.proofs.Numbers.{number_of-decimal, number_of-negative}
use Rattle.json.specs.Print.{IsNumber}
use Rattle.json.proofs.Printed.Decimals.{IsNumber-decimal, IsNumber-signed_decimal}
use Rattle.json.specs.Lex.{tokens}
use Rattle.json.proofs.Printed.Trees.{ArePrintable-json_tokens, value-json_tokens}
use Rattle.serde_json.proofs.Texts.{print-outline}
use Rattle.kat_json.proofs.Newline.{tokens_line}
use Rattle.json.proofs.Printed.Utf8.{IsUtf8-boolean, IsUtf8-quoted}
use Rattle.json.specs.Tree as tree
use Rattle.json.specs.Json as json

-- whole numbers of 64 bits, texts in UTF-8, and lists of such values
abbrev pub IsWholeNumber : Num → Type 0
IsWholeNumber (unsigned n) = n < 2 ^ 64
IsWholeNumber (negative (pos n)) = ⊥
IsWholeNumber (negative (negsuc n)) = n < 2 ^ 63
IsWholeNumber (float x) = ⊥

abbrev mutual
  pub IsPlain : Data → Type 0
  IsPlain null = Unit {0}
  IsPlain (boolean b) = Unit {0}
  IsPlain (number n) = IsWholeNumber n
  IsPlain (string s) = IsUtf8 s
  IsPlain (array ds) = ArePlain ds
  IsPlain (object ms) = ⊥

  pub ArePlain : Items → Type 0
  ArePlain no_items = Unit {0}
  ArePlain (item d ds) = IsPlain d × ArePlain ds

pub plain_items : (ds : List Data) → EachHas IsPlain ds → ArePlain (items_of ds)
plain_items [] each = tt
plain_items (d ∷ ds) each = (each.0, plain_items ds each.1)

-- numbers
number_back : (n : Num) → IsWholeNumber n → number_of (number_text n) ≡ Some n
number_back (unsigned n) fits = number_of-decimal n fits
number_back (negative (pos n)) fits = absurd fits
number_back (negative (negsuc n)) fits = number_of-negative n fits
number_back (float x) fits = absurd fits

number_is : (n : Num) → IsWholeNumber n → IsNumber (number_text n)
number_is (unsigned n) fits = IsNumber-decimal n fits
number_is (negative (pos n)) fits = absurd fits
number_is (negative (negsuc n)) fits = IsNumber-signed_decimal (negsuc n) fits
number_is (float x) fits = absurd fits

-- the value of the outline
mutual
  outline_back : (d : Data) → IsPlain d → of_json (outline d) ≡ Some d
  outline_back null plain = refl
  outline_back (boolean b) plain = refl
  outline_back (number n) plain = ap (λ o. option_map number o) (number_back n plain)
  outline_back (string s) plain = refl
  outline_back (array ds) plain = ap (λ o. option_map array o) (items_back ds plain)
  outline_back (object ms) plain = absurd plain

  items_back : (ds : Items) → ArePlain ds → of_items (items_outline ds) ≡ Some ds
  items_back no_items plain = refl
  items_back (item d ds) plain = let first = outline_back d plain.0 in let rest = items_back ds plain.1 in rw (first, rest) refl

mutual
  has_numbers : (d : Data) → IsPlain d → tree.HasNumbers (outline d)
  has_numbers null plain = tt
  has_numbers (boolean b) plain = tt
  has_numbers (number n) plain = number_is n plain
  has_numbers (string s) plain = tt
  has_numbers (array ds) plain = items_have_numbers ds plain
  has_numbers (object ms) plain = absurd plain

  items_have_numbers : (ds : Items) → ArePlain ds → tree.ItemsHaveNumbers (items_outline ds)
  items_have_numbers no_items plain = tt
  items_have_numbers (item d ds) plain = (has_numbers d plain.0, items_have_numbers ds plain.1)

mutual
  same_depth : (d : Data) → IsPlain d → tree.depth (outline d) ≡ depth d
  same_depth null plain = refl
  same_depth (boolean b) plain = refl
  same_depth (number n) plain = refl
  same_depth (string s) plain = refl
  same_depth (array ds) plain = ap suc (same_items_depth ds plain)
  same_depth (object ms) plain = absurd plain

  same_items_depth : (ds : Items) → ArePlain ds → tree.items_depth (items_outline ds) ≡ items_depth ds
  same_items_depth no_items plain = refl
  same_items_depth (item d ds) plain = ap₂ max (same_depth d plain.0) (same_items_depth ds plain.1)

-- the text, with a newline after it, is read as the value
pub line_read : (d : Data) → IsPlain d → depth d ≤ 127 → read (compact_text d ++ 10 ∷ []) ≡ Some d
line_read d plain shallow =
    let j = outline d in
    let printable = ArePrintable-json_tokens j (has_numbers d plain) in
    let lexed : tokens (compact_text d ++ 10 ∷ []) ≡ tree.json_tokens j ++ [] =
    ap (λ text. tokens (text ++ 10 ∷ [])) (sym (print-outline d)) ∙ tokens_line (tree.json_tokens j) printable ∙ sym (append-nil (tree.json_tokens j)) in
    let deep : tree.depth j ≤ max_depth = subst (λ n. n ≤ 127) (sym (same_depth d plain)) shallow in
    let valued : json.value max_depth (tokens (compact_text d ++ 10 ∷ [])) ≡ Some (j, []) = ap (json.value max_depth) lexed ∙ value-json_tokens j max_depth [] deep in
    ap (λ o. option_and_then of_json (option_and_then (λ p. json.if_last p.0 p.1) o)) valued ∙ outline_back d plain

-- and is UTF-8
digits_utf8 : (n : ℕ) → n < 2 ^ 64 → IsUtf8 (decimal n)
digits_utf8 n fits = IsUtf8-from_ascii (decimal n) (IsAscii-decimal n fits)

one_utf8 : (x : ℕ) → x < 128 → IsUtf8 (x ∷ [])
one_utf8 x small = IsUtf8-from_ascii (x ∷ []) (λ i. one_ascii i) where
  one_ascii : (i : ℕ) → slice_index (x ∷ []) i < 128
  one_ascii zero = small
  one_ascii (suc i) = omega arith

then_utf8 : (x : ℕ) (xs : List ℕ) → x < 128 → IsUtf8 xs → IsUtf8 (x ∷ xs)
then_utf8 x xs small rest = IsUtf8-append (x ∷ []) xs (one_utf8 x small) rest

number_utf8 : (n : Num) → IsWholeNumber n → IsUtf8 (number_text n)
number_utf8 (unsigned n) fits = digits_utf8 n fits
number_utf8 (negative (pos n)) fits = absurd fits
number_utf8 (negative (negsuc n)) fits = then_utf8 45 (decimal (suc n)) (omega arith) (digits_utf8 (suc n) (omega (arith, fits)))
number_utf8 (float x) fits = absurd fits

mutual
  pub text_utf8 : (d : Data) → IsPlain d → IsUtf8 (compact_text d)
  text_utf8 null plain = then_utf8 110 _ (omega arith) (then_utf8 117 _ (omega arith) (then_utf8 108 _ (omega arith) (one_utf8 108 (omega arith))))
  text_utf8 (boolean b) plain = IsUtf8-boolean b
  text_utf8 (number n) plain = number_utf8 n plain
  text_utf8 (string s) plain = IsUtf8-quoted s plain
  text_utf8 (array ds) plain = then_utf8 91 _ (omega arith) (items_utf8 false ds plain)
  text_utf8 (object ms) plain = absurd plain

  items_utf8 : (later : Bool) (ds : Items) → ArePlain ds → IsUtf8 (items_text later ds)
  items_utf8 later no_items plain = one_utf8 93 (omega arith)
  items_utf8 true (item d ds) plain = then_utf8 44 _ (omega arith) (IsUtf8-append (compact_text d) (items_text true ds) (text_utf8 d plain.0) (items_utf8 true ds plain.1))
  items_utf8 false (item d ds) plain = IsUtf8-append (compact_text d) (items_text true ds) (text_utf8 d plain.0) (items_utf8 true ds plain.1)

pub line_utf8 : (d : Data) → IsPlain d → IsUtf8 (compact_text d ++ 10 ∷ [])
line_utf8 d plain = IsUtf8-append (compact_text d) (10 ∷ []) (text_utf8 d plain) (one_utf8 10 (omega arith))
