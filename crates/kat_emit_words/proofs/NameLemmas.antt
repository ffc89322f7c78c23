-- New names, and the names of a scope to which one comes.
use Rattle.std.proofs.Common.{◌≡◌, Bor, Result, Ok, Err, IfOk, String, inl, inr, ◌^◌, ℕ, ◌+◌, ◌-◌, ◌<◌, ◌≤◌, max, suc, Bool, true, false, not, ◌&&◌, ◌||◌, ◌==◌, List, [], ◌∷◌, ◌++◌, length, refl, ap, sym, ◌∙◌, subst, arith, length-append}
use Rattle.std.proofs.lemmas.Bool.{and_cases, and_from, and_parts, both_ways, cases_Bool, not-false, not-true, or_cases}
use Rattle.std.proofs.lemmas.Bool.Decides.{nat_tests}
use Rattle.std.proofs.lemmas.Fmt.{decimal_is_IsNumeral}
use Rattle.std.proofs.lemmas.List.Folds.{list_all-append, list_any-append}
use Rattle.std.proofs.lemmas.Slice.Eq.{bytes_eq-Decides}
use Rattle.std.proofs.lemmas.Str.Parse.{digit_from_value}
use Rattle.std.specs.Char.{is_ascii_alphabetic, is_ascii_alphanumeric}
use Rattle.std.specs.Fmt.{decimal}
use Rattle.std.specs.List.{list_all, list_any}
use Rattle.std.specs.Str.{bytes_eq}
use Rattle.std.specs.Str.Parse.{AllDigits}
use Rattle.kat_emit.specs.Words.{AppendsWord, is_part, is_word}
use Rattle.std.specs.Global.{Global}
use Rattle.std.specs.String.{string_bytes}
use Rattle.std.proofs.lemmas.List.{length-map, map-append}
use Rattle.kat_emit_words.specs.Naming.{Adds, AreNames, Gains, IsNew, are_different, is_among, is_free, is_identifier, is_mark, names_in, texts_of}

or_from : (x y : Bool) → x ≡ false → y ≡ false → (x || y) ≡ false
or_from false y h k = k
or_from true y h k = cc

or_parts : (x y : Bool) → (x || y) ≡ false → (x ≡ false) × (y ≡ false)
or_parts false y h = (refl, h)
or_parts true y h = cc

-- a word that is in none of two lists is in none of both together
none_of_both : (name : List ℕ) (xs ys : List (List ℕ)) → is_among name xs ≡ false → is_among name ys ≡ false → is_among name (xs ++ ys) ≡ false
none_of_both name xs ys h k =
    list_any-append (λ other. bytes_eq other name) xs ys ∙ or_from (is_among name xs) (is_among name ys) h k

pub new_from_free : (kept outer taken : List (List ℕ)) (name : List ℕ) → is_identifier name ≡ true → is_free kept outer taken name ≡ true → IsNew (outer ++ kept) taken name
new_from_free kept outer taken name h free =
    let outside = and_parts (not (is_among name kept) && not (is_among name outer)) (not (is_among name taken)) free in
    let both = and_parts (not (is_among name kept)) (not (is_among name outer)) outside.0 in
    record {
      identifier = h;
      unreserved = none_of_both name outer kept (not-true (is_among name outer) both.1) (not-true (is_among name kept) both.0);
      different = not-true (is_among name taken) outside.1;
    }

-- the same, if that is what a call answered of a text that is the name's
pub new_if_free : (kept outer taken : List (List ℕ)) (name text : List ℕ) (answer : Bool) → is_identifier name ≡ true → text ≡ name
    → answer ≡ is_free kept outer taken text → answer ≡ true → IsNew (outer ++ kept) taken name
new_if_free kept outer taken name text answer h e f g =
    new_from_free kept outer taken name h (ap (λ (x : List ℕ). is_free kept outer taken x) (sym e) ∙ (sym f ∙ g))

-- identifiers that go on with a `_` or a number
pub identifier_more : (name more : List ℕ) → is_identifier name ≡ true → list_all is_part more ≡ true → is_identifier (name ++ more) ≡ true
identifier_more [] more h k = cc
identifier_more (letter ∷ name) more h k =
    let parts = and_parts (is_ascii_alphabetic letter || letter == 95) (list_all is_part name) h in
    and_from (is_ascii_alphabetic letter || letter == 95) (list_all is_part (name ++ more)) parts.0
    (list_all-append is_part name more ∙ and_from (list_all is_part name) (list_all is_part more) parts.1 k)

pub identifier_mark : (name : List ℕ) → is_identifier name ≡ true → is_identifier (name ++ 95 ∷ []) ≡ true
identifier_mark name h = identifier_more name (95 ∷ []) h refl

digits_are_parts : (digits : List ℕ) → AllDigits 10 digits → list_all is_part digits ≡ true
digits_are_parts [] h = refl
digits_are_parts (digit ∷ digits) h =
    let range = digit_from_value digit h.0 in
    let first : is_part digit ≡ true = grind (arith, nat_tests) in
    and_from (is_part digit) (list_all is_part digits) first (digits_are_parts digits h.1)

pub identifier_number : (name : List ℕ) (number : ℕ) → is_identifier name ≡ true → number < 2 ^ 64 → is_identifier (name ++ decimal number) ≡ true
identifier_number name number h small =
    let numeral = decimal_is_IsNumeral number small in
    identifier_more name (decimal number) h (digits_are_parts (decimal number) numeral.0.1)

-- a word after a mark
letter_is_part : (letter : ℕ) → is_ascii_alphabetic letter ≡ true → is_part letter ≡ true
letter_is_part letter h = grind (arith, nat_tests)

word_is_parts : (word : List ℕ) → is_word word ≡ true → list_all is_part word ≡ true
word_is_parts [] h = cc
word_is_parts (letter ∷ more) h =
    let parts = and_parts (is_ascii_alphabetic letter) (list_all is_part more) h in
    and_from (is_part letter) (list_all is_part more) (letter_is_part letter parts.0) parts.1

or_left : (x y : Bool) → x ≡ true → (x || y) ≡ true
or_left true y h = refl
or_left false y h = cc

word_is_identifier : (word : List ℕ) → is_word word ≡ true → is_identifier word ≡ true
word_is_identifier [] h = cc
word_is_identifier (letter ∷ more) h =
    let parts = and_parts (is_ascii_alphabetic letter) (list_all is_part more) h in
    and_from (is_ascii_alphabetic letter || letter == 95) (list_all is_part more) (or_left (is_ascii_alphabetic letter) (letter == 95) parts.0) parts.1

or_right : (x y : Bool) → y ≡ true → (x || y) ≡ true
or_right true y h = refl
or_right false y h = h

mark_is_part : (letter : ℕ) → (letter == 95) ≡ true → is_part letter ≡ true
mark_is_part letter h = or_right (is_ascii_alphanumeric letter) (letter == 95) h

marks_are_parts : (mark : List ℕ) → is_mark mark ≡ true → list_all is_part mark ≡ true
marks_are_parts [] h = refl
marks_are_parts (letter ∷ more) h =
    let parts = and_parts (letter == 95) (is_mark more) h in
    and_from (is_part letter) (list_all is_part more) (mark_is_part letter parts.0) (marks_are_parts more parts.1)

mark_then_word : (mark word : List ℕ) → is_mark mark ≡ true → is_word word ≡ true → is_identifier (mark ++ word) ≡ true
mark_then_word [] word h k = word_is_identifier word k
mark_then_word (letter ∷ more) word h k =
    let parts = and_parts (letter == 95) (is_mark more) h in
    and_from (is_ascii_alphabetic letter || letter == 95) (list_all is_part (more ++ word)) (or_right (is_ascii_alphabetic letter) (letter == 95) parts.0)
    (list_all-append is_part more word ∙ and_from (list_all is_part more) (list_all is_part word) (marks_are_parts more parts.1) (word_is_parts word k))

pub appended_identifier : (mark new : List ℕ) → is_mark mark ≡ true → AppendsWord mark new → is_identifier new ≡ true
appended_identifier mark new h a = subst (λ (x : List ℕ). is_identifier x ≡ true) (sym a.appended) (mark_then_word mark a.word h a.good)

-- the names of a scope to which one comes
one_of : (name : List ℕ) → (kept : List (List ℕ)) → is_among name kept ≡ false → list_any (λ other. is_among other kept) (name ∷ []) ≡ false
one_of name kept h = or_from (is_among name kept) false h refl

bytes_eq-comm : (xs ys : List ℕ) → bytes_eq xs ys ≡ false → bytes_eq ys xs ≡ false
bytes_eq-comm xs ys h = elim (cases_Bool (bytes_eq ys xs)) [
  | inl t ↦ absurd (both_ways (bytes_eq xs ys) h ((bytes_eq-Decides xs ys).1 (sym ((bytes_eq-Decides ys xs).0 t))))
  | inr f ↦ f
]

-- names that are different from each other and from another one, which comes after them
different_more : (names : List (List ℕ)) (name : List ℕ) → are_different names ≡ true → is_among name names ≡ false → are_different (names ++ name ∷ []) ≡ true
different_more [] name h k = refl
different_more (first ∷ names) name h k =
    let parts = and_parts (not (is_among first names)) (are_different names) h in
    let sides = or_parts (bytes_eq first name) (is_among name names) k in
    let apart : is_among first (names ++ name ∷ []) ≡ false =
    none_of_both first names (name ∷ []) (not-true (is_among first names) parts.0) (or_from (bytes_eq name first) false (bytes_eq-comm first name sides.0) refl) in
    and_from (not (is_among first (names ++ name ∷ []))) (are_different (names ++ name ∷ [])) (ap not apart) (different_more names name parts.1 sides.1)

pub names_more : (kept old new : List (List ℕ)) (name : List ℕ) → AreNames kept old → Adds kept old new name → AreNames kept new
names_more kept old new name are adds =
    let more : AreNames kept (old ++ name ∷ []) = record {
      identifiers = list_all-append is_identifier old (name ∷ []) ∙ and_from (list_all is_identifier old) (is_identifier name && true) are.identifiers
          (and_from (is_identifier name) true adds.fresh.identifier refl);
      unreserved = list_any-append (λ other. is_among other kept) old (name ∷ [])
          ∙ or_from (list_any (λ other. is_among other kept) old) (list_any (λ other. is_among other kept) (name ∷ [])) are.unreserved (one_of name kept adds.fresh.unreserved);
      different = different_more old name are.different adds.fresh.different;
    } in
    subst (λ (x : List (List ℕ)). AreNames kept x) (sym adds.added) more

pub no_names : (kept : List (List ℕ)) → AreNames kept []
no_names kept = record { identifiers = refl; unreserved = refl; different = refl }

-- how long the longest is
abbrev pub longest : List (List ℕ) → ℕ
longest [] = 0
longest (word ∷ words) = max (length word) (longest words)

among_short : (name : List ℕ) (words : List (List ℕ)) → is_among name words ≡ true → length name ≤ longest words
among_short name [] h = cc
among_short name (word ∷ words) h = elim (or_cases (bytes_eq word name) (is_among name words) h) [
  | inl e ↦ let l : length word ≡ length name = ap length ((bytes_eq-Decides word name).0 e) in omega (arith, l)
  | inr e ↦ let l = among_short name words e in omega (arith, l)
]

free_cases : (kept outer taken : List (List ℕ)) (name : List ℕ) → is_free kept outer taken name ≡ false
    → length name ≤ longest kept + (longest outer + longest taken)
free_cases kept outer taken name h = elim (and_cases (not (is_among name kept) && not (is_among name outer)) (not (is_among name taken)) h) [
  | inl e ↦ elim (and_cases (not (is_among name kept)) (not (is_among name outer)) e) [
    | inl a ↦ omega (arith, among_short name kept (not-false (is_among name kept) a))
    | inr b ↦ omega (arith, among_short name outer (not-false (is_among name outer) b))
  ]
  | inr c ↦ omega (arith, among_short name taken (not-false (is_among name taken) c))
]

-- a name that isn't free is no longer than what is there, so one more `_` brings it nearer to the end
pub longer_is_nearer : (kept outer taken : List (List ℕ)) (name : List ℕ) → is_free kept outer taken name ≡ false
    → suc (longest kept + (longest outer + longest taken)) - length (name ++ 95 ∷ []) < suc (longest kept + (longest outer + longest taken)) - length name
longer_is_nearer kept outer taken name h =
    let short = free_cases kept outer taken name h in
    omega (arith, short, length-append name (95 ∷ []))

pub gains_more : (kept old new : List (List ℕ)) → AreNames kept old → Gains kept old new → AreNames kept new
gains_more kept old new are gains = names_more kept old new gains.name are gains.adds

pub length_more : (kept old new : List (List ℕ)) → Gains kept old new → length new ≡ length old + 1
length_more kept old new gains = ap length gains.adds.added ∙ length-append old (gains.name ∷ [])

-- a text that was appended
pub names_push : (old new : List (String Global)) (text : String Global) (name : List ℕ) → new ≡ old ++ text ∷ [] → string_bytes text ≡ name
    → names_in new ≡ names_in old ++ name ∷ []
names_push old new text name e h =
    ap names_in e ∙ (map-append (λ (other : String Global). string_bytes other) old (text ∷ []) ∙ ap (λ x. names_in old ++ x ∷ []) h)

-- the length of the list of texts
pub texts_more : (kept : List (List ℕ)) (old new : List (String Global)) (count : ℕ) → length old ≡ count → Gains kept (names_in old) (names_in new) → length new ≡ count + 1
texts_more kept old new count e gains =
    let more = length_more kept (names_in old) (names_in new) gains in
    omega (arith, more, length-map old (λ (text : String Global). string_bytes text), length-map new (λ (text : String Global). string_bytes text))

-- a word among texts, each of them a reference
pub texts_any : (word : List ℕ) (words : List (Bor (List ℕ))) → list_any (λ (other : Bor (List ℕ)). bytes_eq other.now word) words ≡ is_among word (texts_of words)
texts_any word [] = refl
texts_any word (other ∷ words) = ap (λ rest. bytes_eq other.now word || rest) (texts_any word words)

pub if_ok : {T E : Type 0} (result : Result T E) (P Q : T → Type 0) → IfOk result P → ((value : T) → P value → Q value) → IfOk result Q
if_ok (Ok value) P Q h f = f value h
if_ok (Err error) P Q h f = tt

-- the same for what a call answered of a text that is the name's
pub pushed_is_nearer : (kept outer taken : List (List ℕ)) (name text more : List ℕ) (answer : Bool) → text ≡ name → answer ≡ is_free kept outer taken text → answer ≡ false
    → more ≡ name ++ 95 ∷ []
    → suc (longest kept + (longest outer + longest taken)) - length more < suc (longest kept + (longest outer + longest taken)) - length name
pushed_is_nearer kept outer taken name text more answer e f g h =
    let free : is_free kept outer taken name ≡ false = ap (λ (x : List ℕ). is_free kept outer taken x) (sym e) ∙ (sym f ∙ g) in
    subst (λ (x : List ℕ). suc (longest kept + (longest outer + longest taken)) - length x < suc (longest kept + (longest outer + longest taken)) - length name) (sym h)
    (longer_is_nearer kept outer taken name free)
