-- What a word looks like, to the definition and to clap.
use Rattle.std.proofs.Common.{◌≡◌, ◌∙◌, ℕ, Bool, true, false, cond, not, ◌&&◌, ◌==◌, ◌<◌, suc, refl, sym, ap, subst, List, [], ◌∷◌, ◌++◌, ◌||◌, ◌+◌, take, length, Some, None, bytes_eq, true≢false, IsUtf8, chars, encode_utf8, encode_utf8_all, slice_get, arith}
use Rattle.std.specs.List.{list_any, position_or_len, before_first, after_first}
use Rattle.std.proofs.lemmas.Bool.{eqb-true}
use Rattle.std.proofs.lemmas.Str.{chars_past_char, encode_ascii, encodes-chars}
use Rattle.clap.specs.Lexer.{long_of, short_of}
use Rattle.kat_words.specs.Parts.{Kind, Text, marker, setting, asking, stray, path, is_option, kind_by, kind_of}

abbrev pub dashes : Text
dashes = 45 ∷ 45 ∷ []

-- a word with flags after its `-`
pub record IsBundle (word : Text) : Type 0 where
  pub flags : Text
  pub some : 0 < length flags
  pub whole : word ≡ 45 ∷ flags
  pub short : short_of word ≡ Some flags

abbrev pub Sees : Text → Kind → Type 0
Sees word marker = bytes_eq word dashes ≡ true
Sees word (setting name given) = (bytes_eq word dashes ≡ false) × (long_of word ≡ Some (name, Some given))
Sees word (asking name) = (bytes_eq word dashes ≡ false) × (long_of word ≡ Some (name, None))
Sees word stray = (bytes_eq word dashes ≡ false) × (long_of word ≡ None) × IsBundle word
Sees word path = (bytes_eq word dashes ≡ false) × (long_of word ≡ None) × (short_of word ≡ None)

-- a name without `=` is all of its word
whole_name : (xs : Text) → list_any (λ x. x == 61) xs ≡ false → before_first (λ x. x == 61) xs ≡ xs
whole_name [] none = refl
whole_name (x ∷ xs) none = go (x == 61) none (whole_name xs) where
  go : (b : Bool) → (b || list_any (λ y. y == 61) xs) ≡ false → (list_any (λ y. y == 61) xs ≡ false → before_first (λ y. y == 61) xs ≡ xs)
      → take (cond (not b) (1 + position_or_len (λ y. y == 61) xs) 0) (x ∷ xs) ≡ x ∷ xs
  go true e next = absurd (true≢false e)
  go false e next =
      let more : 1 + position_or_len (λ y. y == 61) xs ≡ suc (position_or_len (λ y. y == 61) xs) = omega arith in
      ap (λ k. take k (x ∷ xs)) more ∙ ap (λ (ys : Text). x ∷ ys) (next e)

named : (a b c : ℕ) (name : Text) (e : (a == 45) ≡ true) (f : (b == 45) ≡ true) (equals : Bool) → list_any (λ x. x == 61) (c ∷ name) ≡ equals
    → Sees (a ∷ b ∷ c ∷ name) (cond equals (setting (before_first (λ x. x == 61) (c ∷ name)) (after_first (λ x. x == 61) (c ∷ name))) (asking (c ∷ name)))
named a b c name e f true has = (rw (e, f) refl, rw (e, f, has) refl)
named a b c name e f false has = (rw (e, f) refl, rw (e, f, has) (ap (λ (n : Text). Some (n, None)) (whole_name (c ∷ name) has)))

two : (a b : ℕ) (name : Text) (first second : Bool) → (a == 45) ≡ first → (b == 45) ≡ second → Sees (a ∷ b ∷ name) (kind_by (cond (first && second) (Some name) None) first)
two a b name false second e f = (rw e refl, rw e refl, rw e refl)
two a b name true false e f = (
  rw (e, f) refl,
  rw (e, f) refl,
  record {
    flags = b ∷ name;
    some = omega arith;
    whole = ap (λ (x : ℕ). x ∷ b ∷ name) (eqb-true a 45 e);
    short = rw (e, f) refl;
  },
)
two a b [] true true e f = rw (e, f) refl
two a b (c ∷ name) true true e f = named a b c name e f (list_any (λ x. x == 61) (c ∷ name)) refl

one : (a : ℕ) (first : Bool) → (a == 45) ≡ first → Sees (a ∷ []) path
one a true e = (rw e refl, rw e refl, rw e refl)
one a false e = (rw e refl, rw e refl, rw e refl)

pub looks : (word : Text) → Sees word (kind_of word)
looks [] = (refl, refl, refl)
looks (a ∷ []) = one a (a == 45) refl
looks (a ∷ b ∷ name) = two a b name (a == 45) (b == 45) refl refl

-- only a path is no option
abbrev pub is_path : Kind → Bool
is_path path = true
is_path kind = false

two_option : (name : Text) (first second : Bool) → first ≡ not (is_path (kind_by (cond (first && second) (Some name) None) first))
two_option name false second = refl
two_option name true false = refl
two_option [] true true = refl
two_option (c ∷ name) true true = by_equals (list_any (λ x. x == 61) (c ∷ name)) where
  by_equals : (equals : Bool) → true ≡ not (is_path (cond equals (setting (before_first (λ x. x == 61) (c ∷ name)) (after_first (λ x. x == 61) (c ∷ name))) (asking (c ∷ name))))
  by_equals true = refl
  by_equals false = refl

pub options_look : (word : Text) → is_option word ≡ not (is_path (kind_of word))
options_look [] = refl
options_look (a ∷ []) = refl
options_look (a ∷ b ∷ name) = two_option name (a == 45) (b == 45)

-- flags have a first character
first_of_some : (cs : List ℕ) → (cs ≡ [] → ⊥) → (c : ℕ) × (slice_get cs 0 ≡ Some c)
first_of_some [] none = absurd (none refl)
first_of_some (c ∷ cs) none = (c, refl)

pub first_char : (word : Text) (bundle : IsBundle word) → IsUtf8 word → (c : ℕ) × (slice_get (chars bundle.flags) 0 ≡ Some c)
first_char word bundle valid =
    let flags = bundle.flags in
    let valid_too : IsUtf8 (45 ∷ flags) = subst IsUtf8 bundle.whole valid in
    let dash : encode_utf8 45 ≡ 45 ∷ [] = encode_ascii 45 (omega arith) in
    let behind : chars (45 ∷ flags) ≡ 45 ∷ chars flags = chars_past_char (45 ∷ flags) flags 45 valid_too (sym (ap (λ (bs : Text). bs ++ flags) dash)) in
    let whole : encode_utf8_all (45 ∷ chars flags) ≡ 45 ∷ flags = ap encode_utf8_all (sym behind) ∙ encodes-chars (45 ∷ flags) valid_too in
    first_of_some (chars flags) (λ none.
    let bare : 45 ∷ [] ≡ 45 ∷ flags = sym (ap (λ (bs : Text). bs ++ []) dash) ∙ ap (λ (cs : List ℕ). encode_utf8_all (45 ∷ cs)) (sym none) ∙ whole in
    let sizes : 1 ≡ suc (length flags) = ap length bare in
    let some : 0 < length flags = bundle.some in
    absurd (omega (arith, sizes, some)))
