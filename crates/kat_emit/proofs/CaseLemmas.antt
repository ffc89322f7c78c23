-- Words that grow by a letter.
use Rattle.std.proofs.Common.{◌≡◌, ℕ, true, List, [], ◌∷◌, ◌++◌, refl, ap, ◌∙◌, sym, arith, ◌<◌, append_assoc, append-nil}
use Rattle.std.proofs.lemmas.List.Folds.{list_all-append}
use Rattle.std.proofs.lemmas.Bool.{and_from, and_parts}
use Rattle.std.proofs.lemmas.Bool.Decides.{nat_tests}
use Rattle.std.specs.Char.{is_ascii_alphabetic, is_ascii_alphanumeric}
use Rattle.std.specs.List.{list_all}
use Rattle.kat_emit.specs.Words.{AppendsParts, AppendsWord, is_begun, is_part, is_word}

pub parts_more : (xs ys : List ℕ) → list_all is_part xs ≡ true → list_all is_part ys ≡ true → list_all is_part (xs ++ ys) ≡ true
parts_more xs ys h k = list_all-append is_part xs ys ∙ and_from (list_all is_part xs) (list_all is_part ys) h k

-- a word, followed by parts
pub word_more : (xs ys : List ℕ) → is_word xs ≡ true → list_all is_part ys ≡ true → is_word (xs ++ ys) ≡ true
word_more [] ys h k = cc
word_more (x ∷ xs) ys h k =
    and_from (is_ascii_alphabetic x) (list_all is_part (xs ++ ys)) (and_parts (is_ascii_alphabetic x) (list_all is_part xs) h).0
    (parts_more xs ys (and_parts (is_ascii_alphabetic x) (list_all is_part xs) h).1 k)

-- nothing or a word, followed by parts that are a word if they come first
pub begun_more : (xs ys : List ℕ) → is_begun xs ≡ true → (xs ≡ [] → is_word ys ≡ true) → list_all is_part ys ≡ true → is_word (xs ++ ys) ≡ true
begun_more [] ys h first k = first refl
begun_more (x ∷ xs) ys h first k = word_more (x ∷ xs) ys h k

-- one more letter after parts
pub parts_kept : (old mid new : List ℕ) (letter : ℕ) → AppendsParts old mid → is_part letter ≡ true → new ≡ mid ++ letter ∷ [] → AppendsParts old new
parts_kept old mid new letter a part e =
    record {
      parts = a.parts ++ letter ∷ [];
      appended = e ∙ (ap (λ x. x ++ letter ∷ []) a.appended ∙ append_assoc old a.parts (letter ∷ []));
      good = parts_more a.parts (letter ∷ []) a.good (and_from (is_part letter) true part refl);
    }

pub no_parts : (old : List ℕ) → AppendsParts old old
no_parts old = record { parts = []; appended = sym (append-nil old); good = refl }

-- a letter, and then parts
pub word_joined : (old mid new : List ℕ) (letter : ℕ) → is_ascii_alphabetic letter ≡ true → mid ≡ old ++ letter ∷ [] → AppendsParts mid new → AppendsWord old new
word_joined old mid new letter first e a =
    record {
      word = letter ∷ a.parts;
      appended = a.appended ∙ (ap (λ x. x ++ a.parts) e ∙ append_assoc old (letter ∷ []) a.parts);
      good = and_from (is_ascii_alphabetic letter) (list_all is_part a.parts) first a.good;
    }

pub part_from_alphanumeric : (letter : ℕ) → is_ascii_alphanumeric letter ≡ true → is_part letter ≡ true
part_from_alphanumeric letter h = grind (arith, nat_tests)

pub letter_is_ascii : (letter : ℕ) → is_ascii_alphanumeric letter ≡ true → letter < 128
letter_is_ascii letter h = grind (arith, nat_tests)

pub letter_is_alphanumeric : (letter : ℕ) → is_ascii_alphabetic letter ≡ true → is_ascii_alphanumeric letter ≡ true
letter_is_alphanumeric letter h = grind (arith, nat_tests)
