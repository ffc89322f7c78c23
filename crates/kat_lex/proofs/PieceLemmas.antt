-- Each piece takes a byte or more, and stays in the text; what is known of a token's kind.
use Rattle.std.proofs.Common.{◌≡◌, ℕ, ◌+◌, ◌<◌, ◌≤◌, true, List, length, refl, sym, inl, inr, arith}
use Rattle.std.proofs.lemmas.Bool.{cases_lt}
use Rattle.std.specs.Prelude.{slice_range, not, ◌==◌}
use Rattle.std.specs.Str.Parse.{digits_value}
use Rattle.kat_num.specs.Bytes.{is_digit, is_name_byte, is_word_byte}
use Rattle.kat_num.specs.Values.{IsNumber}
use Rattle.kat_num.specs.declared.values.TheConstants.{NUMBER_LIMIT}
use Rattle.kat_lex.specs.Classes.{byte_at}
use Rattle.kat_lex.specs.Kinds.{IsKindRead}
use Rattle.kat_lex.specs.Pieces.{IsDigits, IsGap, IsWord}
use Rattle.kat_lex.specs.Pieces.IsGap.{blank, comment}
use Rattle.kat_lex.specs.Pieces.IsSign.{double, single}
use Rattle.kat_lex.specs.Tokens.{IsKind}
use Rattle.kat_lex.specs.declared.lexer.TokenKind.{TokenKind}
use Rattle.kat_lex.specs.declared.lexer.TokenKind.TheVariants.{Word, Name, Number, Sign, Newline}
use Rattle.kat_lex.proofs.RunLemmas.{length-slice, run_goes, run_passes}
use Rattle.kat_lex.proofs.ClassLemmas.{digit_passes, double_inside, hash_passes, letter_passes, quote_inside}

-- what is read goes on, and not past the end
pub record GoesOn (text : List ℕ) (from to : ℕ) : Type 0 where
  pub further : from < to
  pub within : to ≤ length text

one_byte : (text : List ℕ) (from to : ℕ) → from < length text → to ≡ from + 1 → GoesOn text from to
one_byte text from to inside e = record { further = omega arith; within = omega arith }

pub gap_goes : (text : List ℕ) (from to : ℕ) → from < length text → IsGap text from to → GoesOn text from to
gap_goes text from to inside (blank class e) = one_byte text from to inside e
gap_goes text from to inside (comment class run) = record {
  further = run_goes (λ byte. not (byte == 10)) text from to run inside (hash_passes (byte_at text from) class);
  within = run.within;
}

word_goes : (text : List ℕ) (from to : ℕ) → from < length text → IsWord text from to → GoesOn text from to
word_goes text from to inside word = record {
  further = run_goes is_word_byte text from to word.run inside (letter_passes (byte_at text from) word.first);
  within = word.run.within;
}

pub digits_go : (text : List ℕ) (from to : ℕ) → from < length text → IsDigits text from to → GoesOn text from to
digits_go text from to inside digits = record {
  further = run_goes is_digit text from to digits.run inside (digit_passes (byte_at text from) digits.first);
  within = digits.run.within;
}

pub kind_goes : (text : List ℕ) (from to : ℕ) (kind : TokenKind) → from < length text → IsKind text from to kind → GoesOn text from to
kind_goes text from to (Word code) inside h = word_goes text from to inside h.0
kind_goes text from to (Name code) inside h =
    let ordered = h.opened.run.ordered in
    let behind : to ≡ h.end + 1 = h.behind in
    let closed : h.end < length text = quote_inside text h.end h.closed in
    record { further = omega arith; within = omega arith }
kind_goes text from to (Number n) inside h = digits_go text from to inside h.0
kind_goes text from to (Sign first second) inside (double class pair _ _ e) =
    let next : from + 1 < length text = double_inside text (byte_at text from) (from + 1) pair in
    record { further = omega arith; within = omega arith }
kind_goes text from to (Sign first second) inside (single class pair _ _ e) = one_byte text from to inside e
kind_goes text from to Newline inside h = one_byte text from to inside h.one

weaker : (byte : ℕ) → is_word_byte byte ≡ true → is_name_byte byte ≡ true
weaker byte h = rw h refl

same_byte : (byte : ℕ) → is_name_byte byte ≡ true → is_name_byte byte ≡ true
same_byte byte h = h

pub kind_known : (text : List ℕ) (from to : ℕ) (kind : TokenKind) → IsKind text from to kind → IsKindRead kind
kind_known text from to (Word code) h = record {
  name = slice_range text from to;
  is_name = record {
    short = omega (arith, length-slice text from to h.0.run.within, h.1);
    each = run_passes is_word_byte is_name_byte text from to weaker h.0.run;
  };
  coded = sym h.2;
}
kind_known text from to (Name code) h = record {
  name = slice_range text (from + 1) h.end;
  is_name = record {
    short = omega (arith, length-slice text (from + 1) h.end h.opened.run.within, h.short);
    each = run_passes is_name_byte is_name_byte text (from + 1) h.end same_byte h.opened.run;
  };
  coded = sym h.coded;
}
kind_known text from to (Number n) h = h.1.small
kind_known text from to (Sign _ _) h = tt
kind_known text from to Newline h = tt

-- as many digits as there are, of a value within the limit, are a number
pub digits_are_number : (text : List ℕ) (from to : ℕ) → from < length text → IsDigits text from to
    → digits_value 10 (slice_range text from to) ≤ NUMBER_LIMIT → IsNumber (slice_range text from to) (digits_value 10 (slice_range text from to))
digits_are_number text from to inside digits small =
    let goes : GoesOn text from to = digits_go text from to inside digits in
    record {
      some = omega (arith, length-slice text from to digits.run.within);
      each = run_passes is_digit is_digit text from to (λ byte h. h) digits.run;
      value = refl;
      small = small;
    }

-- digits that are no number are past the limit
pub past_limit : (text : List ℕ) (from to : ℕ) → from < length text → IsDigits text from to
    → ((n : ℕ) → IsNumber (slice_range text from to) n → ⊥) → NUMBER_LIMIT < digits_value 10 (slice_range text from to)
past_limit text from to inside digits none =
    elim (cases_lt NUMBER_LIMIT (digits_value 10 (slice_range text from to))) [
      | inl past ↦ past
      | inr small ↦ absurd (none (digits_value 10 (slice_range text from to)) (digits_are_number text from to inside digits small))
    ]
