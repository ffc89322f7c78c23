-- What is known of a line once its beginning is read, and what a line is to the whole text.
use Rattle.std.proofs.Common.{◌≡◌, ℕ, zero, suc, ◌+◌, ◌<◌, ◌≤◌, true, false, List, [], ◌∷◌, ◌++◌, length, Option, Some, None, refl, sym, subst, arith, append_assoc, append-nil}
use Rattle.std.specs.Prelude.{All}
use Rattle.kat_lex.specs.Classes.{byte_at, class_of}
use Rattle.kat_lex.specs.Pieces.{IsGap, IsLineEnd}
use Rattle.kat_lex.specs.declared.classes.Class.TheVariants.{LineEnd}
use Rattle.kat_lex.specs.TextLines.{EndsLine, HasInLine, IsFaultInLine, IsLineAdded, IsTextLine, TellsLineFault, is_newline}
use Rattle.kat_lex.specs.TextLines.HasInLine.{done, past_gap, past_token}
use Rattle.kat_lex.specs.Tokens.{IsFault, IsToken, Lexes}
use Rattle.kat_lex.specs.Tokens.Lexes.{ends, stops, gap, token}
use Rattle.kat_lex.specs.declared.lexer.TokenKind.TheVariants.{Newline}
use Rattle.kat_lex.specs.declared.lexer.LexError.{LexError}
use Rattle.kat_lex.specs.declared.lexer.LexError.TheVariants.{BadByte, LongName, LongNumber, Memory}
use Rattle.kat_lex.specs.declared.lexer.Token.{Token}
use Rattle.kat_lex.proofs.PieceLemmas.{GoesOn, gap_goes, kind_goes}

-- what the line has from here on, it has from its start on after these tokens; after what was there before
pub record ReadsLine (text : List ℕ) (start at : ℕ) (old new : List Token) : Type 0 where
  pub within : at ≤ length text
  pub found : List Token
  pub added : new ≡ old ++ found
  pub rest : (tokens : List Token) (end : ℕ) → HasInLine text at tokens end → HasInLine text start (found ++ tokens) end

pub line_start : (text : List ℕ) (start : ℕ) (old : List Token) → start ≤ length text → ReadsLine text start start old old
line_start text start old within = record {
  within = within;
  found = [];
  added = sym (append-nil old);
  rest = λ tokens end more. more;
}

pub line_gap : (text : List ℕ) (start at to : ℕ) (old new : List Token) → at < length text → IsGap text at to → ReadsLine text start at old new → ReadsLine text start to old new
line_gap text start at to old new inside is reads =
    let goes : GoesOn text at to = gap_goes text at to inside is in
    record {
      within = goes.within;
      found = reads.found;
      added = reads.added;
      rest = λ tokens end more. reads.rest tokens end (past_gap to inside is more);
    }

pub line_token : (text : List ℕ) (start at : ℕ) (next : Token) (old new : List Token) → at < length text → IsToken text at next → is_newline next ≡ false
    → ReadsLine text start at old new → ReadsLine text start next.to old (new ++ next ∷ [])
line_token text start at next old new inside is plain reads =
    let goes : GoesOn text at next.to = kind_goes text at next.to next.kind inside is.kind in
    record {
      within = goes.within;
      found = reads.found ++ next ∷ [];
      added = rw reads.added (append_assoc old reads.found (next ∷ []));
      rest = λ tokens end more. rw append_assoc (reads.rest (next ∷ tokens) end (past_token next inside is plain more));
    }

read_up_to : (text : List ℕ) (start at : ℕ) (old new : List Token) (next : Option ℕ) → EndsLine text at next → ReadsLine text start at old new → IsLineAdded text start old new next
read_up_to text start at old new next is reads = record {
  line = reads.found ++ [];
  added = rw append-nil reads.added;
  is_line = record { end = at; has = reads.rest [] at done; ends = is };
}

pub line_newline : (text : List ℕ) (start at : ℕ) (old new : List Token) → at < length text → class_of (byte_at text at) ≡ LineEnd
    → ReadsLine text start at old new → IsLineAdded text start old new (Some (at + 1))
line_newline text start at old new inside class reads = read_up_to text start at old new (Some (at + 1)) (inside, record { first = class; one = refl }) reads

pub line_end : (text : List ℕ) (start at : ℕ) (old new : List Token) → length text ≤ at → ReadsLine text start at old new → IsLineAdded text start old new None
line_end text start at old new past reads = read_up_to text start at old new None past reads

pub line_fault : (text : List ℕ) (start at : ℕ) (old new : List Token) (fault : LexError) → at < length text → IsFault text at fault → ReadsLine text start at old new
    → TellsLineFault text start fault
line_fault text start at old new (BadByte place) inside is reads = record { before = reads.found ++ []; place = at; has = reads.rest [] at done; within = inside; is_fault = is }
line_fault text start at old new (LongName place) inside is reads = record { before = reads.found ++ []; place = at; has = reads.rest [] at done; within = inside; is_fault = is }
line_fault text start at old new (LongNumber place) inside is reads = record { before = reads.found ++ []; place = at; has = reads.rest [] at done; within = inside; is_fault = is }
line_fault text start at old new Memory inside is reads = tt

-- none of the tokens is a newline
abbrev pub AreOneLine : List Token → Type 0
AreOneLine tokens = All (λ token. is_newline token ≡ false) tokens

plain_first : (first : Token) (line : List Token) → is_newline first ≡ false → AreOneLine line → AreOneLine (first ∷ line)
plain_first first line plain all zero d lt = plain
plain_first first line plain all (suc k) d lt = all k d (omega arith)

has_no_newline : (text : List ℕ) (at end : ℕ) (line : List Token) → HasInLine text at line end → AreOneLine line
has_no_newline text at _ _ done = λ k d lt. absurd (omega arith)
has_no_newline text at _ _ (past_gap {end = end} {line = line} to inside is more) = has_no_newline text to end line more
has_no_newline text at _ _ (past_token {end = end} {line = line} first inside is plain more) = plain_first first line plain (has_no_newline text first.to end line more)

pub line_is_one : (text : List ℕ) (at : ℕ) (line : List Token) (next : Option ℕ) → IsTextLine text at line next → AreOneLine line
line_is_one text at line next is = has_no_newline text at is.end line is.has

-- what comes after some tokens of a line is in the text after them
behind : (text : List ℕ) (at place : ℕ) (line tokens : List Token) (end : Option LexError) → HasInLine text at line place → Lexes text place tokens end → Lexes text at (line ++ tokens) end
behind text at _ _ tokens end done more = more
behind text at _ _ tokens end (past_gap {end = place} {line = line} to inside is has) more = gap to inside is (behind text to place line tokens end has more)
behind text at _ _ tokens end (past_token {end = place} {line = line} first inside is plain has) more =
    token first inside is (behind text first.to place line tokens end has more)

-- a line that a newline ends, and after it the rest of the text
pub record IsEndedLine (text : List ℕ) (at : ℕ) (line : List Token) (next : ℕ) : Type 0 where
  pub newline : Token
  pub is_one : is_newline newline ≡ true
  pub onward : at < next
  pub within : next ≤ length text
  pub goes : (tokens : List Token) (end : Option LexError) → Lexes text next tokens end → Lexes text at (line ++ newline ∷ tokens) end

in_order : (text : List ℕ) (at end : ℕ) (line : List Token) → HasInLine text at line end → at ≤ end
in_order text at _ _ done = omega arith
in_order text at _ _ (past_gap {end = end} {line = line} to inside is more) =
    let goes : GoesOn text at to = gap_goes text at to inside is in
    omega (arith, goes.further, in_order text to end line more)
in_order text at _ _ (past_token {end = end} {line = line} first inside is plain more) =
    let goes : GoesOn text at first.to = kind_goes text at first.to first.kind inside is.kind in
    omega (arith, goes.further, in_order text first.to end line more)

abbrev newline_at : ℕ → Token
newline_at place = record { kind = Newline; from = place; to = place + 1 }

next_lexes : (text : List ℕ) (place next : ℕ) (tokens : List Token) (end : Option LexError) → place < length text → IsLineEnd text place next → Lexes text next tokens end
    → Lexes text place (newline_at place ∷ tokens) end
next_lexes text place next tokens end inside is more =
    token (newline_at place) inside (record { from = refl; kind = record { first = is.first; one = refl } }) (subst (λ n. Lexes text n tokens end) is.one more)

pub line_ended : (text : List ℕ) (at : ℕ) (line : List Token) (next : ℕ) → IsTextLine text at line (Some next) → IsEndedLine text at line next
line_ended text at line next is =
    let ends : IsLineEnd text is.end next = is.ends.1 in
    let one : next ≡ is.end + 1 = ends.one in
    record {
      newline = newline_at is.end;
      is_one = refl;
      onward = omega (arith, one, in_order text at is.end line is.has);
      within = omega (arith, one, is.ends.0);
      goes = λ tokens end more. behind text at is.end line (newline_at is.end ∷ tokens) end is.has (next_lexes text is.end next tokens end is.ends.0 ends more);
    }

-- the last line of a text
pub line_lexes : (text : List ℕ) (at : ℕ) (line : List Token) → IsTextLine text at line None → Lexes text at line None
line_lexes text at line is = rw append-nil at (behind text at is.end line [] None is.has (ends is.ends))

-- the fault of a line is the first of the text from there on
pub fault_in_text : (text : List ℕ) (at : ℕ) (fault : LexError) → IsFaultInLine text at fault → (tokens : List Token) × Lexes text at tokens (Some fault)
fault_in_text text at fault is = (is.before ++ [], behind text at is.place is.before [] (Some fault) is.has (stops is.within is.is_fault))
