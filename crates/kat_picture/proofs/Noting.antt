-- What is kept of the words of a text's packets, from line to line.
use Rattle.std.proofs.Common.{◌≡◌, ℕ, ◌<◌, ◌≤◌, Bool, true, false, List, [], ◌∷◌, ◌++◌, length, get_or, set, refl, sym, ◌∙◌, ap, subst, cond, arith, Option, None, Some, Result, Ok, Err}
use Rattle.std.specs.Prelude.{◌==◌, ◌&&◌, not, nat_le, nat_lt, is_some, position, unwrap_or, IfOk, OnOk}
use Rattle.std.specs.List.{list_any, position_or_len}
use Rattle.std.proofs.lemmas.Bool.{and_from, and_right, cond-false, cond-true, eqb-true, le-ltb, leb-false, lt-ltb, ltb-false, not_from_false, not_from_true}
use Rattle.std.proofs.lemmas.List.{set-get_or}
use Rattle.std.proofs.lemmas.List.Folds.{list_any_at, list_any_none}
use Rattle.std.proofs.lemmas.List.Quantifiers.{position-Some}
use Rattle.std.proofs.lemmas.List.Sums.{fails_before_first}
use Rattle.kat_lex.proofs.LineReading.{AreOneLine, IsEndedLine}
use Rattle.kat_lex.proofs.Unique.{not_both, tokens_once}
use Rattle.kat_lex.specs.TextLines.{TellsLineFault}
use Rattle.kat_lex.specs.Tokens.{FaultOf, Lexes}
use Rattle.kat_lex.specs.declared.lexer.LexError.{LexError}
use Rattle.kat_lex.specs.declared.lexer.LexError.TheVariants as lex
use Rattle.kat_lex.specs.declared.lexer.Token.{Token}
use Rattle.kat_picture.specs.Naming.{AreWordsOf, Notes, noted}
use Rattle.kat_picture.specs.declared.naming.Names.{Names}
use Rattle.kat_script.proofs.Following.{keeps_rules, script_read}
use Rattle.kat_script.proofs.Saying.{no_tokens}
use Rattle.kat_script.proofs.Streaming.{cut_line, fault_told, last_line, regroup}
use Rattle.kat_script.specs.Reading.{TellsFaultFrom}
use Rattle.kat_script.specs.Rules.{is_past_limit, place_of}
use Rattle.kat_script.specs.Script.{Ending, Place, Reads, behind, below, blank, breaks, ends, good, keeps, known_at, never_opens, refused, start, text_lines, unreadable, words_after}
use Rattle.kat_script.specs.declared.rules.TheConstants.{PACKET_LIMIT}
use Rattle.kat_script.specs.declared.said.Said.{Said}
use Rattle.kat_script.specs.declared.said.Said.TheVariants.{Replicas, Does, Ships, Delivers, Asks, Shows}
use Rattle.kat_script.specs.declared.script.Line.{Line}
use Rattle.kat_type.specs.declared.signatures.Signature.{Signature}

not_below : (n : ℕ) → n ≤ n
not_below n = omega arith

within : (k n l : ℕ) → l ≤ n → k < l → k < n
within k n l m lt = omega arith

nowhere : (n l : ℕ) (b : Bool) → nat_lt n l ≡ b → cond b (Some n) None ≡ None → l ≤ n
nowhere n l true e none = absurd cc
nowhere n l false e none = ltb-false n l e

-- a word that has no place is none of the words
absent : (words : List ℕ) (word : ℕ) → position (λ other. other == word) words ≡ None → list_any (λ other. other == word) words ≡ false
absent words word none =
    let past : length words ≤ position_or_len (λ (other : ℕ). other == word) words =
    nowhere (position_or_len (λ (other : ℕ). other == word) words) (length words) (nat_lt (position_or_len (λ (other : ℕ). other == word) words) (length words)) refl none in
    list_any_none (λ other. other == word) words
    (λ k d lt. fails_before_first (λ other. other == word) words k d (within k (position_or_len (λ (other : ℕ). other == word) words) (length words) past lt))

-- a word that may be put among the words is put there, or is there already
put_word : (words : List ℕ) (word limit : ℕ) (o : Option ℕ) → position (λ other. other == word) words ≡ o → (not (is_some o) && nat_le limit (length words)) ≡ false
    → cond (nat_lt (length words) limit && not (list_any (λ other. other == word) words)) (words ++ word ∷ []) words
    ≡ cond (nat_lt (unwrap_or o (length words)) (length words)) (set words (unwrap_or o (length words)) word) (words ++ word ∷ [])
put_word words word limit None e room =
    cond-true (nat_lt (length words) limit && not (list_any (λ other. other == word) words)) (words ++ word ∷ []) words
    (and_from (nat_lt (length words) limit) (not (list_any (λ other. other == word) words)) (lt-ltb (length words) limit (leb-false limit (length words) room))
    (not_from_false (list_any (λ other. other == word) words) (absent words word e)))
    ∙ sym (cond-false (nat_lt (length words) (length words)) (set words (length words) word) (words ++ word ∷ []) (le-ltb (length words) (length words) (not_below (length words))))
put_word words word limit (Some i) e room =
    let found = position-Some (λ other. other == word) words i 0 e in
    let same : get_or words i 0 ≡ word = eqb-true (get_or words i 0) word found.1 in
    cond-false (nat_lt (length words) limit && not (list_any (λ other. other == word) words)) (words ++ word ∷ []) words
    (and_right (nat_lt (length words) limit) (not (list_any (λ other. other == word) words))
    (not_from_true (list_any (λ other. other == word) words) (list_any_at (λ other. other == word) words i 0 found.0 found.1)))
    ∙ sym (set-get_or words i 0) ∙ ap (λ x. set words i x) same
    ∙ sym (cond-true (nat_lt i (length words)) (set words i word) (words ++ word ∷ []) (lt-ltb i (length words) found.0))

-- what is noted of a line that keeps to the limits are the words that its reader has
noted_is : (place : Place) (said : Said) → is_past_limit (known_at place) said ≡ false → noted place.words said ≡ words_after place said
noted_is place (Replicas n) e = refl
noted_is place (Does r op args time) e = refl
noted_is place (Ships r word) e = put_word place.words word PACKET_LIMIT (place_of (known_at place) word) refl e
noted_is place (Delivers word r) e = refl
noted_is place (Asks r query args) e = refl
noted_is place (Shows r) e = refl

-- what the lines of a script are read as from some place on, after these words
pub record Rest (sig : Signature) (rows : List (List Token)) (words : List ℕ) (last : Place) : Type 0 where
  pub place : Place
  pub has : place.words ≡ words
  pub lines : List Line
  pub read : Reads sig place rows lines (good last)

abbrev RestTo : Signature → List (List Token) → List ℕ → Ending → Type 0
RestTo sig rows words (good last) = Rest sig rows words last
RestTo sig rows words (refused error) = Unit {0}

rest_to : (sig : Signature) (place : Place) (rows : List (List Token)) (words : List ℕ) (lines : List Line) (end : Ending) → place.words ≡ words
    → Reads sig place rows lines end → RestTo sig rows words end
rest_to sig place rows words lines (good last) has read = record { place = place; has = has; lines = lines; read = read }
rest_to sig place rows words lines (refused error) has read = tt

-- the same after the first of the lines
abbrev BehindFirst : Signature → List (List Token) → List ℕ → Ending → Type 0
BehindFirst sig [] old end = Unit {0}
BehindFirst sig (row ∷ rows) old end = (new : List ℕ) → Notes row old new → RestTo sig rows new end

behind_first : (sig : Signature) (place : Place) (rows : List (List Token)) (old : List ℕ) (lines : List Line) (end : Ending) → place.words ≡ old
    → Reads sig place rows lines end → BehindFirst sig rows old end
behind_first sig place _ old _ _ has (ends h) = tt
behind_first sig place _ old _ _ has (never_opens h) = tt
behind_first sig place _ old _ _ has (blank {rest = rest} {lines = lines} {end = end} read) =
    λ new notes. rest_to sig (below place) rest new lines end (has ∙ sym (notes.silent no_tokens)) read
behind_first sig place _ old _ _ has (unreadable some none) = λ new notes. tt
behind_first sig place _ old _ _ has (breaks said rule says broken) = λ new notes. tt
behind_first sig place _ old _ _ has (keeps {rest = rest} {lines = lines} {end = end} said says none read) =
    λ new notes.
    rest_to sig (behind sig place said) rest new lines end
    (sym (noted_is place said (keeps_rules sig (known_at place) said none).within) ∙ ap (λ (words : List ℕ). noted words said) has ∙ sym (notes.speaks said says))
    read

pub row_noted : (sig : Signature) (row : List Token) (rows : List (List Token)) (old new : List ℕ) (last : Place) → Rest sig (row ∷ rows) old last → Notes row old new
    → Rest sig rows new last
row_noted sig row rows old new last rest notes = behind_first sig rest.place (row ∷ rows) old rest.lines (good last) rest.has rest.read new notes

-- after all lines, the words are those of the last place
abbrev IsLastOf : List (List Token) → List ℕ → Ending → Type 0
IsLastOf [] words (good last) = words ≡ last.words
IsLastOf [] words (refused error) = Unit {0}
IsLastOf (row ∷ rows) words end = Unit {0}

at_last : (sig : Signature) (place : Place) (rows : List (List Token)) (lines : List Line) (end : Ending) → Reads sig place rows lines end → IsLastOf rows place.words end
at_last sig place _ _ _ (ends h) = refl
at_last sig place _ _ _ (never_opens h) = tt
at_last sig place _ _ _ (blank read) = tt
at_last sig place _ _ _ (unreadable some none) = tt
at_last sig place _ _ _ (breaks said rule says broken) = tt
at_last sig place _ _ _ (keeps said says none read) = tt

all_noted : (sig : Signature) (words : List ℕ) (last : Place) → Rest sig [] words last → words ≡ last.words
all_noted sig words last rest = sym rest.has ∙ at_last sig rest.place [] rest.lines (good last) rest.read

-- A text is gone through up to a place, and these are the words so far: if the whole is read as a script, the rest is read
-- as its lines from there on, after these words.
pub record Noting (text : List ℕ) (at : ℕ) (words : List ℕ) : Type 0 where
  pub within : at ≤ length text
  pub before : List Token
  pub lexed : (tokens : List Token) (end : Option LexError) → Lexes text at tokens end → Lexes text 0 (before ++ tokens) end
  pub rest : (sig : Signature) (tokens : List Token) (lines : List Line) (last : Place) → Reads sig start (text_lines (before ++ tokens)) lines (good last)
      → Rest sig (text_lines tokens) words last

pub noting_start : (text words : List ℕ) → words ≡ [] → Noting text 0 words
noting_start text words none = record {
  within = omega arith;
  before = [];
  lexed = λ tokens end more. more;
  rest = λ sig tokens lines last read. record { place = start; has = sym none; lines = lines; read = read };
}

pub noting_next : (text : List ℕ) (at next : ℕ) (line : List Token) (words new : List ℕ) → Noting text at words → AreOneLine line → IsEndedLine text at line next
    → Notes line words new → Noting text next new
noting_next text at next line words new here plain ended notes = record {
  within = ended.within;
  before = here.before ++ (line ++ ended.newline ∷ []);
  lexed = λ tokens end more.
      subst (λ (ts : List Token). Lexes text 0 ts end) (sym (regroup here.before line ended.newline tokens))
      (here.lexed (line ++ ended.newline ∷ tokens) end (ended.goes tokens end more));
  rest = λ sig tokens lines last read.
      row_noted sig line (text_lines tokens) words new last
      (subst (λ (rows : List (List Token)). Rest sig rows words last) (cut_line line ended.newline tokens plain ended.is_one)
      (here.rest sig (line ++ ended.newline ∷ tokens) lines last
      (subst (λ (ts : List Token). Reads sig start (text_lines ts) lines (good last)) (regroup here.before line ended.newline tokens) read)))
      notes;
}

-- the text ends with this line
pub noted_last : (text : List ℕ) (at : ℕ) (line : List Token) (words new : List ℕ) → Noting text at words → AreOneLine line → Lexes text at line None
    → Notes line words new → AreWordsOf text new
noted_last text at line words new here plain lexed notes = λ sig script is.
    let last = is.judged.last in
    let same : is.tokens ≡ here.before ++ line = tokens_once text is.tokens (here.before ++ line) is.lexed (here.lexed line None lexed) in
    let whole : Reads sig start (text_lines (here.before ++ line)) script.lines (good last) =
    subst (λ (ts : List Token). Reads sig start (text_lines ts) script.lines (good last)) same (script_read sig (text_lines is.tokens) script is.judged) in
    let rest : Rest sig (line ∷ []) words last =
    subst (λ (rows : List (List Token)). Rest sig rows words last) (last_line line plain) (here.rest sig line script.lines last whole) in
    all_noted sig new last (row_noted sig line [] words new last rest notes)

-- a text with a fault is no script
no_script : (text : List ℕ) (fault : LexError) (words : List ℕ) → FaultOf text fault → AreWordsOf text words
no_script text fault words has = λ sig script is. absurd (not_both text is.tokens fault is.lexed has)

fault_noted : (text : List ℕ) (at : ℕ) (fault : LexError) (words new : List ℕ) → Noting text at words → TellsFaultFrom text at fault → (fault ≡ lex.Memory → ⊥)
    → AreWordsOf text new
fault_noted text at (lex.BadByte p) words new here told some =
    no_script text (lex.BadByte p) new (here.before ++ told.0, here.lexed told.0 (Some (lex.BadByte p)) told.1)
fault_noted text at (lex.LongName p) words new here told some =
    no_script text (lex.LongName p) new (here.before ++ told.0, here.lexed told.0 (Some (lex.LongName p)) told.1)
fault_noted text at (lex.LongNumber p) words new here told some =
    no_script text (lex.LongNumber p) new (here.before ++ told.0, here.lexed told.0 (Some (lex.LongNumber p)) told.1)
fault_noted text at lex.Memory words new here told some = absurd (some refl)

pub faulty : {E : Type 0} (text : List ℕ) (at : ℕ) (fault : LexError) (words : List ℕ) (r : Result Names E) → Noting text at words → TellsLineFault text at fault
    → OnOk r (fault ≡ lex.Memory → ⊥) → IfOk r (λ names. AreWordsOf text names.words)
faulty text at fault words (Ok names) here told some = fault_noted text at fault words names.words here (fault_told text at fault told) some
faulty text at fault words (Err error) here told some = tt
