-- What the reader keeps from line to line of a text.
use Rattle.std.proofs.Common.{◌≡◌, ℕ, ◌+◌, ◌<◌, ◌≤◌, true, List, [], ◌∷◌, ◌++◌, length, refl, sym, ◌∙◌, ap, subst, append_assoc, append-nil, inl, inr, ◌⊎◌, arith, Option, None, Some, Result, Ok, Err}
use Rattle.std.specs.Prelude.{OnOk, IfOk, IfErr, IsErrAnd}
use Rattle.std.proofs.lemmas.List.{length-map}
use Rattle.std.proofs.lemmas.List.Splits.{slice_split_at, slice_split_none}
use Rattle.kat_lex.specs.TextLines.{IsLineAdded, IsTextLine, TellsLineFault, is_newline}
use Rattle.kat_lex.proofs.LineReading.{AreOneLine, IsEndedLine, fault_in_text}
use Rattle.kat_lex.specs.Tokens.{Lexes}
use Rattle.kat_lex.specs.declared.lexer.LexError.{LexError}
use Rattle.kat_lex.specs.declared.lexer.LexError.TheVariants as lex
use Rattle.kat_lex.specs.declared.lexer.Token.{Token}
use Rattle.kat_script.specs.Faults.{refusal_of_fault}
use Rattle.kat_script.specs.Script.{Ending, IsRefused, IsScriptText, Place, Reads, TellsRefusal, at_byte, at_line, ends, good, never_opens, refused, start, text_lines}
use Rattle.kat_script.specs.Ledger.{Matches}
use Rattle.kat_script.specs.Reading.{FaultsFirst, Refuses, Takes, TellsFaultFrom}
use Rattle.kat_script.specs.declared.error.ScriptError.{ScriptError}
use Rattle.kat_script.specs.declared.error.ScriptError.TheVariants as refusal
use Rattle.kat_script.specs.declared.reader.Reader.{Reader}
use Rattle.kat_script.specs.declared.script.Line.{Line}
use Rattle.kat_script.specs.declared.script.Script.{Script}
use Rattle.kat_type.specs.declared.signatures.Signature.{Signature}
use Rattle.kat_script.proofs.Following.{a_script}

-- the line that was put into an empty buffer
pub line_alone : (text : List ℕ) (at : ℕ) (old new : List Token) (next : Option ℕ) → old ≡ [] → IsLineAdded text at old new next → IsTextLine text at new next
line_alone text at old new next none is =
    subst (λ (tokens : List Token). IsTextLine text at tokens next) (sym (is.added ∙ ap (λ (tokens : List Token). tokens ++ is.line) none)) is.is_line

-- the fault of a line is the first of the text from there on
pub fault_told : (text : List ℕ) (at : ℕ) (fault : LexError) → TellsLineFault text at fault → TellsFaultFrom text at fault
fault_told text at (lex.BadByte p) is = fault_in_text text at (lex.BadByte p) is
fault_told text at (lex.LongName p) is = fault_in_text text at (lex.LongName p) is
fault_told text at (lex.LongNumber p) is = fault_in_text text at (lex.LongNumber p) is
fault_told text at lex.Memory is = tt

-- The reader is at the line of this number, which begins at this place of the text. Whatever tokens the rest
-- has, the whole has with those of the lines so far before them; whatever the rest is read as, the whole is
-- read as, with the lines so far before it.
pub record Reached (sig : Signature) (text : List ℕ) (at : ℕ) (reader : Reader) (number : ℕ) : Type 0 where
  pub within : at ≤ length text
  pub small : number ≤ at + 1
  pub before : List Token
  pub lexed : (tokens : List Token) (end : Option LexError) → Lexes text at tokens end → Lexes text 0 (before ++ tokens) end
  pub place : Place
  pub numbered : place.number ≡ number
  pub matches : Matches reader.ledger place
  pub reads : (tokens : List Token) (lines : List Line) (end : Ending) → Reads sig place (text_lines tokens) lines end
      → Reads sig start (text_lines (before ++ tokens)) (reader.lines.items ++ lines) end

pub reached_start : (sig : Signature) (text : List ℕ) (reader : Reader) → Matches reader.ledger start → reader.lines.items ≡ [] → Reached sig text 0 reader 1
reached_start sig text reader m none = record {
  within = omega arith;
  small = omega arith;
  before = [];
  lexed = λ tokens end more. more;
  place = start;
  numbered = refl;
  matches = m;
  reads = λ tokens lines end r. rw none r;
}

-- a line that ends with a newline is the first of the text from its start on
pub cut_line : (line : List Token) (newline : Token) (tokens : List Token) → AreOneLine line → is_newline newline ≡ true
    → text_lines (line ++ newline ∷ tokens) ≡ line ∷ text_lines tokens
cut_line line newline tokens plain is = slice_split_at is_newline line newline tokens plain is

pub last_line : (line : List Token) → AreOneLine line → text_lines line ≡ line ∷ []
last_line line plain = slice_split_none is_newline line plain

pub regroup : (before line : List Token) (newline : Token) (tokens : List Token)
    → (before ++ (line ++ newline ∷ [])) ++ tokens ≡ before ++ (line ++ newline ∷ tokens)
regroup before line newline tokens =
    append_assoc before (line ++ newline ∷ []) tokens ∙ ap (λ l. before ++ l) (append_assoc line (newline ∷ []) tokens)

-- one line further
pub reached_next : (sig : Signature) (text : List ℕ) (at next : ℕ) (line : List Token) (old new : Reader) (number : ℕ)
    → Reached sig text at old number → AreOneLine line → IsEndedLine text at line next → Takes sig number line old new → Reached sig text next new (number + 1)
reached_next sig text at next line old new number here plain ended takes =
    let taken = takes here.place here.numbered here.matches in
    record {
      within = ended.within;
      small = omega (arith, ended.onward, here.small);
      before = here.before ++ (line ++ ended.newline ∷ []);
      lexed = λ tokens end more.
          subst (λ (ts : List Token). Lexes text 0 ts end) (sym (regroup here.before line ended.newline tokens))
          (here.lexed (line ++ ended.newline ∷ tokens) end (ended.goes tokens end more));
      place = taken.behind;
      numbered = taken.number ∙ ap (λ n. n + 1) here.numbered;
      matches = taken.matches;
      reads = λ tokens lines end r.
          let read : Reads sig here.place (text_lines (line ++ ended.newline ∷ tokens)) (taken.more ++ lines) end =
          subst (λ (l : List (List Token)). Reads sig here.place l (taken.more ++ lines) end) (sym (cut_line line ended.newline tokens plain ended.is_one))
          (taken.reads (text_lines tokens) lines end r) in
          let whole : Reads sig start (text_lines (here.before ++ (line ++ ended.newline ∷ tokens))) (old.lines.items ++ (taken.more ++ lines)) end =
          here.reads (line ++ ended.newline ∷ tokens) (taken.more ++ lines) end read in
          subst (λ (ts : List Token). Reads sig start (text_lines ts) (new.lines.items ++ lines) end) (sym (regroup here.before line ended.newline tokens))
          (subst (λ (l : List Line). Reads sig start (text_lines (here.before ++ (line ++ ended.newline ∷ tokens))) l end)
          (sym (append_assoc old.lines.items taken.more lines) ∙ ap (λ l. l ++ lines) (sym taken.lines)) whole);
    }

-- a fault of tokens from a place on refuses the text
fault_at : (sig : Signature) (text : List ℕ) (before : List Token) (at : ℕ) (fault : LexError)
    → ((tokens : List Token) (end : Option LexError) → Lexes text at tokens end → Lexes text 0 (before ++ tokens) end)
    → TellsFaultFrom text at fault → TellsRefusal sig text (refusal_of_fault fault)
fault_at sig text before at (lex.BadByte p) lexed h = at_byte (lex.BadByte p) (before ++ h.0, lexed h.0 (Some (lex.BadByte p)) h.1)
fault_at sig text before at (lex.LongName p) lexed h = at_byte (lex.LongName p) (before ++ h.0, lexed h.0 (Some (lex.LongName p)) h.1)
fault_at sig text before at (lex.LongNumber p) lexed h = at_byte (lex.LongNumber p) (before ++ h.0, lexed h.0 (Some (lex.LongNumber p)) h.1)
fault_at sig text before at lex.Memory lexed h = tt

pub reached_fault : (sig : Signature) (text : List ℕ) (at : ℕ) (reader : Reader) (number : ℕ) (fault : LexError) → Reached sig text at reader number
    → TellsFaultFrom text at fault → TellsRefusal sig text (refusal_of_fault fault)
reached_fault sig text at reader number fault here h = fault_at sig text here.before at fault here.lexed h

line_refused : (sig : Signature) (text : List ℕ) (at : ℕ) (reader : Reader) (number : ℕ) (line rest : List Token) (error : ScriptError) → Reached sig text at reader number
    → (more : List (List Token)) → text_lines (line ++ rest) ≡ line ∷ more → Lexes text at (line ++ rest) None
    → ((place : Place) → place.number ≡ number → Matches reader.ledger place → (rest : List (List Token)) → Reads sig place (line ∷ rest) [] (refused error))
    → IsRefused sig text error
line_refused sig text at reader number line rest error here more cut lexed h =
    at_line (here.before ++ (line ++ rest)) (here.lexed (line ++ rest) None lexed)
    (record {
      before = reader.lines.items ++ [];
      read = here.reads (line ++ rest) [] (refused error)
          (subst (λ (l : List (List Token)). Reads sig here.place l [] (refused error)) (sym cut) (h here.place here.numbered here.matches more));
    })

-- the line is refused, and the rest of the text has these tokens
refused_line : (sig : Signature) (text : List ℕ) (at : ℕ) (reader : Reader) (number : ℕ) (line rest : List Token) (error : ScriptError) → Reached sig text at reader number
    → (more : List (List Token)) → text_lines (line ++ rest) ≡ line ∷ more → Lexes text at (line ++ rest) None
    → Refuses sig number line reader error → TellsRefusal sig text error
refused_line sig text at reader number line rest (refusal.Refused n p) here more cut lexed h = line_refused sig text at reader number line rest (refusal.Refused n p) here more cut lexed h
refused_line sig text at reader number line rest (refusal.Line n p) here more cut lexed h = line_refused sig text at reader number line rest (refusal.Line n p) here more cut lexed h
refused_line sig text at reader number line rest (refusal.Late n p) here more cut lexed h = line_refused sig text at reader number line rest (refusal.Late n p) here more cut lexed h
refused_line sig text at reader number line rest refusal.Memory here more cut lexed h = tt

-- the last line is refused
pub reached_last_refused : (sig : Signature) (text : List ℕ) (at : ℕ) (reader : Reader) (number : ℕ) (line : List Token) (error : ScriptError) → Reached sig text at reader number
    → AreOneLine line → Lexes text at line None → Refuses sig number line reader error → TellsRefusal sig text error
reached_last_refused sig text at reader number line error here plain lexed h =
    refused_line sig text at reader number line [] error here [] (ap (λ l. text_lines l) (append-nil line) ∙ last_line line plain)
    (subst (λ (l : List Token). Lexes text at l None) (sym (append-nil line)) lexed) h

tells : (sig : Signature) (text : List ℕ) (result : ScriptError) (error : ScriptError) → result ≡ error → TellsRefusal sig text error → TellsRefusal sig text result
tells sig text result error is h = subst (λ (e : ScriptError). TellsRefusal sig text e) (sym is) h

faults_first : (sig : Signature) (text : List ℕ) (at next : ℕ) (reader : Reader) (number : ℕ) (line : List Token) (error result : ScriptError) → Reached sig text at reader number
    → AreOneLine line → IsEndedLine text at line next → Refuses sig number line reader error
    → ((fault : LexError) × (result ≡ refusal_of_fault fault) × TellsFaultFrom text next fault) ⊎ ((result ≡ error) × ((tokens : List Token) × Lexes text next tokens None))
    → TellsRefusal sig text result
faults_first sig text at next reader number line error result here plain ended h (inl f) =
    tells sig text result (refusal_of_fault f.0) f.1
    (fault_at sig text (here.before ++ (line ++ ended.newline ∷ [])) next f.0
    (λ tokens end more.
    subst (λ (ts : List Token). Lexes text 0 ts end) (sym (regroup here.before line ended.newline tokens))
    (here.lexed (line ++ ended.newline ∷ tokens) end (ended.goes tokens end more))) f.2)
faults_first sig text at next reader number line error result here plain ended h (inr f) =
    tells sig text result error f.0
    (refused_line sig text at reader number line (ended.newline ∷ f.1.0) error here (text_lines f.1.0)
    (cut_line line ended.newline f.1.0 plain ended.is_one) (ended.goes f.1.0 None f.1.1) h)

-- a line before the last one is refused
pub reached_refused : (sig : Signature) (text : List ℕ) (at next : ℕ) (reader : Reader) (number : ℕ) (line : List Token) (error result : ScriptError) → Reached sig text at reader number
    → AreOneLine line → IsEndedLine text at line next → Refuses sig number line reader error → FaultsFirst text next error result → TellsRefusal sig text result
reached_refused sig text at next reader number line error (refusal.Refused n p) here plain ended h f = faults_first sig text at next reader number line error (refusal.Refused n p) here plain ended h f
reached_refused sig text at next reader number line error (refusal.Line n p) here plain ended h f = faults_first sig text at next reader number line error (refusal.Line n p) here plain ended h f
reached_refused sig text at next reader number line error (refusal.Late n p) here plain ended h f = faults_first sig text at next reader number line error (refusal.Late n p) here plain ended h f
reached_refused sig text at next reader number line error refusal.Memory here plain ended h f = tt

-- all lines are read, the last one too
record ReachedEnd (sig : Signature) (text : List ℕ) (reader : Reader) : Type 0 where
  tokens : List Token
  lexed : Lexes text 0 tokens None
  place : Place
  matches : Matches reader.ledger place
  reads : (end : Ending) → Reads sig place [] [] end → Reads sig start (text_lines tokens) reader.lines.items end

reached_end : (sig : Signature) (text : List ℕ) (at : ℕ) (line : List Token) (old new : Reader) (number : ℕ) → Reached sig text at old number
    → AreOneLine line → Lexes text at line None → Takes sig number line old new → ReachedEnd sig text new
reached_end sig text at line old new number here plain lexed takes =
    let taken = takes here.place here.numbered here.matches in
    record {
      tokens = here.before ++ line;
      lexed = here.lexed line None lexed;
      place = taken.behind;
      matches = taken.matches;
      reads = λ end r.
          subst (λ (l : List Line). Reads sig start (text_lines (here.before ++ line)) l end) (sym taken.lines)
          (subst (λ (l : List Line). Reads sig start (text_lines (here.before ++ line)) (old.lines.items ++ l) end) (append-nil taken.more)
          (here.reads line (taken.more ++ []) end
          (subst (λ (l : List (List Token)). Reads sig here.place l (taken.more ++ []) end) (sym (last_line line plain)) (taken.reads [] [] end r))));
    }

pub finished : (sig : Signature) (text : List ℕ) (at : ℕ) (line : List Token) (old new : Reader) (number : ℕ) (r : Result Script ScriptError) → Reached sig text at old number
    → AreOneLine line → Lexes text at line None → Takes sig number line old new
    → IfOk r (λ script. script.lines ≡ new.lines.items) → IfOk r (λ script. script.replicas ≡ length new.ledger.clocks.items)
    → IfOk r (λ script. script.packets ≡ length new.ledger.packets.items) → OnOk r (0 < new.ledger.lines) → IfOk r (λ script. IsScriptText sig text script)
finished sig text at line old new number (Err error) here plain lexed takes lines replicas packets some = tt
finished sig text at line old new number (Ok script) here plain lexed takes lines replicas packets some =
    let done = reached_end sig text at line old new number here plain lexed takes in
    record {
      tokens = done.tokens;
      lexed = done.lexed;
      judged = a_script sig (text_lines done.tokens) script done.place
          (subst (λ (l : List Line). Reads sig start (text_lines done.tokens) l (good done.place)) (sym lines)
          (done.reads (good done.place) (ends {place = done.place} (rw (sym done.matches.lines) some))))
          (replicas ∙ ap (λ (l : List ℕ). length l) done.matches.clocks ∙ length-map done.place.world.replicas _)
          (packets ∙ sym (length-map new.ledger.packets.items _) ∙ ap (λ (l : List ℕ). length l) done.matches.words);
    }

pub unopened : (sig : Signature) (text : List ℕ) (at : ℕ) (line : List Token) (old new : Reader) (number : ℕ) (r : Result Script ScriptError) → Reached sig text at old number
    → AreOneLine line → Lexes text at line None → Takes sig number line old new
    → IfErr r (λ error. (error ≡ refusal.Line 10 1) × (new.ledger.lines ≡ 0)) → IfErr r (λ error. TellsRefusal sig text error)
unopened sig text at line old new number (Ok script) here plain lexed takes h = tt
unopened sig text at line old new number (Err error) here plain lexed takes h =
    let done = reached_end sig text at line old new number here plain lexed takes in
    tells sig text error (refusal.Line 10 1) h.0
    (at_line done.tokens done.lexed
    (record { before = new.lines.items; read = done.reads (refused (refusal.Line 10 1)) (never_opens {place = done.place} (sym done.matches.lines ∙ h.1)) }))

-- an error that is a known one tells what that one tells
pub err_is : {T E : Type 0} (r : Result T E) (known : E) (Q : E → Type 0) → IsErrAnd r (λ error. error ≡ known) → Q known → IfErr r Q
err_is (Ok x) known Q h q = tt
err_is (Err error) known Q h q = subst Q (sym h) q
