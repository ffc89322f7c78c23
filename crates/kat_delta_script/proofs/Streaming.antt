-- What the reader keeps from line to line of a text.
use Rattle.std.proofs.Common.{◌≡◌, ℕ, ◌+◌, ◌<◌, ◌≤◌, List, [], ◌∷◌, ◌++◌, length, refl, sym, ◌∙◌, ap, subst, append_assoc, append-nil, inl, inr, ◌⊎◌, arith, Option, None, Some, Result, Ok, Err}
use Rattle.std.specs.Prelude.{OnOk, IfOk, IfErr}
use Rattle.std.proofs.lemmas.List.{length-map}
use Rattle.kat_lex.proofs.LineReading.{AreOneLine, IsEndedLine}
use Rattle.kat_lex.specs.Tokens.{Lexes}
use Rattle.kat_lex.specs.declared.lexer.LexError.{LexError}
use Rattle.kat_lex.specs.declared.lexer.LexError.TheVariants as lex
use Rattle.kat_lex.specs.declared.lexer.Token.{Token}
use Rattle.kat_script.specs.Faults.{refusal_of_fault}
use Rattle.kat_script.specs.Script.{text_lines}
use Rattle.kat_script.specs.Reading.{TellsFaultFrom}
use Rattle.kat_script.specs.declared.error.ScriptError.TheVariants as refusal
use Rattle.kat_script.proofs.Streaming.{cut_line, last_line, regroup}
use Rattle.kat_type.specs.declared.signatures.Signature.{Signature}
use Rattle.kat_delta.specs.declared.script.DeltaLine.{DeltaLine}
use Rattle.kat_delta.specs.declared.script.DeltaScript.{DeltaScript}
use Rattle.kat_delta_script.specs.Reading.{FaultsFirst, Refuses, Stands, Takes}
use Rattle.kat_delta_script.specs.Refusals.{DeltaPlace}
use Rattle.kat_delta_script.specs.Scripts.{DeltaEnding, IsDeltaRefused, IsDeltaScriptText, ReadsDeltas, TellsDeltaRefusal, at_byte, at_line, ends, first_place, good, never_opens, refused}
use Rattle.kat_delta_script.specs.declared.error.DeltaScriptError.{DeltaScriptError}
use Rattle.kat_delta_script.specs.declared.error.DeltaScriptError.TheVariants.{Script, NoCount, Gap}
use Rattle.kat_delta_script.specs.declared.reader.Reader.{Reader}

-- The reader is at the line of this number, which begins at this place of the text. Whatever tokens the rest
-- has, the whole has with those of the lines so far before them; whatever the rest is read as, the whole is
-- read as, with the lines so far before it.
pub record Reached (sig : Signature) (text : List ℕ) (at : ℕ) (reader : Reader) (number : ℕ) : Type 0 where
  pub within : at ≤ length text
  pub small : number ≤ at + 1
  pub before : List Token
  pub lexed : (tokens : List Token) (end : Option LexError) → Lexes text at tokens end → Lexes text 0 (before ++ tokens) end
  pub place : DeltaPlace
  pub numbered : place.number ≡ number
  pub stands : Stands reader.ledger reader.tally place
  pub reads : (tokens : List Token) (lines : List DeltaLine) (end : DeltaEnding) → ReadsDeltas sig place (text_lines tokens) lines end
      → ReadsDeltas sig first_place (text_lines (before ++ tokens)) (reader.lines.items ++ lines) end

pub reached_start : (sig : Signature) (text : List ℕ) (reader : Reader) → Stands reader.ledger reader.tally first_place → reader.lines.items ≡ [] → Reached sig text 0 reader 1
reached_start sig text reader m none = record {
  within = omega arith;
  small = omega arith;
  before = [];
  lexed = λ tokens end more. more;
  place = first_place;
  numbered = refl;
  stands = m;
  reads = λ tokens lines end r. rw none r;
}

-- one line further
pub reached_next : (sig : Signature) (text : List ℕ) (at next : ℕ) (line : List Token) (old new : Reader) (number : ℕ)
    → Reached sig text at old number → AreOneLine line → IsEndedLine text at line next → Takes sig number line old new → Reached sig text next new (number + 1)
reached_next sig text at next line old new number here plain ended takes =
    let taken = takes here.place here.numbered here.stands in
    record {
      within = ended.within;
      small = omega (arith, ended.onward, here.small);
      before = here.before ++ (line ++ ended.newline ∷ []);
      lexed = λ tokens end more.
          subst (λ (ts : List Token). Lexes text 0 ts end) (sym (regroup here.before line ended.newline tokens))
          (here.lexed (line ++ ended.newline ∷ tokens) end (ended.goes tokens end more));
      place = taken.behind;
      numbered = taken.number ∙ ap (λ n. n + 1) here.numbered;
      stands = taken.stands;
      reads = λ tokens lines end r.
          let read : ReadsDeltas sig here.place (text_lines (line ++ ended.newline ∷ tokens)) (taken.more ++ lines) end =
          subst (λ (l : List (List Token)). ReadsDeltas sig here.place l (taken.more ++ lines) end) (sym (cut_line line ended.newline tokens plain ended.is_one))
          (taken.reads (text_lines tokens) lines end r) in
          let whole : ReadsDeltas sig first_place (text_lines (here.before ++ (line ++ ended.newline ∷ tokens))) (old.lines.items ++ (taken.more ++ lines)) end =
          here.reads (line ++ ended.newline ∷ tokens) (taken.more ++ lines) end read in
          subst (λ (ts : List Token). ReadsDeltas sig first_place (text_lines ts) (new.lines.items ++ lines) end) (sym (regroup here.before line ended.newline tokens))
          (subst (λ (l : List DeltaLine). ReadsDeltas sig first_place (text_lines (here.before ++ (line ++ ended.newline ∷ tokens))) l end)
          (sym (append_assoc old.lines.items taken.more lines) ∙ ap (λ l. l ++ lines) (sym taken.lines)) whole);
    }

-- a fault of tokens from a place on refuses the text
fault_at : (sig : Signature) (text : List ℕ) (before : List Token) (at : ℕ) (fault : LexError)
    → ((tokens : List Token) (end : Option LexError) → Lexes text at tokens end → Lexes text 0 (before ++ tokens) end)
    → TellsFaultFrom text at fault → TellsDeltaRefusal sig text (Script (refusal_of_fault fault))
fault_at sig text before at (lex.BadByte p) lexed h = at_byte (lex.BadByte p) (before ++ h.0, lexed h.0 (Some (lex.BadByte p)) h.1)
fault_at sig text before at (lex.LongName p) lexed h = at_byte (lex.LongName p) (before ++ h.0, lexed h.0 (Some (lex.LongName p)) h.1)
fault_at sig text before at (lex.LongNumber p) lexed h = at_byte (lex.LongNumber p) (before ++ h.0, lexed h.0 (Some (lex.LongNumber p)) h.1)
fault_at sig text before at lex.Memory lexed h = tt

pub reached_fault : (sig : Signature) (text : List ℕ) (at : ℕ) (reader : Reader) (number : ℕ) (fault : LexError) → Reached sig text at reader number
    → TellsFaultFrom text at fault → TellsDeltaRefusal sig text (Script (refusal_of_fault fault))
reached_fault sig text at reader number fault here h = fault_at sig text here.before at fault here.lexed h

line_refused : (sig : Signature) (text : List ℕ) (at : ℕ) (reader : Reader) (number : ℕ) (line rest : List Token) (error : DeltaScriptError) → Reached sig text at reader number
    → (more : List (List Token)) → text_lines (line ++ rest) ≡ line ∷ more → Lexes text at (line ++ rest) None
    → ((place : DeltaPlace) → place.number ≡ number → Stands reader.ledger reader.tally place → (rest : List (List Token)) → ReadsDeltas sig place (line ∷ rest) [] (refused error))
    → IsDeltaRefused sig text error
line_refused sig text at reader number line rest error here more cut lexed h =
    at_line (here.before ++ (line ++ rest)) (here.lexed (line ++ rest) None lexed)
    (record {
      before = reader.lines.items ++ [];
      read = here.reads (line ++ rest) [] (refused error)
          (subst (λ (l : List (List Token)). ReadsDeltas sig here.place l [] (refused error)) (sym cut) (h here.place here.numbered here.stands more));
    })

-- the line is refused, and the rest of the text has these tokens
refused_line : (sig : Signature) (text : List ℕ) (at : ℕ) (reader : Reader) (number : ℕ) (line rest : List Token) (error : DeltaScriptError) → Reached sig text at reader number
    → (more : List (List Token)) → text_lines (line ++ rest) ≡ line ∷ more → Lexes text at (line ++ rest) None
    → Refuses sig number line reader error → TellsDeltaRefusal sig text error
refused_line sig text at reader number line rest (Script (refusal.Refused n p)) here more cut lexed h = line_refused sig text at reader number line rest (Script (refusal.Refused n p)) here more cut lexed h
refused_line sig text at reader number line rest (Script (refusal.Line n p)) here more cut lexed h = line_refused sig text at reader number line rest (Script (refusal.Line n p)) here more cut lexed h
refused_line sig text at reader number line rest (Script (refusal.Late n p)) here more cut lexed h = line_refused sig text at reader number line rest (Script (refusal.Late n p)) here more cut lexed h
refused_line sig text at reader number line rest (Script refusal.Memory) here more cut lexed h = tt
refused_line sig text at reader number line rest (NoCount l) here more cut lexed h = line_refused sig text at reader number line rest (NoCount l) here more cut lexed h
refused_line sig text at reader number line rest (Gap l origin have need) here more cut lexed h = line_refused sig text at reader number line rest (Gap l origin have need) here more cut lexed h

-- the last line is refused
pub reached_last_refused : (sig : Signature) (text : List ℕ) (at : ℕ) (reader : Reader) (number : ℕ) (line : List Token) (error : DeltaScriptError) → Reached sig text at reader number
    → AreOneLine line → Lexes text at line None → Refuses sig number line reader error → TellsDeltaRefusal sig text error
reached_last_refused sig text at reader number line error here plain lexed h =
    refused_line sig text at reader number line [] error here [] (ap (λ l. text_lines l) (append-nil line) ∙ last_line line plain)
    (subst (λ (l : List Token). Lexes text at l None) (sym (append-nil line)) lexed) h

tells : (sig : Signature) (text : List ℕ) (result : DeltaScriptError) (error : DeltaScriptError) → result ≡ error → TellsDeltaRefusal sig text error → TellsDeltaRefusal sig text result
tells sig text result error is h = subst (λ (e : DeltaScriptError). TellsDeltaRefusal sig text e) (sym is) h

faults_first : (sig : Signature) (text : List ℕ) (at next : ℕ) (reader : Reader) (number : ℕ) (line : List Token) (error result : DeltaScriptError) → Reached sig text at reader number
    → AreOneLine line → IsEndedLine text at line next → Refuses sig number line reader error
    → ((fault : LexError) × (result ≡ Script (refusal_of_fault fault)) × TellsFaultFrom text next fault) ⊎ ((result ≡ error) × ((tokens : List Token) × Lexes text next tokens None))
    → TellsDeltaRefusal sig text result
faults_first sig text at next reader number line error result here plain ended h (inl f) =
    tells sig text result (Script (refusal_of_fault f.0)) f.1
    (fault_at sig text (here.before ++ (line ++ ended.newline ∷ [])) next f.0
    (λ tokens end more.
    subst (λ (ts : List Token). Lexes text 0 ts end) (sym (regroup here.before line ended.newline tokens))
    (here.lexed (line ++ ended.newline ∷ tokens) end (ended.goes tokens end more))) f.2)
faults_first sig text at next reader number line error result here plain ended h (inr f) =
    tells sig text result error f.0
    (refused_line sig text at reader number line (ended.newline ∷ f.1.0) error here (text_lines f.1.0)
    (cut_line line ended.newline f.1.0 plain ended.is_one) (ended.goes f.1.0 None f.1.1) h)

-- a line before the last one is refused
pub reached_refused : (sig : Signature) (text : List ℕ) (at next : ℕ) (reader : Reader) (number : ℕ) (line : List Token) (error result : DeltaScriptError) → Reached sig text at reader number
    → AreOneLine line → IsEndedLine text at line next → Refuses sig number line reader error → FaultsFirst text next error result → TellsDeltaRefusal sig text result
reached_refused sig text at next reader number line error (Script (refusal.Refused n p)) here plain ended h f = faults_first sig text at next reader number line error (Script (refusal.Refused n p)) here plain ended h f
reached_refused sig text at next reader number line error (Script (refusal.Line n p)) here plain ended h f = faults_first sig text at next reader number line error (Script (refusal.Line n p)) here plain ended h f
reached_refused sig text at next reader number line error (Script (refusal.Late n p)) here plain ended h f = faults_first sig text at next reader number line error (Script (refusal.Late n p)) here plain ended h f
reached_refused sig text at next reader number line error (Script refusal.Memory) here plain ended h f = tt
reached_refused sig text at next reader number line error (NoCount l) here plain ended h f = faults_first sig text at next reader number line error (NoCount l) here plain ended h f
reached_refused sig text at next reader number line error (Gap l origin have need) here plain ended h f = faults_first sig text at next reader number line error (Gap l origin have need) here plain ended h f

-- all lines are read, the last one too
record ReachedEnd (sig : Signature) (text : List ℕ) (reader : Reader) : Type 0 where
  tokens : List Token
  lexed : Lexes text 0 tokens None
  place : DeltaPlace
  stands : Stands reader.ledger reader.tally place
  reads : (end : DeltaEnding) → ReadsDeltas sig place [] [] end → ReadsDeltas sig first_place (text_lines tokens) reader.lines.items end

reached_end : (sig : Signature) (text : List ℕ) (at : ℕ) (line : List Token) (old new : Reader) (number : ℕ) → Reached sig text at old number
    → AreOneLine line → Lexes text at line None → Takes sig number line old new → ReachedEnd sig text new
reached_end sig text at line old new number here plain lexed takes =
    let taken = takes here.place here.numbered here.stands in
    record {
      tokens = here.before ++ line;
      lexed = here.lexed line None lexed;
      place = taken.behind;
      stands = taken.stands;
      reads = λ end r.
          subst (λ (l : List DeltaLine). ReadsDeltas sig first_place (text_lines (here.before ++ line)) l end) (sym taken.lines)
          (subst (λ (l : List DeltaLine). ReadsDeltas sig first_place (text_lines (here.before ++ line)) (old.lines.items ++ l) end) (append-nil taken.more)
          (here.reads line (taken.more ++ []) end
          (subst (λ (l : List (List Token)). ReadsDeltas sig here.place l (taken.more ++ []) end) (sym (last_line line plain)) (taken.reads [] [] end r))));
    }

pub finished : (sig : Signature) (text : List ℕ) (at : ℕ) (line : List Token) (old new : Reader) (number : ℕ) (r : Result DeltaScript DeltaScriptError) → Reached sig text at old number
    → AreOneLine line → Lexes text at line None → Takes sig number line old new
    → IfOk r (λ script. script.lines ≡ new.lines.items) → IfOk r (λ script. script.replicas ≡ length new.ledger.clocks.items)
    → IfOk r (λ script. script.packets ≡ length new.ledger.packets.items) → OnOk r (0 < new.ledger.lines) → IfOk r (λ script. IsDeltaScriptText sig text script)
finished sig text at line old new number (Err error) here plain lexed takes lines replicas packets some = tt
finished sig text at line old new number (Ok script) here plain lexed takes lines replicas packets some =
    let done = reached_end sig text at line old new number here plain lexed takes in
    record {
      tokens = done.tokens;
      lexed = done.lexed;
      judged = record {
        last = done.place;
        read =
            subst (λ (l : List DeltaLine). ReadsDeltas sig first_place (text_lines done.tokens) l (good done.place)) (sym lines)
            (done.reads (good done.place) (ends {place = done.place} (rw (sym done.stands.matches.lines) some)));
        replicas = replicas ∙ ap (λ (l : List ℕ). length l) done.stands.matches.clocks ∙ length-map done.place.w.world.replicas _;
        packets = packets ∙ sym (length-map new.ledger.packets.items _) ∙ ap (λ (l : List ℕ). length l) done.stands.matches.words;
      };
    }

pub unopened : (sig : Signature) (text : List ℕ) (at : ℕ) (line : List Token) (old new : Reader) (number : ℕ) (r : Result DeltaScript DeltaScriptError) → Reached sig text at old number
    → AreOneLine line → Lexes text at line None → Takes sig number line old new
    → IfErr r (λ error. (error ≡ Script (refusal.Line 10 1)) × (new.ledger.lines ≡ 0)) → IfErr r (λ error. TellsDeltaRefusal sig text error)
unopened sig text at line old new number (Ok script) here plain lexed takes h = tt
unopened sig text at line old new number (Err error) here plain lexed takes h =
    let done = reached_end sig text at line old new number here plain lexed takes in
    tells sig text error (Script (refusal.Line 10 1)) h.0
    (at_line done.tokens done.lexed
    (record { before = new.lines.items; read = done.reads (refused (Script (refusal.Line 10 1))) (never_opens {place = done.place} (sym done.stands.matches.lines ∙ h.1)) }))
