-- What the reader keeps from line to line of a text.
use Rattle.std.proofs.Common.{◌≡◌, ℕ, ◌+◌, ◌≤◌, List, [], ◌∷◌, ◌++◌, length, sym, ◌∙◌, ap, subst, append_assoc, append-nil, inl, inr, ◌⊎◌, arith, Option, None, Some}
use Rattle.kat_lex.proofs.LineReading.{AreOneLine, IsEndedLine}
use Rattle.kat_lex.specs.Tokens.{Lexes}
use Rattle.kat_lex.specs.declared.lexer.LexError.{LexError}
use Rattle.kat_lex.specs.declared.lexer.LexError.TheVariants as lex
use Rattle.kat_lex.specs.declared.lexer.Token.{Token}
use Rattle.kat_script.specs.Faults.{refusal_of_fault}
use Rattle.kat_script.specs.Reading.{FaultsFirst, TellsFaultFrom}
use Rattle.kat_script.specs.Script.{text_lines}
use Rattle.kat_script.specs.declared.error.ScriptError.{ScriptError}
use Rattle.kat_script.specs.declared.error.ScriptError.TheVariants as refusal
use Rattle.kat_script.proofs.Streaming.{cut_line, last_line, regroup}
use Rattle.kat_type.specs.declared.signatures.Signature.{Signature}
use Rattle.kat_actions.specs.Reading.{Refuses, Takes}
use Rattle.kat_actions.specs.Texts.{AreCallsOf, IsRefused, Reads, TellsRefusal, at_byte, at_line, ends}
use Rattle.kat_actions.specs.declared.calls.Call.{Call}
use Rattle.kat_actions.specs.declared.calls.Verb.{Verb}

-- The reader is at the line of this number, which begins at this place of the text. Whatever tokens the rest has, the whole has
-- with those of the lines so far before them; whatever calls the rest has, the whole has with those so far before them.
pub record Reached (verb : Verb) (sig : Signature) (text : List ℕ) (at : ℕ) (calls : List Call) (number : ℕ) : Type 0 where
  pub within : at ≤ length text
  pub small : number ≤ at + 1
  pub before : List Token
  pub lexed : (tokens : List Token) (end : Option LexError) → Lexes text at tokens end → Lexes text 0 (before ++ tokens) end
  pub reads : (tokens : List Token) (more : List Call) (end : Option ScriptError) → Reads verb sig number (length calls) (text_lines tokens) more end
      → Reads verb sig 1 0 (text_lines (before ++ tokens)) (calls ++ more) end

pub reached_start : (verb : Verb) (sig : Signature) (text : List ℕ) (calls : List Call) → calls ≡ [] → Reached verb sig text 0 calls 1
reached_start verb sig text calls none = record {
  within = omega arith;
  small = omega arith;
  before = [];
  lexed = λ tokens end more. more;
  reads = λ tokens more end r.
      subst (λ (l : List Call). Reads verb sig 1 (length l) (text_lines tokens) more end → Reads verb sig 1 0 (text_lines tokens) (l ++ more) end) (sym none) (λ s. s) r;
}

-- one line further
pub reached_next : (verb : Verb) (sig : Signature) (text : List ℕ) (at next : ℕ) (line : List Token) (old new : List Call) (number : ℕ)
    → Reached verb sig text at old number → AreOneLine line → IsEndedLine text at line next → Takes verb sig number line old new → Reached verb sig text next new (number + 1)
reached_next verb sig text at next line old new number here plain ended taken =
    record {
      within = ended.within;
      small = omega (arith, ended.onward, here.small);
      before = here.before ++ (line ++ ended.newline ∷ []);
      lexed = λ tokens end more.
          subst (λ (ts : List Token). Lexes text 0 ts end) (sym (regroup here.before line ended.newline tokens))
          (here.lexed (line ++ ended.newline ∷ tokens) end (ended.goes tokens end more));
      reads = λ tokens calls end r.
          let read : Reads verb sig number (length old) (text_lines (line ++ ended.newline ∷ tokens)) (taken.more ++ calls) end =
          subst (λ (l : List (List Token)). Reads verb sig number (length old) l (taken.more ++ calls) end) (sym (cut_line line ended.newline tokens plain ended.is_one))
          (taken.reads (text_lines tokens) calls end r) in
          let whole : Reads verb sig 1 0 (text_lines (here.before ++ (line ++ ended.newline ∷ tokens))) (old ++ (taken.more ++ calls)) end =
          here.reads (line ++ ended.newline ∷ tokens) (taken.more ++ calls) end read in
          subst (λ (ts : List Token). Reads verb sig 1 0 (text_lines ts) (new ++ calls) end) (sym (regroup here.before line ended.newline tokens))
          (subst (λ (l : List Call). Reads verb sig 1 0 (text_lines (here.before ++ (line ++ ended.newline ∷ tokens))) l end)
          (sym (append_assoc old taken.more calls) ∙ ap (λ (l : List Call). l ++ calls) (sym taken.calls)) whole);
    }

-- a fault of tokens from a place on refuses the text
fault_at : (verb : Verb) (sig : Signature) (text : List ℕ) (before : List Token) (at : ℕ) (fault : LexError)
    → ((tokens : List Token) (end : Option LexError) → Lexes text at tokens end → Lexes text 0 (before ++ tokens) end)
    → TellsFaultFrom text at fault → TellsRefusal verb sig text (refusal_of_fault fault)
fault_at verb sig text before at (lex.BadByte p) lexed h = at_byte (lex.BadByte p) (before ++ h.0, lexed h.0 (Some (lex.BadByte p)) h.1)
fault_at verb sig text before at (lex.LongName p) lexed h = at_byte (lex.LongName p) (before ++ h.0, lexed h.0 (Some (lex.LongName p)) h.1)
fault_at verb sig text before at (lex.LongNumber p) lexed h = at_byte (lex.LongNumber p) (before ++ h.0, lexed h.0 (Some (lex.LongNumber p)) h.1)
fault_at verb sig text before at lex.Memory lexed h = tt

pub reached_fault : (verb : Verb) (sig : Signature) (text : List ℕ) (at : ℕ) (calls : List Call) (number : ℕ) (fault : LexError) → Reached verb sig text at calls number
    → TellsFaultFrom text at fault → TellsRefusal verb sig text (refusal_of_fault fault)
reached_fault verb sig text at calls number fault here h = fault_at verb sig text here.before at fault here.lexed h

line_refused : (verb : Verb) (sig : Signature) (text : List ℕ) (at : ℕ) (calls : List Call) (number : ℕ) (line rest : List Token) (error : ScriptError) → Reached verb sig text at calls number
    → (more : List (List Token)) → text_lines (line ++ rest) ≡ line ∷ more → Lexes text at (line ++ rest) None
    → ((rest : List (List Token)) → Reads verb sig number (length calls) (line ∷ rest) [] (Some error))
    → IsRefused verb sig text error
line_refused verb sig text at calls number line rest error here more cut lexed h =
    at_line (here.before ++ (line ++ rest)) (calls ++ []) (here.lexed (line ++ rest) None lexed)
    (here.reads (line ++ rest) [] (Some error)
    (subst (λ (l : List (List Token)). Reads verb sig number (length calls) l [] (Some error)) (sym cut) (h more)))

-- the line is refused, and the rest of the text has these tokens
refused_line : (verb : Verb) (sig : Signature) (text : List ℕ) (at : ℕ) (calls : List Call) (number : ℕ) (line rest : List Token) (error : ScriptError) → Reached verb sig text at calls number
    → (more : List (List Token)) → text_lines (line ++ rest) ≡ line ∷ more → Lexes text at (line ++ rest) None
    → Refuses verb sig number line calls error → TellsRefusal verb sig text error
refused_line verb sig text at calls number line rest (refusal.Refused n p) here more cut lexed h = line_refused verb sig text at calls number line rest (refusal.Refused n p) here more cut lexed h
refused_line verb sig text at calls number line rest (refusal.Line n p) here more cut lexed h = line_refused verb sig text at calls number line rest (refusal.Line n p) here more cut lexed h
refused_line verb sig text at calls number line rest (refusal.Late n p) here more cut lexed h = line_refused verb sig text at calls number line rest (refusal.Late n p) here more cut lexed h
refused_line verb sig text at calls number line rest refusal.Memory here more cut lexed h = tt

-- the last line is refused
pub reached_last_refused : (verb : Verb) (sig : Signature) (text : List ℕ) (at : ℕ) (calls : List Call) (number : ℕ) (line : List Token) (error : ScriptError) → Reached verb sig text at calls number
    → AreOneLine line → Lexes text at line None → Refuses verb sig number line calls error → TellsRefusal verb sig text error
reached_last_refused verb sig text at calls number line error here plain lexed h =
    refused_line verb sig text at calls number line [] error here [] (ap (λ l. text_lines l) (append-nil line) ∙ last_line line plain)
    (subst (λ (l : List Token). Lexes text at l None) (sym (append-nil line)) lexed) h

tells : (verb : Verb) (sig : Signature) (text : List ℕ) (result : ScriptError) (error : ScriptError) → result ≡ error → TellsRefusal verb sig text error → TellsRefusal verb sig text result
tells verb sig text result error is h = subst (λ (e : ScriptError). TellsRefusal verb sig text e) (sym is) h

faults_first : (verb : Verb) (sig : Signature) (text : List ℕ) (at next : ℕ) (calls : List Call) (number : ℕ) (line : List Token) (error result : ScriptError) → Reached verb sig text at calls number
    → AreOneLine line → IsEndedLine text at line next → Refuses verb sig number line calls error
    → ((fault : LexError) × (result ≡ refusal_of_fault fault) × TellsFaultFrom text next fault) ⊎ ((result ≡ error) × ((tokens : List Token) × Lexes text next tokens None))
    → TellsRefusal verb sig text result
faults_first verb sig text at next calls number line error result here plain ended h (inl f) =
    tells verb sig text result (refusal_of_fault f.0) f.1
    (fault_at verb sig text (here.before ++ (line ++ ended.newline ∷ [])) next f.0
    (λ tokens end more.
    subst (λ (ts : List Token). Lexes text 0 ts end) (sym (regroup here.before line ended.newline tokens))
    (here.lexed (line ++ ended.newline ∷ tokens) end (ended.goes tokens end more))) f.2)
faults_first verb sig text at next calls number line error result here plain ended h (inr f) =
    tells verb sig text result error f.0
    (refused_line verb sig text at calls number line (ended.newline ∷ f.1.0) error here (text_lines f.1.0)
    (cut_line line ended.newline f.1.0 plain ended.is_one) (ended.goes f.1.0 None f.1.1) h)

-- a line before the last one is refused
pub reached_refused : (verb : Verb) (sig : Signature) (text : List ℕ) (at next : ℕ) (calls : List Call) (number : ℕ) (line : List Token) (error result : ScriptError) → Reached verb sig text at calls number
    → AreOneLine line → IsEndedLine text at line next → Refuses verb sig number line calls error → FaultsFirst text next error result → TellsRefusal verb sig text result
reached_refused verb sig text at next calls number line error (refusal.Refused n p) here plain ended h f = faults_first verb sig text at next calls number line error (refusal.Refused n p) here plain ended h f
reached_refused verb sig text at next calls number line error (refusal.Line n p) here plain ended h f = faults_first verb sig text at next calls number line error (refusal.Line n p) here plain ended h f
reached_refused verb sig text at next calls number line error (refusal.Late n p) here plain ended h f = faults_first verb sig text at next calls number line error (refusal.Late n p) here plain ended h f
reached_refused verb sig text at next calls number line error refusal.Memory here plain ended h f = tt

-- all lines are read, the last one too
pub finished : (verb : Verb) (sig : Signature) (text : List ℕ) (at : ℕ) (line : List Token) (old new : List Call) (number : ℕ) → Reached verb sig text at old number
    → AreOneLine line → Lexes text at line None → Takes verb sig number line old new → AreCallsOf verb sig text new
finished verb sig text at line old new number here plain lexed taken = record {
  tokens = here.before ++ line;
  lexed = here.lexed line None lexed;
  read =
      subst (λ (l : List Call). Reads verb sig 1 0 (text_lines (here.before ++ line)) l None)
      (ap (λ (l : List Call). old ++ l) (append-nil taken.more) ∙ sym taken.calls)
      (here.reads line (taken.more ++ []) None
      (subst (λ (l : List (List Token)). Reads verb sig number (length old) l (taken.more ++ []) None) (sym (last_line line plain)) (taken.reads [] [] None ends)));
}
