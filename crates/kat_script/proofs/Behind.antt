-- Lines that are passed over while a fault of tokens is looked for.
use Rattle.std.proofs.Common.{◌≡◌, ℕ, ◌≤◌, List, [], ◌∷◌, ◌++◌, length, refl, sym, ap, ◌∙◌, subst, append_assoc, inl, inr, Option, None, Some}
use Rattle.kat_lex.proofs.LineReading.{IsEndedLine}
use Rattle.kat_lex.specs.Tokens.{Lexes}
use Rattle.kat_lex.specs.declared.lexer.LexError.{LexError}
use Rattle.kat_lex.specs.declared.lexer.LexError.TheVariants as lex
use Rattle.kat_lex.specs.declared.lexer.Token.{Token}
use Rattle.kat_script.specs.Faults.{refusal_of_fault}
use Rattle.kat_script.specs.Reading.{FaultsFirst, TellsFaultFrom}
use Rattle.kat_script.specs.declared.error.ScriptError.{ScriptError}
use Rattle.kat_script.specs.declared.error.ScriptError.TheVariants as refusal

-- some tokens were passed over
pub record Passed (text : List ℕ) (from at : ℕ) : Type 0 where
  pub within : at ≤ length text
  pub before : List Token
  pub lexed : (tokens : List Token) (end : Option LexError) → Lexes text at tokens end → Lexes text from (before ++ tokens) end

pub passed_none : (text : List ℕ) (from : ℕ) → from ≤ length text → Passed text from from
passed_none text from within = record { within = within; before = []; lexed = λ tokens end more. more }

pub passed_line : (text : List ℕ) (from at next : ℕ) (line : List Token) → Passed text from at → IsEndedLine text at line next → Passed text from next
passed_line text from at next line passed ended = record {
  within = ended.within;
  before = passed.before ++ (line ++ ended.newline ∷ []);
  lexed = λ tokens end more.
      subst (λ (ts : List Token). Lexes text from ts end)
      (sym (append_assoc passed.before (line ++ ended.newline ∷ []) tokens ∙ ap (λ l. passed.before ++ l) (append_assoc line (ended.newline ∷ []) tokens)))
      (passed.lexed (line ++ ended.newline ∷ tokens) end (ended.goes tokens end more));
}

pub passed_fault : (text : List ℕ) (from at : ℕ) (fault : LexError) → Passed text from at → TellsFaultFrom text at fault → TellsFaultFrom text from fault
passed_fault text from at (lex.BadByte p) passed h = (passed.before ++ h.0, passed.lexed h.0 (Some (lex.BadByte p)) h.1)
passed_fault text from at (lex.LongName p) passed h = (passed.before ++ h.0, passed.lexed h.0 (Some (lex.LongName p)) h.1)
passed_fault text from at (lex.LongNumber p) passed h = (passed.before ++ h.0, passed.lexed h.0 (Some (lex.LongNumber p)) h.1)
passed_fault text from at lex.Memory passed h = tt

-- a fault is found
faults_first : (text : List ℕ) (from : ℕ) (error : ScriptError) (fault : LexError) → TellsFaultFrom text from fault → FaultsFirst text from error (refusal_of_fault fault)
faults_first text from error (lex.BadByte p) h = inl (lex.BadByte p, refl, h)
faults_first text from error (lex.LongName p) h = inl (lex.LongName p, refl, h)
faults_first text from error (lex.LongNumber p) h = inl (lex.LongNumber p, refl, h)
faults_first text from error lex.Memory h = tt

pub found_fault : (text : List ℕ) (from at : ℕ) (error result : ScriptError) (fault : LexError) → Passed text from at → TellsFaultFrom text at fault
    → result ≡ refusal_of_fault fault → FaultsFirst text from error result
found_fault text from at error result fault passed h is =
    subst (λ (e : ScriptError). FaultsFirst text from error e) (sym is) (faults_first text from error fault (passed_fault text from at fault passed h))

-- none is found up to the end
pub found_none : (text : List ℕ) (from at : ℕ) (error : ScriptError) (line : List Token) → Passed text from at → Lexes text at line None → FaultsFirst text from error error
found_none text from at (refusal.Refused n p) line passed h = inr (refl, (passed.before ++ line, passed.lexed line None h))
found_none text from at (refusal.Line n p) line passed h = inr (refl, (passed.before ++ line, passed.lexed line None h))
found_none text from at (refusal.Late n p) line passed h = inr (refl, (passed.before ++ line, passed.lexed line None h))
found_none text from at refusal.Memory line passed h = tt
