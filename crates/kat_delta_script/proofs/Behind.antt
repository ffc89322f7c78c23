-- Lines that are passed over while a fault of tokens is looked for.
use Rattle.std.proofs.Common.{◌≡◌, ℕ, List, ◌++◌, refl, sym, subst, inl, inr, None}
use Rattle.kat_lex.specs.Tokens.{Lexes}
use Rattle.kat_lex.specs.declared.lexer.LexError.{LexError}
use Rattle.kat_lex.specs.declared.lexer.LexError.TheVariants as lex
use Rattle.kat_lex.specs.declared.lexer.Token.{Token}
use Rattle.kat_script.specs.Faults.{refusal_of_fault}
use Rattle.kat_script.specs.Reading.{TellsFaultFrom}
use Rattle.kat_script.specs.declared.error.ScriptError.TheVariants as refusal
use Rattle.kat_script.proofs.Behind.{Passed, passed_fault}
use Rattle.kat_delta_script.specs.Reading.{FaultsFirst}
use Rattle.kat_delta_script.specs.declared.error.DeltaScriptError.{DeltaScriptError}
use Rattle.kat_delta_script.specs.declared.error.DeltaScriptError.TheVariants.{Script, NoCount, Gap}

-- a fault is found
faults_first : (text : List ℕ) (from : ℕ) (error : DeltaScriptError) (fault : LexError) → TellsFaultFrom text from fault → FaultsFirst text from error (Script (refusal_of_fault fault))
faults_first text from error (lex.BadByte p) h = inl (lex.BadByte p, refl, h)
faults_first text from error (lex.LongName p) h = inl (lex.LongName p, refl, h)
faults_first text from error (lex.LongNumber p) h = inl (lex.LongNumber p, refl, h)
faults_first text from error lex.Memory h = tt

pub found_fault : (text : List ℕ) (from at : ℕ) (error result : DeltaScriptError) (fault : LexError) → Passed text from at → TellsFaultFrom text at fault
    → result ≡ Script (refusal_of_fault fault) → FaultsFirst text from error result
found_fault text from at error result fault passed h is =
    subst (λ (e : DeltaScriptError). FaultsFirst text from error e) (sym is) (faults_first text from error fault (passed_fault text from at fault passed h))

-- none is found up to the end
pub found_none : (text : List ℕ) (from at : ℕ) (error : DeltaScriptError) (line : List Token) → Passed text from at → Lexes text at line None → FaultsFirst text from error error
found_none text from at (Script (refusal.Refused n p)) line passed h = inr (refl, (passed.before ++ line, passed.lexed line None h))
found_none text from at (Script (refusal.Line n p)) line passed h = inr (refl, (passed.before ++ line, passed.lexed line None h))
found_none text from at (Script (refusal.Late n p)) line passed h = inr (refl, (passed.before ++ line, passed.lexed line None h))
found_none text from at (Script refusal.Memory) line passed h = tt
found_none text from at (NoCount l) line passed h = inr (refl, (passed.before ++ line, passed.lexed line None h))
found_none text from at (Gap l origin have need) line passed h = inr (refl, (passed.before ++ line, passed.lexed line None h))
