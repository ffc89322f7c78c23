-- How faults of tokens refuse a script.
use Rattle.kat_lex.specs.declared.lexer.LexError.{LexError}
use Rattle.kat_lex.specs.declared.lexer.LexError.TheVariants as lex
use Rattle.kat_script.specs.declared.error.ScriptError.{ScriptError}
use Rattle.kat_script.specs.declared.error.ScriptError.TheVariants as refusal

-- the refusal of a fault of tokens, at a byte
abbrev pub refusal_of_fault : LexError → ScriptError
refusal_of_fault (lex.BadByte at) = refusal.Refused 1 at
refusal_of_fault (lex.LongName at) = refusal.Refused 2 at
refusal_of_fault (lex.LongNumber at) = refusal.Refused 3 at
refusal_of_fault lex.Memory = refusal.Memory
