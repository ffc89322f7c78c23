-- What a type file says, and its first refusal.
use Rattle.std.specs.Prelude.{◌≡◌, ℕ, List, Some}
use Rattle.kat_grammar.specs.Files.{IsTextOf, Says}
use Rattle.kat_grammar.specs.Files as grammar
use Rattle.kat_grammar.specs.Forms.{type_form as written_form}
use Rattle.kat_grammar.specs.Marks.{placed}
use Rattle.kat_grammar.specs.declared.errors.GrammarError.{GrammarError}
use Rattle.kat_grammar.specs.declared.errors.GrammarError.TheVariants as refusal
use Rattle.kat_grammar.specs.declared.phrases.TypeText.{TypeText}
use Rattle.kat_lex.specs.Tokens.{TokensOf}
use Rattle.kat_lex.specs.declared.lexer.Token.{Token}
use Rattle.kat_type.specs.Types.{TypeForm}
use Rattle.kat_type.specs.declared.errors.TypeError.{TypeError}
use Rattle.kat_type.specs.declared.errors.TypeError.TheVariants.{Refused, Memory}
use Rattle.kat_type_file.specs.Rules.{KeepsRules}
use Rattle.kat_type_file.specs.Sizes.{IsSmall}
use Rattle.kat_type_file.specs.Typing.{first_refusal, type_in}
use Rattle.kat_judging.specs.declared.faults.Fault.{Fault}

-- a refusal of the grammar, by its number
abbrev pub type_error : GrammarError → TypeError
type_error (refusal.BadByte at) = Refused 1 at
type_error (refusal.LongName at) = Refused 2 at
type_error (refusal.LongNumber at) = Refused 3 at
type_error (refusal.Syntax at) = Refused 4 at
type_error (refusal.TooLarge at) = Refused 9 at
type_error refusal.Memory = Memory

-- the bytes are a text of these phrases, by the grammar, and no expression is too large
pub record IsWritten (text : List ℕ) (phrases : TypeText) : Type 0 where
  pub tokens : List Token
  pub lexed : TokensOf text tokens
  pub says : Says (placed tokens) (written_form phrases)
  pub small : IsSmall phrases

-- the bytes are a text of this type: by the grammar, and it keeps the rules of names, sorts, ranks and limits
pub record IsTypeFile (text : List ℕ) (ty : TypeForm) : Type 0 where
  pub phrases : TypeText
  pub is_text : IsWritten text phrases
  pub keeps : KeepsRules phrases
  pub says : ty ≡ type_in phrases

-- the first refusal of a text: that of its grammar, or else the first rule that its phrases break
pub data IsRefusedFile (text : List ℕ) (error : TypeError) : Type 0 where
  by_grammar : (fault : GrammarError) → grammar.IsRefused text fault → error ≡ type_error fault → IsRefusedFile text error
  by_rule : (phrases : TypeText) → IsTextOf text (written_form phrases) → (fault : Fault) → first_refusal phrases ≡ Some fault
      → error ≡ Refused fault.number fault.at → IsRefusedFile text error

-- the error tells that refusal; out of memory says nothing
abbrev pub TellsFileRefusal : List ℕ → TypeError → Type 0
TellsFileRefusal text Memory = Unit {0}
TellsFileRefusal text error = IsRefusedFile text error
